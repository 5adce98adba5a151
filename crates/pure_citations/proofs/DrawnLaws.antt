-- Lines of the graph.
use Rattle.std.proofs.Common.{◌≡◌, ◌↔◌, ◌⊎◌, ◌∙◌, ◌<◌, ◌≤◌, ◌+◌, ◌*◌, ◌-◌, ◌/◌, ◌%◌, ℕ, zero, suc, List, [], ◌∷◌, ◌++◌, length, get_or, take, drop, append_assoc, inl, inr, refl, sym, ap, subst, arith}
use Rattle.std.specs.List.{flat_map}
use Rattle.std.proofs.lemmas.List.{append-nil, take_all}
use Rattle.std.proofs.lemmas.Grind.{flat_map-append}
use Rattle.pure_text.specs.Lists.{IsIn, EachTwo}
use Rattle.pure_typ.specs.NameTexts.{AreSessionTexts, HasText}
use Rattle.pure_lookup.proofs.TextLemmas.{one_name}
use Rattle.pure_order_tables.specs.Rows.{Holds}
use Rattle.pure_order_tables.proofs.RowLaws.{none_held}
use Rattle.pure_promise_fates.specs.Reach.{IsAt}
use Rattle.pure_promise_fates.proofs.PlaceLaws.{at-once, at-read}
use Rattle.pure_citations.specs.Drawn.{HasName}
use Rattle.pure_citations.specs.Heads.{Picks, IsTextOf, IsPutOf, IsPut}
use Rattle.pure_citations.specs.Index.{IsCode, IsNodeAt}
use Rattle.pure_citations.specs.Reached.{Gains}
use Rattle.pure_citations.specs.declared.nodes.Node.{Node}
use Rattle.pure_citations.proofs.CitedCode.{beside-at}
use Rattle.pure_citations.proofs.IndexLaws.{word-clear}

-- The set holds none of 64 places whose word has no bits.
pub clear-from : (words : List ℕ) (place : ℕ) → place % 64 ≡ 0 → get_or words (place / 64) 0 ≡ 0 → (q : ℕ) → place ≤ q → q < place + 64 → Holds words q → ⊥
clear-from words place first none q from before h =
    let whole : q ≡ place / 64 * 64 + (q - place) = omega arith in
    let less : q - place < 64 = omega arith in
    word-clear words (place / 64) (q - place) none less (subst (Holds words) whole h)

module _ {A : Type 0} where
  picks-none : (P : A → Type 0) (xs : List A) → ((x : A) → IsIn x xs → P x → ⊥) → Picks P xs []
  picks-none P [] none = Picks.none
  picks-none P (x ∷ xs) none = Picks.leaves (none x (inl refl)) (picks-none P xs (λ y m. none y (inr m)))

  picks-append : (P : A → Type 0) (xs ys some more : List A) → Picks P xs some → Picks P ys more → Picks P (xs ++ ys) (some ++ more)
  picks-append P [] ys [] more Picks.none k = k
  picks-append P [] ys (z ∷ some) more h k = elim h [ ]
  picks-append P (x ∷ xs) ys (x' ∷ some) more (Picks.takes p h) k = Picks.takes p (picks-append P xs ys some more h k)
  picks-append P (x ∷ xs) ys some more (Picks.leaves p h) k = Picks.leaves p (picks-append P xs ys some more h k)

  -- What stands in a part of a list, and where.
  in-part : (xs : List A) (place n : ℕ) (x : A) → IsIn x (take n (drop place xs)) → (q : ℕ) × IsAt xs q x × (place ≤ q) × (q < place + n)
  in-part [] zero zero x m = absurd m
  in-part [] zero (suc n) x m = absurd m
  in-part [] (suc place) zero x m = absurd m
  in-part [] (suc place) (suc n) x m = absurd m
  in-part (y ∷ xs) zero zero x m = absurd m
  in-part (y ∷ xs) zero (suc n) x (inl same) = (zero, sym same, omega arith, omega arith)
  in-part (y ∷ xs) zero (suc n) x (inr m) = let w = in-part xs zero n x m in (suc w.0, w.1, omega arith, omega (arith, w.3))
  in-part (y ∷ xs) (suc place) n x m = let w = in-part xs place n x m in (suc w.0, w.1, omega (arith, w.2), omega (arith, w.3))

  take-nothing : (n : ℕ) → ◌≡◌ {A = List A} (take n []) []
  take-nothing zero = refl
  take-nothing (suc n) = refl

  take-apart : (xs : List A) (p n : ℕ) → take (p + n) xs ≡ take p xs ++ take n (drop p xs)
  take-apart xs zero n = let same : 0 + n ≡ n = omega arith in ap (λ k. take k xs) same
  take-apart [] (suc p) n = take-nothing (suc p + n) ∙ sym (take-nothing n)
  take-apart (x ∷ xs) (suc p) n = let same : suc p + n ≡ suc (p + n) = omega arith in ap (λ k. take k (x ∷ xs)) same ∙ ap (λ ys. x ∷ ys) (take-apart xs p n)

  part-one : (xs : List A) (place : ℕ) (x : A) → place < length xs → x ≡ get_or xs place x → take 1 (drop place xs) ≡ x ∷ []
  part-one [] place x less is = absurd (omega (arith, less))
  part-one (y ∷ xs) zero x less is = ap (λ z. z ∷ []) (sym is)
  part-one (y ∷ xs) (suc place) x less is = part-one xs place x (omega (arith, less)) is

module _ {A : Type 0} (line : A → List ℕ) (P : A → Type 0) where
  pub put-nothing : (old : List ℕ) → IsPutOf line P [] old old
  put-nothing old = ([], record { picked = []; picks = Picks.none; text_is = refl }, sym (append-nil old))

  -- Nothing is put of elements without the property.
  pub put-none : (xs : List A) → ((x : A) → IsIn x xs → P x → ⊥) → (old : List ℕ) → IsPutOf line P xs old old
  put-none xs none old = ([], record { picked = []; picks = picks-none P xs none; text_is = refl }, sym (append-nil old))

  put-one : (x : A) (old new : List ℕ) → IsPut (P x) old (line x) new → IsPutOf line P (x ∷ []) old new
  put-one x old new (inl (is, e)) = (line x, record { picked = x ∷ []; picks = Picks.takes is Picks.none; text_is = sym (append-nil (line x)) }, e)
  put-one x old new (inr (not, e)) = ([], record { picked = []; picks = Picks.leaves not Picks.none; text_is = refl }, e ∙ sym (append-nil old))

  put-both : (xs ys : List A) (old mid new : List ℕ) → IsPutOf line P xs old mid → IsPutOf line P ys mid new → IsPutOf line P (xs ++ ys) old new
  put-both xs ys old mid new h k = (
    h.0 ++ k.0,
    record {
      picked = (h.1).picked ++ (k.1).picked;
      picks = picks-append P xs ys (h.1).picked (k.1).picked (h.1).picks (k.1).picks;
      text_is = (λ i. (h.1).text_is i ++ (k.1).text_is i) ∙ sym (flat_map-append line (h.1).picked (k.1).picked);
    },
    k.2 ∙ (ap (λ t. t ++ k.0) h.2 ∙ append_assoc old h.0 k.0),
  )

  module _ (xs : List A) (held : List ℕ) (fits : (q : ℕ) (x : A) → IsAt xs q x → Holds held q ↔ P x) where
    -- A word without bits is passed over,
    pub put-clear : (place next : ℕ) → next ≡ place + 64 → ((q : ℕ) → place ≤ q → q < place + 64 → Holds held q → ⊥) → (old : List ℕ) → IsPutOf line P (take (next - place) (drop place xs)) old old
    put-clear place next is none old = put-none (take (next - place) (drop place xs)) (λ x m p.
        let w = in-part xs place (next - place) x m in
        none w.0 w.2 (omega (arith, w.3, is)) ((fits w.0 x w.1).1 p)) old

    -- or one element is looked at.
    pub put-at : (place : ℕ) (x : A) → place < length xs → x ≡ get_or xs place x → (old new : List ℕ) → IsPut (Holds held place) old (line x) new → IsPutOf line P (take (place + 1 - place) (drop place xs)) old new
    put-at place x less is old new put =
        let at : IsAt xs place x = subst (IsAt xs place) (sym is) (at-read xs place x less) in
        let count : place + 1 - place ≡ 1 = omega arith in
        let part : take (place + 1 - place) (drop place xs) ≡ x ∷ [] = ap (λ n. take n (drop place xs)) count ∙ part-one xs place x less is in
        subst (λ ys. IsPutOf line P ys old new) (sym part) (put-one x old new (elim put [ inl w ↦ inl ((fits place x at).0 w.0, w.1) | inr w ↦ inr (λ p. w.0 ((fits place x at).1 p), w.1) ]))

  -- One step further.
  pub put-further : (xs : List A) (place next : ℕ) → place < next → (old mid new : List ℕ) → IsPutOf line P (take place xs) old mid → IsPutOf line P (take (next - place) (drop place xs)) mid new → IsPutOf line P (take next xs) old new
  put-further xs place next less old mid new h k =
      let whole : take next xs ≡ take place xs ++ take (next - place) (drop place xs) = ap (λ n. take n xs) (omega (arith, less)) ∙ take-apart xs place (next - place) in
      subst (λ ys. IsPutOf line P ys old new) (sym whole) (put-both (take place xs) (take (next - place) (drop place xs)) old mid new h k)

  pub put-end : (xs : List A) (place : ℕ) → length xs ≤ place → (old new : List ℕ) → IsPutOf line P (take place xs) old new → IsPutOf line P xs old new
  put-end xs place past old new h = subst (λ ys. IsPutOf line P ys old new) (take_all place xs past) h

  -- Properties that say the same.
  pub put-same : (Q : A → Type 0) → ((x : A) → P x ↔ Q x) → (xs : List A) (old new : List ℕ) → IsPutOf line P xs old new → IsPutOf line Q xs old new
  put-same Q same xs old new h = (h.0, record { picked = (h.1).picked; picks = again xs (h.1).picked (h.1).picks; text_is = (h.1).text_is }, h.2)
    where
      again : (ys some : List A) → Picks P ys some → Picks Q ys some
      again [] [] Picks.none = Picks.none
      again [] (z ∷ some) k = elim k [ ]
      again (y ∷ ys) (y' ∷ some) (Picks.takes p k) = Picks.takes ((same y).0 p) (again ys some k)
      again (y ∷ ys) some (Picks.leaves p k) = Picks.leaves (λ q. p ((same y).1 q)) (again ys some k)

-- The places that are put in are those of the nodes whose names the set holds.
pub held-named : (texts : List (List ℕ)) → AreSessionTexts texts → (nodes : List Node) (codes named held : List ℕ) → EachTwo (IsCode texts) nodes codes
    → ((q : ℕ) → Holds held q ↔ ((number : ℕ) × Holds named number × IsNodeAt codes number q)) → (q : ℕ) (n : Node) → IsAt nodes q n → Holds held q ↔ HasName texts named n
held-named texts session nodes codes named held two put q n at = (
  λ h. let w = (put q).0 h in (w.0, subst (IsCode texts n) (at-once codes q b.0 (suc w.0) b.1 w.2) b.2, w.1),
  λ w. (put q).1 (back w b.0 b.1 b.2),
)
  where
    b : (code : ℕ) × IsAt codes q code × IsCode texts n code
    b = beside-at (IsCode texts) nodes codes two q n at

    back : HasName texts named n → (code : ℕ) → IsAt codes q code → IsCode texts n code → (number : ℕ) × Holds named number × IsNodeAt codes number q
    back w zero at_code is = absurd (is w.0 w.1)
    back w (suc k) at_code is = (w.0, w.2, subst (λ m. IsAt codes q (suc m)) (one_name texts session n.name k w.0 is w.1) at_code)

-- The text of one element more.
pub all-more_text : {A : Type 0} (line : A → List ℕ) (xs : List A) (x : A) (start old new : List ℕ) → old ≡ start ++ flat_map line xs → new ≡ old ++ line x → new ≡ start ++ flat_map line (xs ++ x ∷ [])
all-more_text line xs x start old new h e =
    e ∙ (ap (λ t. t ++ line x) h ∙ (append_assoc start (flat_map line xs) (line x)
    ∙ ap (λ t. start ++ t) (sym (flat_map-append line xs (x ∷ []) ∙ ap (λ t. flat_map line xs ++ t) (append-nil (line x))))))

-- What a set holds that held nothing before.
pub gained : (P : ℕ → Type 0) (new : List ℕ) → Gains P [] new → (q : ℕ) → Holds new q ↔ P q
gained P new h q = (λ w. elim ((h q).0 w) [ inl p ↦ p | inr void ↦ absurd (none_held 0 q void) ], λ p. (h q).1 (inl p))

-- The same of names, nodes and places that are lent.
pub held-lent : (texts : List (List ℕ)) → AreSessionTexts texts → (nodes : List Node) (codes named held : List ℕ) → EachTwo (IsCode texts) nodes codes → Gains (λ q. (number : ℕ) × Holds named number × IsNodeAt codes number q) [] held
    → (lent : List (List ℕ)) (ns : List Node) (hs : List ℕ) → lent ≡ texts → ns ≡ nodes → hs ≡ held → (q : ℕ) (n : Node) → IsAt ns q n → Holds hs q ↔ HasName lent named n
held-lent texts session nodes codes named held two put lent ns hs texts_are nodes_are held_are q n at =
    subst (λ ts. Holds hs q ↔ HasName ts named n) (sym texts_are)
    (subst (λ ps. Holds ps q ↔ HasName texts named n) (sym held_are)
    (held-named texts session nodes codes named held two (gained (λ q. (number : ℕ) × Holds named number × IsNodeAt codes number q) held put) q n (subst (λ xs. IsAt xs q n) nodes_are at)))
