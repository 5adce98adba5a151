-- Heads of rows that declare axioms and definitions.
use Rattle.std.proofs.Common.{◌≡◌, ◌≢◌, ◌↔◌, ◌∙◌, ◌+◌, ◌-◌, ◌≤◌, ℕ, List, [], ◌∷◌, ◌++◌, length, take, drop, take-append-drop, get_or, Bool, true, false, ◌&&◌, IsTrue, inl, inr, refl, sym, ap, subst, true≢false, arith}
use Rattle.std.specs.Prelude.{codes}
use Rattle.std.proofs.lemmas.List.{take_all, length-drop, append-nil}
use Rattle.std.proofs.lemmas.Grind.{flat_map-append}
use Rattle.std.specs.List.{flat_map}
use Rattle.pure_print.specs.declared.row.Row.{Row}
use Rattle.pure_print.specs.declared.row.RowStatus.TheVariants.{Declared}
use Rattle.pure_typ.specs.NameTexts.{AreSessionTexts, HasText}
use Rattle.pure_lookup.proofs.TextLemmas.{one_name}
use Rattle.pure_order_tables.specs.Rows.{Holds}
use Rattle.pure_statements.specs.Rows.{axiom_word, definition_word}
use Rattle.pure_citations.specs.Heads.{definition_end, HoldsText, HoldsHead, IsCitedRow, Picks, IsTextOf, IsPut}

pub text-found : (texts : List (List ℕ)) → AreSessionTexts texts → (row text : List ℕ) (n : ℕ) → HasText texts n text → (b : Bool) → IsTrue b ↔ Holds row n → IsTrue b ↔ HoldsText texts row text
text-found texts session row text n found b h = (
  λ t. (n, found, h.0 t),
  λ w. h.1 (subst (Holds row) (one_name texts session text w.0 n w.1 found) w.2),
)

pub text-missing : (texts : List (List ℕ)) (row text : List ℕ) → ((n : ℕ) → HasText texts n text → ⊥) → IsTrue false ↔ HoldsText texts row text
text-missing texts row text none = (λ t. absurd (true≢false (sym t)), λ w. absurd (none w.0 w.1))

-- What stands behind a word is one text.
cancel : (xs ys zs : List ℕ) → xs ++ ys ≡ xs ++ zs → ys ≡ zs
cancel [] ys zs e = e
cancel (x ∷ xs) ys zs e = cancel xs ys zs (let rest : xs ++ ys ≡ xs ++ zs = cc in rest)

-- The words, as the code has them.
pub axiom-said : (head full : List ℕ) → head ≡ codes "axiom " ++ full → head ≡ axiom_word ++ full
unfolding axiom_word
axiom-said head full e = e

pub axiom-unsaid : (head : List ℕ) → ((rest : List ℕ) → head ≢ codes "axiom " ++ rest) → (rest : List ℕ) → head ≡ axiom_word ++ rest → ⊥
unfolding axiom_word
axiom-unsaid head none rest e = none rest e

pub definition-said : (head constant : List ℕ) → head ≡ codes "definition " ++ constant → head ≡ definition_word ++ constant
unfolding definition_word
definition-said head constant e = e

pub definition-unsaid : (head : List ℕ) → ((rest : List ℕ) → head ≢ codes "definition " ++ rest) → (rest : List ℕ) → head ≡ definition_word ++ rest → ⊥
unfolding definition_word
definition-unsaid head none rest e = none rest e

-- A text that begins with a word is the word and what stands behind it.
behind-word : (word head : List ℕ) → take (length word) head ≡ word → head ≡ word ++ drop (length word) head
behind-word word head e = sym (take-append-drop (length word) head) ∙ ap (λ w. w ++ drop (length word) head) e

rest-whole : (n : ℕ) (head : List ℕ) → take (length head - n) (drop n head) ≡ drop n head
rest-whole n head = take_all (length head - n) (drop n head) (let long = length-drop n head in omega (arith, long))

pub split-word : (word head : List ℕ) → take (length word) head ≡ word → head ≡ word ++ take (length head - length word) (drop (length word) head)
split-word word head e = behind-word word head e ∙ ap (λ w. word ++ w) (sym (rest-whole (length word) head))

pub first-word : (word rest head : List ℕ) → head ≡ word ++ rest → take (length word) head ≡ word
first-word word rest head e = ap (take (length word)) e ∙ front word rest
  where
    front : (xs ys : List ℕ) → take (length xs) (xs ++ ys) ≡ xs
    front [] ys = refl
    front (x ∷ xs) ys = ap (λ zs. x ∷ zs) (front xs ys)

first-apart : (x y : ℕ) (xs ys : List ℕ) → x + 1 ≤ y → x ∷ xs ≡ y ∷ ys → ⊥
first-apart x y xs ys less e = let same : x ≡ y = ap (λ (l : List ℕ). get_or l 0 0) e in absurd (omega (arith, less, same))

-- No head is both that of an axiom and that of a definition.
words-apart : (a d : List ℕ) → axiom_word ++ a ≡ definition_word ++ d → ⊥
unfolding axiom_word definition_word
words-apart a d e = first-apart 97 100 _ _ (omega arith) e

module _ (texts : List (List ℕ)) (row head : List ℕ) where
  pub axiom-head : (full : List ℕ) → head ≡ axiom_word ++ full → (b : Bool) → IsTrue b ↔ HoldsText texts row full → IsTrue b ↔ HoldsHead texts row head
  axiom-head full is b h = (λ t. (full, inl is, h.0 t), λ w. h.1 (back w))
    where
      back : HoldsHead texts row head → HoldsText texts row full
      back (other, inl e, held) = subst (HoldsText texts row) (cancel axiom_word other full (sym e ∙ is)) held
      back (other, inr (c, e, d), held) = absurd (words-apart full c (sym is ∙ d))

  pub definition-head : (constant full : List ℕ) → head ≡ definition_word ++ constant → full ≡ constant ++ definition_end → (b : Bool) → IsTrue b ↔ HoldsText texts row full → IsTrue b ↔ HoldsHead texts row head
  definition-head constant full is end b h = (λ t. (full, inr (constant, end, is), h.0 t), λ w. h.1 (back w))
    where
      back : HoldsHead texts row head → HoldsText texts row full
      back (other, inl e, held) = absurd (words-apart other constant (sym e ∙ is))
      back (other, inr (c, e, d), held) =
          let same : c ≡ constant = cancel definition_word c constant (sym d ∙ is) in
          subst (HoldsText texts row) (e ∙ ap (λ x. x ++ definition_end) same ∙ sym end) held

  pub other-head : ((rest : List ℕ) → head ≡ axiom_word ++ rest → ⊥) → ((rest : List ℕ) → head ≡ definition_word ++ rest → ⊥) → IsTrue false ↔ HoldsHead texts row head
  other-head no_axiom no_definition = (λ t. absurd (true≢false (sym t)), λ w. absurd (none w))
    where
      none : HoldsHead texts row head → ⊥
      none (other, inl e, held) = no_axiom other e
      none (other, inr (c, e, d), held) = no_definition c d

-- One row more is looked at.
pub picks-more : {A : Type 0} (P : A → Type 0) (xs picked : List A) (x : A) → Picks P xs picked → P x → Picks P (xs ++ x ∷ []) (picked ++ x ∷ [])
picks-more P [] [] x Picks.none p = Picks.takes p Picks.none
picks-more P [] (y ∷ picked) x h p = elim h [ ]
picks-more P (y ∷ xs) (y' ∷ picked) x (Picks.takes q h) p = Picks.takes q (picks-more P xs picked x h p)
picks-more P (y ∷ xs) picked x (Picks.leaves q h) p = Picks.leaves q (picks-more P xs picked x h p)

pub picks-less : {A : Type 0} (P : A → Type 0) (xs picked : List A) (x : A) → Picks P xs picked → (P x → ⊥) → Picks P (xs ++ x ∷ []) picked
picks-less P [] [] x Picks.none p = Picks.leaves p Picks.none
picks-less P [] (y ∷ picked) x h p = elim h [ ]
picks-less P (y ∷ xs) (y' ∷ picked) x (Picks.takes q h) p = Picks.takes q (picks-less P xs picked x h p)
picks-less P (y ∷ xs) picked x (Picks.leaves q h) p = Picks.leaves q (picks-less P xs picked x h p)

module _ {A : Type 0} (line : A → List ℕ) (P : A → Type 0) where
  pub text-begins : IsTextOf line P [] []
  text-begins = record { picked = []; picks = Picks.none; text_is = refl }

  lines-more : (xs : List A) (x : A) → flat_map line (xs ++ x ∷ []) ≡ flat_map line xs ++ line x
  lines-more xs x = flat_map-append line xs (x ∷ []) ∙ ap (λ (w : List ℕ). flat_map line xs ++ w) (append-nil (line x))

  pub text-more : (xs : List A) (x : A) (old new : List ℕ) → IsTextOf line P xs old → IsPut (P x) old (line x) new → IsTextOf line P (xs ++ x ∷ []) new
  text-more xs x old new h (inl (is, e)) = record {
    picked = h.picked ++ x ∷ [];
    picks = picks-more P xs h.picked x h.picks is;
    text_is = e ∙ ap (λ (w : List ℕ). w ++ line x) h.text_is ∙ sym (lines-more h.picked x);
  }
  text-more xs x old new h (inr (not, e)) = record { picked = h.picked; picks = picks-less P xs h.picked x h.picks not; text_is = e ∙ h.text_is }

pub row-cited : (texts : List (List ℕ)) (row : List ℕ) (r : Row) (declared held : Bool) → IsTrue declared ↔ (r.status ≡ Declared) → IsTrue held ↔ HoldsHead texts row r.head → IsTrue (declared && held) ↔ IsCitedRow texts row r
row-cited texts row r true true d h = (λ t. (d.0 refl, h.0 refl), λ w. refl)
row-cited texts row r true false d h = (λ t. absurd (true≢false (sym t)), λ w. absurd (true≢false (sym (h.1 w.1))))
row-cited texts row r false held d h = (λ t. absurd (true≢false (sym t)), λ w. absurd (true≢false (sym (d.1 w.0))))
