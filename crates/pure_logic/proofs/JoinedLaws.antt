-- The joined fulfilments of a list in order are those that reach nothing but labels of the list.
use Rattle.std.proofs.Common.{◌≡◌, ◌↔◌, Bool, true, false, cond, ◌||◌, nat_eq, List, [], ◌∷◌, inl, inr, refl, ap, sym, ◌∙◌}
use Rattle.std.proofs.lemmas.Bool.{eq-eqb}
use Rattle.std.specs.List.{list_all}
use Rattle.pure_text.specs.Lists.{IsIn, Each}
use Rattle.pure_text.proofs.ListLaws.{each_of, each_at}
use Rattle.pure_definitions.specs.Names.{Label}
use Rattle.pure_logic.specs.Fulfilment.{label_eq, Fulfilment, is_label_of, joined, Reaches, rests_on, through, HasLabel, AreInOrder}
use Rattle.pure_logic.proofs.FulfilmentLaws.{label_of-some, each_passes}
use Rattle.pure_definitions.proofs.EntryLemmas.{chosen}

-- Joined ones are of the list.
joined-among : (es : List Fulfilment) (e : Fulfilment) → IsIn e (joined es) → IsIn e es
joined-among [] e m = m
joined-among (f ∷ fs) e m = by (list_all (is_label_of (joined fs)) f.rests) m (joined-among fs e)
  where
    by : (b : Bool) → IsIn e (cond b (f ∷ joined fs) (joined fs)) → (IsIn e (joined fs) → IsIn e fs) → IsIn e (f ∷ fs)
    by true m inside = elim m [ inl same ↦ inl same | inr n ↦ inr (inside n) ]
    by false m inside = inr (inside m)

-- In a list in order one label is that of one fulfilment.
one_of_label : (es : List Fulfilment) → AreInOrder es → (e f : Fulfilment) → IsIn e es → IsIn f es → e.label ≡ f.label → e ≡ f
one_of_label [] h e f m n same = absurd m
one_of_label (g ∷ gs) h e f (inl a) (inl b) same = a ∙ sym b
one_of_label (g ∷ gs) h e f (inl a) (inr n) same = absurd (h.0 (f, n, rw (← a) (sym same)))
one_of_label (g ∷ gs) h e f (inr m) (inl b) same = absurd (h.0 (e, m, rw (← b) same))
one_of_label (g ∷ gs) h e f (inr m) (inr n) same = one_of_label gs h.2 e f m n same

-- What is reached within a list is reached within a longer one; and back, from one behind the first.
reaches-more : (e : Fulfilment) (es : List Fulfilment) (g : Fulfilment) (k : Label) → Reaches es g k → Reaches (e ∷ es) g k
reaches-more e es g k (rests_on m) = rests_on m
reaches-more e es g k (through f n o r) = through f (inr n) o (reaches-more e es f k r)

reaches-behind : (e : Fulfilment) (es : List Fulfilment) → AreInOrder (e ∷ es) → (g : Fulfilment) (k : Label) → IsIn g es → Reaches (e ∷ es) g k → Reaches es g k
reaches-behind e es h g k m (rests_on n) = rests_on n
reaches-behind e es h g k m (through f (inl same) o r) = absurd (h.1 g (inr m) (rw (← same) o))
reaches-behind e es h g k m (through f (inr n) o r) = through f n o (reaches-behind e es h f k n r)

-- What is reached is rested on by one of the list.
reached-rested : (es : List Fulfilment) (g : Fulfilment) (k : Label) → IsIn g es → Reaches es g k → (f : Fulfilment) × IsIn f es × IsIn k f.rests
reached-rested es g k m (rests_on n) = (g, m, n)
reached-rested es g k m (through f n o r) = reached-rested es f k n r

-- What one behind the first reaches is a label behind it, where it is a label at all.
label-behind : (e : Fulfilment) (es : List Fulfilment) → AreInOrder (e ∷ es) → (g : Fulfilment) (k : Label) → IsIn g es → Reaches es g k → HasLabel (e ∷ es) k → HasLabel es k
label-behind e es h g k m r (f, inl same, own) =
    let rested = reached-rested es g k m r in
    absurd (h.1 rested.0 (inr rested.1) (rw (← same, own) rested.2))
label-behind e es h g k m r (f, inr n, own) = (f, n, own)

abbrev OnlyLabels : List Fulfilment → Fulfilment → Type 0
OnlyLabels es e = (k : Label) → Reaches es e k → HasLabel es k

label_eq-itself : (l : Label) → label_eq l l ≡ true
label_eq-itself l =
    let theories : nat_eq l.theory l.theory ≡ true = eq-eqb l.theory l.theory refl in
    let commands : nat_eq l.command l.command ≡ true = eq-eqb l.command l.command refl in
    let parts : nat_eq l.part l.part ≡ true = eq-eqb l.part l.part refl in
    rw (theories, commands, parts) refl

is_label-of : (es : List Fulfilment) (f : Fulfilment) (l : Label) → IsIn f es → f.label ≡ l → is_label_of es l ≡ true
is_label-of [] f l m own = absurd m
is_label-of (g ∷ gs) f l (inl same) own =
    let here : label_eq g.label l ≡ true = rw (← own) (rw (← same) (label_eq-itself f.label)) in
    rw here refl
is_label-of (g ∷ gs) f l (inr m) own = by (label_eq g.label l) (is_label-of gs f l m own)
  where
    by : (b : Bool) → is_label_of gs l ≡ true → (b || is_label_of gs l) ≡ true
    by true later = refl
    by false later = later

all_pass : (test : Label → Bool) (ls : List Label) → Each (λ l. test l ≡ true) ls → list_all test ls ≡ true
all_pass test [] h = refl
all_pass test (l ∷ ls) h = rw h.0 (all_pass test ls h.1)

-- the first of a list in order, where the law holds of those behind it
module _ (e : Fulfilment) (es : List Fulfilment) (h : AreInOrder (e ∷ es)) (behind : (f : Fulfilment) → IsIn f es → IsIn f (joined es) ↔ OnlyLabels es f) where
  abbrev test : Bool
  test = list_all (is_label_of (joined es)) e.rests

  -- A label of the list on which the proof of the first rests is of a joined one behind it.
  rested-joined : test ≡ true → (l : Label) → IsIn l e.rests → (f : Fulfilment) × IsIn f (joined es) × (f.label ≡ l)
  rested-joined passes l m = label_of-some (joined es) l (each_at (λ k. is_label_of (joined es) k ≡ true) e.rests (each_passes (is_label_of (joined es)) e.rests passes) l m)

  first-only : test ≡ true → OnlyLabels (e ∷ es) e
  first-only passes k (rests_on m) = let found = rested-joined passes k m in (found.0, inr (joined-among es found.0 found.1), found.2)
  first-only passes k (through f (inl same) o r) = let own : f.label ≡ e.label = ap (λ g. g.label) same in absurd (h.1 e (inl refl) (rw (← own) o))
  first-only passes k (through f (inr n) o r) =
      let found = rested-joined passes f.label o in
      let one = one_of_label es h.2 found.0 f (joined-among es found.0 found.1) n found.2 in
      let label = (behind f n).0 (rw one at found.1) k (reaches-behind e es h f k n r) in
      (label.0, inr label.1, label.2)

  only-behind : (g : Fulfilment) → IsIn g es → OnlyLabels (e ∷ es) g → OnlyLabels es g
  only-behind g m only k r = label-behind e es h g k m r (only k (reaches-more e es g k r))

  first-passes : OnlyLabels (e ∷ es) e → test ≡ true
  first-passes only = all_pass (is_label_of (joined es)) e.rests (each_of (λ l. is_label_of (joined es) l ≡ true) e.rests (λ l m. by l m (only l (rests_on m))))
    where
      by : (l : Label) → IsIn l e.rests → HasLabel (e ∷ es) l → is_label_of (joined es) l ≡ true
      by l m (f, inl same, own) = let label : l ≡ e.label = sym own ∙ ap (λ g. g.label) same in absurd (h.1 e (inl refl) (rw (← label) m))
      by l m (f, inr n, own) =
          let reached = λ (k : Label) (r : Reaches es f k). label-behind e es h f k n r (only k (through f (inr n) (rw own m) (reaches-more e es f k r))) in
          is_label-of (joined es) f l ((behind f n).1 reached) own

  first-exactly : IsIn e (joined (e ∷ es)) ↔ OnlyLabels (e ∷ es) e
  first-exactly = (by test refl, λ only. rw (first-passes only) (inl refl))
    where
      by : (b : Bool) → test ≡ b → IsIn e (cond b (e ∷ joined es) (joined es)) → OnlyLabels (e ∷ es) e
      by true passes m = first-only passes
      by false fails m = absurd (h.0 (e, joined-among es e m, refl))

  behind-exactly : (g : Fulfilment) → IsIn g es → IsIn g (joined (e ∷ es)) ↔ OnlyLabels (e ∷ es) g
  behind-exactly g m = (
    λ n k r. (let label = (behind g m).0 (by test n) k (reaches-behind e es h g k m r) in (label.0, inr label.1, label.2)),
    λ only. (let inside = (behind g m).1 (only-behind g m only) in chosen (λ fs. IsIn g fs) test (e ∷ joined es) (joined es) (λ t. inr inside) inside),
  )
    where
      by : (b : Bool) → IsIn g (cond b (e ∷ joined es) (joined es)) → IsIn g (joined es)
      by true n = elim n [ inl same ↦ absurd (h.0 (g, m, rw same refl)) | inr o ↦ o ]
      by false n = n

pub joined_exactly : (es : List Fulfilment) → AreInOrder es → (e : Fulfilment) → IsIn e es → IsIn e (joined es) ↔ ((k : Label) → Reaches es e k → HasLabel es k)
joined_exactly [] h e m = absurd m
joined_exactly (f ∷ fs) h e (inl same) = rw same (first-exactly f fs h (joined_exactly fs h.2))
joined_exactly (f ∷ fs) h e (inr m) = behind-exactly f fs h (joined_exactly fs h.2) e m
