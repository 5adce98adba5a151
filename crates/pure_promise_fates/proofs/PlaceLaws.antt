-- Elements at places.
use Rattle.std.proofs.Common.{◌≡◌, ℕ, zero, suc, ◌<◌, List, [], ◌∷◌, inl, inr, refl, sym, ◌∙◌, ap, subst, map, length, get_or, arith}
use Rattle.std.specs.declared.cmp.Ordering.TheVariants.{Less}
use Rattle.std.proofs.lemmas.Bool.{cases_lt}
use Rattle.pure_text.specs.Lists.{IsIn}
use Rattle.pure_text.proofs.ListLaws.{in-map}
use Rattle.pure_theorem.specs.Sets.{label_cmp, IsLabelSet}
use Rattle.pure_promise_fates.specs.Entries.{Entry}
use Rattle.pure_promise_fates.specs.Reach.{IsAt}
use Rattle.pure_promise_fates.proofs.LabelSets.{first_below, rest_is_set, not_itself, not_both}

pub at-in : {A : Type 0} (xs : List A) (p : ℕ) (x : A) → IsAt xs p x → IsIn x xs
at-in [] p x h = absurd h
at-in (y ∷ ys) zero x h = inl (sym h)
at-in (y ∷ ys) (suc p) x h = inr (at-in ys p x h)

pub in-at : {A : Type 0} (xs : List A) (x : A) → IsIn x xs → (p : ℕ) × IsAt xs p x
in-at [] x m = absurd m
in-at (y ∷ ys) x (inl e) = (zero, sym e)
in-at (y ∷ ys) x (inr n) = let found = in-at ys x n in (suc found.0, found.1)

pub at-within : {A : Type 0} (xs : List A) (p : ℕ) (x : A) → IsAt xs p x → p < length xs
at-within [] p x h = absurd h
at-within (y ∷ ys) zero x h = omega arith
at-within (y ∷ ys) (suc p) x h = omega (arith, at-within ys p x h)

pub at-once : {A : Type 0} (xs : List A) (p : ℕ) (x y : A) → IsAt xs p x → IsAt xs p y → x ≡ y
at-once [] p x y a b = absurd a
at-once (z ∷ zs) zero x y a b = sym a ∙ b
at-once (z ∷ zs) (suc p) x y a b = at-once zs p x y a b

pub at-map : {A B : Type 0} (f : A → B) (xs : List A) (p : ℕ) (x : A) → IsAt xs p x → IsAt (map f xs) p (f x)
at-map f [] p x h = absurd h
at-map f (y ∷ ys) zero x h = ap f h
at-map f (y ∷ ys) (suc p) x h = at-map f ys p x h

pub at-read : {A : Type 0} (xs : List A) (p : ℕ) (d : A) → p < length xs → IsAt xs p (get_or xs p d)
at-read [] p d h = absurd (omega arith)
at-read (y ∷ ys) zero d h = refl
at-read (y ∷ ys) (suc p) d h = at-read ys p d (omega arith)

-- Labels that ascend are in the order of their places.
pub places_ascend : (es : List Entry) → IsLabelSet (map Entry.label es) → (i j : ℕ) (d e : Entry) → IsAt es i d → IsAt es j e → i < j → label_cmp d.label e.label ≡ Less
places_ascend [] h i j d e a b less = absurd a
places_ascend (f ∷ fs) h zero zero d e a b less = absurd (omega arith)
places_ascend (f ∷ fs) h zero (suc j) d e a b less = rw (← ap Entry.label a) (first_below f.label (map Entry.label fs) h e.label (in-map Entry.label e fs (at-in fs j e b)))
places_ascend (f ∷ fs) h (suc i) zero d e a b less = absurd (omega arith)
places_ascend (f ∷ fs) h (suc i) (suc j) d e a b less = places_ascend fs (rest_is_set f.label (map Entry.label fs) h) i j d e a b (omega arith)

pub one_place : (es : List Entry) → IsLabelSet (map Entry.label es) → (i j : ℕ) (d e : Entry) → IsAt es i d → IsAt es j e → d.label ≡ e.label → i ≡ j
one_place es h i j d e a b same = elim (cases_lt i j) [
  | inl less ↦ absurd (not_itself e.label (rw same at (places_ascend es h i j d e a b less)))
  | inr most ↦ elim (cases_lt j i) [
    | inl less ↦ absurd (not_itself d.label (rw (← same) at (places_ascend es h j i e d b a less)))
    | inr least ↦ omega (arith, most, least)
  ]
]

-- one that is before another by its label stands before it
pub place_before : (es : List Entry) → IsLabelSet (map Entry.label es) → (i j : ℕ) (d e : Entry) → IsAt es i d → IsAt es j e → label_cmp d.label e.label ≡ Less → i < j
place_before es h i j d e a b less = elim (cases_lt i j) [
  | inl before ↦ before
  | inr most ↦ elim (cases_lt j i) [
    | inl after ↦ absurd (not_both d.label e.label less (places_ascend es h j i e d b a after))
    | inr least ↦
        let same : i ≡ j = omega (arith, most, least) in
        let one : d ≡ e = at-once es j d e (subst (λ p. IsAt es p d) same a) b in
        absurd (not_itself e.label (rw (ap Entry.label one) at less))
  ]
]
