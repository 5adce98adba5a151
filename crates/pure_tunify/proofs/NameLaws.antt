-- The names that the procedure uses: from the first on, each up to the next one.
use Rattle.std.proofs.Common.{◌≡◌, ℕ, ◌+◌, ◌<◌, ◌≤◌, List, [], ◌∷◌, ◌++◌, Some, inl, inr, ◌⊎◌, refl, sym, subst, arith}
use Rattle.pure_text.specs.Lists.{Each}
use Rattle.pure_text.proofs.ListLaws.{each_imply, each-append}
use Rattle.pure_definitions.specs.Types.Typ.{Typ, TVar}
use Rattle.pure_definitions.specs.Types.Occurs.{OccursInTyp}
use Rattle.pure_definitions.specs.Types.Order.{Algebra}
use Rattle.pure_definitions.specs.Terms.Subst.{TypBind, typ_instance}
use Rattle.pure_definitions.proofs.TypsLemmas.{occurs-itself}
use Rattle.pure_tunify.specs.declared.pair.TypPair.{TypPair}
use Rattle.pure_tunify.specs.Unifiers.{IsOld, IsOldPair}
use Rattle.pure_tunify.specs.Steps.{setting, instance_pair}
use Rattle.pure_tunify.specs.Settings.{composed, bind}
use Rattle.pure_tunify.specs.Procedure.{place_of, Shows, left_side, right_side, Narrows, fits, replace, IsTreated, Equalises, equal, treat}
use Rattle.pure_tunify.specs.ProcedureLaws.{IsNameUsed, AreNamesUsed}
use Rattle.pure_tunify.proofs.MapLaws.{setting-cases, fresh-later, variable_is_old, old-instance}
use Rattle.pure_tunify.proofs.PlaceLaws.{IsPlaceOf, difference_is_place}
use Rattle.pure_tunify.proofs.SettingLaws.{old-later}
use Rattle.pure_tunify.proofs.ReductionLaws.{treated}

-- the images of the settings are old
abbrev HaveOldImages : (index m : ℕ) → List TypBind → Type 0
HaveOldImages index m sets = Each (λ b. IsOld index m b.image) sets

images-later : (index k m : ℕ) (sets : List TypBind) → k ≤ m → HaveOldImages index k sets → HaveOldImages index m sets
images-later index k m sets le h = each_imply (λ b. IsOld index k b.image) (λ b. IsOld index m b.image) sets (λ b old. old-later index k m b.image le old) h

used-left : (index k : ℕ) (sets more : List TypBind) → IsNameUsed index sets k → IsNameUsed index (sets ++ more) k
used-left index k [] more u = absurd u
used-left index k (b ∷ sets) more (inl here) = inl here
used-left index k (b ∷ sets) more (inr there) = inr (used-left index k sets more there)

used-right : (index k : ℕ) (sets more : List TypBind) → IsNameUsed index more k → IsNameUsed index (sets ++ more) k
used-right index k [] more u = u
used-right index k (b ∷ sets) more u = inr (used-right index k sets more u)

used-split : (index k : ℕ) (sets more : List TypBind) → IsNameUsed index (sets ++ more) k → IsNameUsed index sets k ⊎ IsNameUsed index more k
used-split index k [] more u = inr u
used-split index k (b ∷ sets) more (inl here) = inl (inl here)
used-split index k (b ∷ sets) more (inr there) = elim (used-split index k sets more there) [ inl u ↦ inl (inr u) | inr u ↦ inr u ]

below_or_not : (k n : ℕ) → (k < n) ⊎ (n ≤ k)
below_or_not k n = grind arith

first_or_later : (k n : ℕ) → n ≤ k → (k ≡ n) ⊎ (n + 1 ≤ k)
first_or_later k n h = grind arith

module _ (A : Algebra) (index : ℕ) where
  -- Narrowing uses the names from one to the next, and makes nothing that isn't old then.
  narrows_later : {s : List ℕ} {n m : ℕ} {t u : Typ} {more : List TypBind} → Narrows A index s n t more m u → n ≤ m
  narrows_later (fits of) = omega arith
  narrows_later (replace y j q r first need rest) = let later = narrows_later rest in omega arith

  narrows_use : {s : List ℕ} {n m : ℕ} {t u : Typ} {more : List TypBind} → Narrows A index s n t more m u → (k : ℕ) → n ≤ k → k < m → IsNameUsed index more k
  narrows_use (fits of) k low high = absurd (omega arith)
  narrows_use (replace {n = n} y j q r first need rest) k low high = elim (first_or_later k n low) [
    | inl same ↦ inl (r, subst (λ (x : ℕ). TVar n index r ≡ TVar x index r) (sym same) refl)
    | inr above ↦ inr (narrows_use rest k above high)
  ]

  fresh_is_old : (n : ℕ) (r : List ℕ) → IsOld index (n + 1) (TVar n index r)
  fresh_is_old n r = variable_is_old index (n + 1) n index r (λ f. (let below = f.1 in absurd (omega arith)))

  narrows_old : {s : List ℕ} {n m : ℕ} {t u : Typ} {more : List TypBind} → Narrows A index s n t more m u → IsOld index n t → HaveOldImages index m more × IsOld index m u
  narrows_old (fits of) old = (tt, old)
  narrows_old (replace {n = n} {m = m} {t = t} y j q r first need rest) old =
      let next_old : IsOld index (n + 1) (typ_instance (setting y j q (TVar n index r)) t) = old-instance index n (n + 1) (setting y j q (TVar n index r)) (λ x s. refl)
      (λ x i s new. setting-cases (IsOld index (n + 1)) y j q (TVar n index r) (TVar x i s) (λ e. fresh_is_old n r) (variable_is_old index (n + 1) x i s (fresh-later index n (n + 1) (TVar x i s) (omega arith) new))) t old in
      let after = narrows_old rest next_old in
      ((old-later index (n + 1) m (TVar n index r) (narrows_later rest) (fresh_is_old n r), after.0), after.1)

  treated_later : {n m : ℕ} {d : TypPair} {more : List TypBind} → IsTreated A index n d more m → n ≤ m
  treated_later h = narrows_later h.narrows

  treated_use : {n m : ℕ} {d : TypPair} {more : List TypBind} → IsTreated A index n d more m → (k : ℕ) → n ≤ k → k < m → IsNameUsed index more k
  treated_use h k low high = subst (λ (xs : List TypBind). IsNameUsed index xs k) (sym h.are) (used-left index k h.narrowed (bind h.name h.number h.sort h.image ∷ []) (narrows_use h.narrows k low high))

  other_old : {n : ℕ} (p d : TypPair) (x i : ℕ) (s : List ℕ) (t : Typ) → Shows d x i s t → IsPlaceOf p.left p.right d → IsOldPair index n p → IsOld index n t
  other_old p d x i s t (left_side y j r w) is old = λ v o. old.1 v (is.right_inside v o)
  other_old p d x i s t (right_side y j r w nope) is old = λ v o. old.0 v (is.left_inside v o)

  treated_old : {n m : ℕ} {more : List TypBind} (p d : TypPair) → place_of p ≡ Some d → IsTreated A index n d more m → IsOldPair index n p → HaveOldImages index m more
  treated_old {m = m} p d place h old =
      let after = narrows_old h.narrows (other_old p d h.name h.number h.sort h.other h.shown (difference_is_place p.left p.right d place) old) in
      subst (HaveOldImages index m) (sym h.are) (each-append (λ b. IsOld index m b.image) h.narrowed (bind h.name h.number h.sort h.image ∷ []) after.0 (after.1, tt))

  equalises_later : {n m : ℕ} {p : TypPair} {more : List TypBind} → Equalises A index n p more m → n ≤ m
  equalises_later (equal nowhere) = omega arith
  equalises_later (treat place at here rest) = let one = treated_later here in let two = equalises_later rest in omega arith

  equalises_use : {n m : ℕ} {p : TypPair} {more : List TypBind} → Equalises A index n p more m → (k : ℕ) → n ≤ k → k < m → IsNameUsed index more k
  equalises_use (equal nowhere) k low high = absurd (omega arith)
  equalises_use (treat {k = middle} {first = first} {more = more} place at here rest) k low high = elim (below_or_not k middle) [
    | inl below ↦ used-left index k first more (treated_use here k low below)
    | inr above ↦ used-right index k first more (equalises_use rest k above high)
  ]

  equalises_old : {n m : ℕ} {p : TypPair} {more : List TypBind} → Equalises A index n p more m → IsOldPair index n p → HaveOldImages index m more
  equalises_old (equal nowhere) old = tt
  equalises_old (treat {n = n} {k = k} {m = m} {p = p} {first = first} {more = more} place at here rest) old =
      let after : IsOldPair index k (instance_pair (composed first) p) = (treated A index n k p [] (old, tt) place first at here).left_old.0 in
      each-append (λ b. IsOld index m b.image) first more (images-later index k m first (equalises_later rest) (treated_old p place at here old)) (equalises_old rest after)

old_name : (index m k : ℕ) (more : List TypBind) → HaveOldImages index m more → IsNameUsed index more k → k < m
old_name index m k [] old u = absurd u
old_name index m k (b ∷ more) old (inl here) = elim (below_or_not k m) [
  | inl below ↦ below
  | inr above ↦ absurd (old.0 (TVar k index here.0) (occurs_here b.image here.1) (refl, above))
]
  where
    occurs_here : (t : Typ) → t ≡ TVar k index here.0 → OccursInTyp (TVar k index here.0) t
    occurs_here t e = occurs-itself (TVar k index here.0) t (sym e)
old_name index m k (b ∷ more) old (inr there) = old_name index m k more old.1 there

pub no_names : (index from : ℕ) → AreNamesUsed index from from []
no_names index from = record { later = omega arith; used = λ k low. (λ high. absurd (omega arith), λ u. absurd u) }

-- The names after one pair more.
pub names_next : (A : Algebra) (index from n m : ℕ) (sets more : List TypBind) (p : TypPair) → Equalises A index n p more m → IsOldPair index n p → AreNamesUsed index from n sets → AreNamesUsed index from m (sets ++ more)
names_next A index from n m sets more p e old names = record {
  later = (let a = names.later in let b = equalises_later A index e in omega arith);
  used = λ k low. (forth k low, back k low);
}
  where
    forth : (k : ℕ) → from ≤ k → k < m → IsNameUsed index (sets ++ more) k
    forth k low high = elim (below_or_not k n) [
      | inl below ↦ used-left index k sets more ((names.used k low).0 below)
      | inr above ↦ used-right index k sets more (equalises_use A index e k above high)
    ]

    back : (k : ℕ) → from ≤ k → IsNameUsed index (sets ++ more) k → k < m
    back k low u = elim (used-split index k sets more u) [
      | inl before ↦ (let below = (names.used k low).1 before in let further = equalises_later A index e in omega arith)
      | inr now ↦ old_name index m k more (equalises_old A index e old) now
    ]
