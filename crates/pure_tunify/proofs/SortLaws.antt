-- What the procedure sets is of its variable's sort, so that what unifies types is a substitution.
use Rattle.std.proofs.Common.{◌≡◌, ℕ, List, [], ◌∷◌, refl, sym, subst}
use Rattle.pure_text.specs.Lists.{Each}
use Rattle.pure_text.proofs.ListLaws.{each-append, each_of, each_at}
use Rattle.pure_definitions.specs.Types.Typ.{Typ, TVar}
use Rattle.pure_definitions.specs.Types.Order.{Algebra, IsOfClass, IsOfSort}
use Rattle.pure_definitions.specs.Terms.Subst.{TypBind, typ_image}
use Rattle.pure_tunify.specs.declared.pair.TypPair.{TypPair}
use Rattle.pure_tunify.specs.Unifiers.{IsSubstitution}
use Rattle.pure_tunify.specs.Settings.{composed, bind}
use Rattle.pure_tunify.specs.Procedure.{Narrows, IsNeededSort, IsTreated, Equalises, Unifies, Outcome, Unified}
use Rattle.pure_tunify.proofs.MapLaws.{identity_is_substitution, after_is_substitution, setting_is_substitution}

module _ (A : Algebra) where
  -- Each image is of its variable's sort.
  abbrev AreOfTheirSorts : List TypBind → Type 0
  AreOfTheirSorts sets = Each (λ b. IsOfSort A b.image b.sort) sets

  pub composed-substitution : (sets : List TypBind) → AreOfTheirSorts sets → IsSubstitution A (composed sets)
  composed-substitution [] h = identity_is_substitution A
  composed-substitution (b ∷ bs) h =
      after_is_substitution A (typ_image (b ∷ [])) (composed bs) (setting_is_substitution A b.name b.index b.sort b.image h.0) (composed-substitution bs h.1)

  needed-sort : (t : Typ) (s : List ℕ) (y j : ℕ) (q r : List ℕ) (n index : ℕ) → IsNeededSort A t s (TVar y j q) r → IsOfSort A (TVar n index r) q
  needed-sort t s y j q r n index h =
      each_of (λ c. IsOfClass A (TVar n index r) c) q
      (λ c m. (h.needed c).1 (λ typs sub of. each_at (λ d. IsOfClass A (typs (TVar y j q)) d) q (sub.respects.schematic y j q) c m))

  narrowed-sorts : {index : ℕ} {s : List ℕ} {n m : ℕ} {t u : Typ} {more : List TypBind} → Narrows A index s n t more m u → AreOfTheirSorts more × IsOfSort A u s
  narrowed-sorts (Narrows.fits of) = (tt, of)
  narrowed-sorts {index = index} {s = s} {n = n} {t = t} (Narrows.replace y j q r first needed rest) =
      let later = narrowed-sorts rest in
      ((needed-sort t s y j q r n index needed, later.0), later.1)

  treated-sorts : (index n m : ℕ) (p : TypPair) (more : List TypBind) → IsTreated A index n p more m → AreOfTheirSorts more
  treated-sorts index n m p more h =
      let inner = narrowed-sorts h.narrows in
      subst AreOfTheirSorts (sym h.are) (each-append (λ b. IsOfSort A b.image b.sort) h.narrowed (bind h.name h.number h.sort h.image ∷ []) inner.0 (inner.1, tt))

  equalised-sorts : {index n m : ℕ} {p : TypPair} {more : List TypBind} → Equalises A index n p more m → AreOfTheirSorts more
  equalised-sorts (Equalises.equal e) = tt
  equalised-sorts {index = index} {n = n} (Equalises.treat {k = k} {first = first} {more = more} place e t rest) =
      each-append (λ b. IsOfSort A b.image b.sort) first more (treated-sorts index n k place first t) (equalised-sorts rest)

  unified-sorts : {index at n : ℕ} {sets : List TypBind} {ps : List TypPair} {outcome : Outcome} → Unifies A index at n sets ps outcome → AreOfTheirSorts sets → (found : List TypBind) (m : ℕ) → outcome ≡ Unified found m → AreOfTheirSorts found
  unified-sorts (Unifies.over {sets = sets}) h found m e = let same : sets ≡ found = cc in subst AreOfTheirSorts same h
  unified-sorts (Unifies.no_typing b) h found m e = absurd (cc)
  unified-sorts (Unifies.big b l) h found m e = absurd (cc)
  unified-sorts (Unifies.next {sets = sets} {more = more} q l rest) h found m e =
      unified-sorts rest (each-append (λ b. IsOfSort A b.image b.sort) sets more h (equalised-sorts q)) found m e

  -- What unifies two types is a substitution.
  pub unified_substitution : {index at n : ℕ} {ps : List TypPair} (sets : List TypBind) (next : ℕ) → Unifies A index at n [] ps (Unified sets next) → IsSubstitution A (composed sets)
  unified_substitution sets next u = composed-substitution sets (unified-sorts u tt sets next refl)
