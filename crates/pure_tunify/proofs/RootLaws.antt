-- A variable that the procedure sets stood in the pairs, or in the image of one of them: so its image is no larger than that of a variable of the pairs.
use Rattle.std.proofs.Common.{◌≡◌, ℕ, List, [], ◌∷◌, ◌++◌, map, inl, inr, ◌⊎◌, refl, ap, sym, subst, ◌∙◌, arith}
use Rattle.pure_text.specs.Lists.{IsIn}
use Rattle.pure_definitions.specs.Types.Typ.{Typ, TFree, TVar, Con}
use Rattle.pure_definitions.specs.Types.Occurs.{OccursInTyp}
use Rattle.pure_definitions.specs.Types.Order.{Algebra}
use Rattle.pure_definitions.specs.Terms.Subst.{TypBind, typ_variable, typ_instance}
use Rattle.pure_definitions.specs.Terms.Limits.{IsWithinTyp}
use Rattle.pure_term_laws.specs.LawsOccurs.{IsTypVariable}
use Rattle.pure_term_laws.proofs.OccursLaws.{typ_variable_of_typ_instance}
use Rattle.pure_term_laws.proofs.SubstLaws.{typ_instance-identity}
use Rattle.pure_term_laws.proofs.MapLaws.{typ_instance-again}
use Rattle.pure_tunify.specs.declared.pair.TypPair.{TypPair}
use Rattle.pure_tunify.specs.Unifiers.{IsFresh, IsOldPair, IsMostGeneral}
use Rattle.pure_tunify.specs.Steps.{setting, instance_pair}
use Rattle.pure_tunify.specs.Settings.{composed, bind}
use Rattle.pure_tunify.specs.Procedure.{Shows, left_side, right_side, Narrows, fits, replace, IsTreated, Equalises, equal, treat}
use Rattle.pure_tunify.specs.Working.{HasImagesWithin}
use Rattle.pure_tunify.specs.ProcedureLaws.{HasOldImagesWithin}
use Rattle.pure_tunify.proofs.DecidedLaws.{same_or_not}
use Rattle.pure_tunify.proofs.NarrowLaws.{first_occurs}
use Rattle.pure_tunify.proofs.PlaceLaws.{IsPlaceOf, difference_is_place}
use Rattle.pure_tunify.proofs.ReductionLaws.{composed-append}
use Rattle.pure_tunify.proofs.SettingLaws.{as_variable, composed-absent, composed-fixed}
use Rattle.pure_tunify.proofs.SizeLaws.{shrinks, part_within}

-- Under any map that follows, the second variable's image is within the limits where the first one's is.
abbrev Bounds : (f : Typ → Typ) → (w v : Typ) → Type 0
Bounds f w v = (g : Typ → Typ) → IsWithinTyp (typ_instance g (f w)) → IsWithinTyp (typ_instance g (f v))

-- Each variable that is set is bounded by one with the property.
abbrev pub AreRooted : (P : Typ → Type 0) → List TypBind → Type 0
AreRooted P sets = (v : Typ) → IsIn v (map typ_variable sets) → (w : Typ) × IsTypVariable w × P w × Bounds (composed sets) w v

set_or_not : (v : Typ) (sets : List TypBind) → IsIn v (map typ_variable sets) ⊎ ¬ IsIn v (map typ_variable sets)
set_or_not v [] = inr (λ m. m)
set_or_not v (b ∷ bs) = elim (same_or_not v (typ_variable b)) [
  | inl same ↦ inl (inl same)
  | inr other ↦ elim (set_or_not v bs) [ inl m ↦ inl (inr m) | inr no_more ↦ inr (λ m. elim m [ inl e ↦ other e | inr n ↦ no_more n ]) ]
]

set_is_variable : (v : Typ) (sets : List TypBind) → IsIn v (map typ_variable sets) → IsTypVariable v
set_is_variable v [] m = absurd m
set_is_variable v (b ∷ bs) (inl e) = subst IsTypVariable (sym e) tt
set_is_variable v (b ∷ bs) (inr m) = set_is_variable v bs m

set_behind : (v : Typ) (first rest : List TypBind) → IsIn v (map typ_variable (first ++ rest)) → (¬ IsIn v (map typ_variable first)) → IsIn v (map typ_variable rest)
set_behind v [] rest m absent = m
set_behind v (b ∷ first) rest (inl e) absent = absurd (absent (inl e))
set_behind v (b ∷ first) rest (inr m) absent = set_behind v first rest m (λ n. absent (inr n))

-- Further settings are a map that follows.
after-append : (first rest : List TypBind) (g : Typ → Typ) (u : Typ) → IsTypVariable u → typ_instance (λ x. typ_instance g (composed rest x)) (composed first u) ≡ typ_instance g (composed (first ++ rest) u)
after-append first rest g u is = sym (typ_instance-again (composed rest) g (composed first u)) ∙ ap (typ_instance g) (sym (composed-append first rest u is))

bounds_further : (first rest : List TypBind) (w v : Typ) → IsTypVariable w → IsTypVariable v → Bounds (composed first) w v → Bounds (composed (first ++ rest)) w v
bounds_further first rest w v is_w is_v b g h =
    subst IsWithinTyp (after-append first rest g v is_v) (b (λ x. typ_instance g (composed rest x)) (subst IsWithinTyp (sym (after-append first rest g w is_w)) h))

rooted_imply : (P Q : Typ → Type 0) (sets : List TypBind) → ((w : Typ) → P w → Q w) → AreRooted P sets → AreRooted Q sets
rooted_imply P Q sets imply r v m = let found = r v m in (found.0, found.1, imply found.0 found.2, found.3)

-- Settings, and then further ones of variables that stand in images of such variables.
rooted_append : (P Q : Typ → Type 0) (first rest : List TypBind) → AreRooted P first → AreRooted Q rest → ((w : Typ) → IsTypVariable w → Q w → (u : Typ) × IsTypVariable u × P u × OccursInTyp w (composed first u)) → AreRooted P (first ++ rest)
rooted_append P Q first rest one two back v m = by (set_or_not v first)
  where
    is_v : IsTypVariable v
    is_v = set_is_variable v (first ++ rest) m

    bounded : (absent : ¬ IsIn v (map typ_variable first)) → (u w : Typ) → IsTypVariable u → IsTypVariable w → OccursInTyp w (composed first u) → Bounds (composed rest) w v → Bounds (composed (first ++ rest)) u v
    bounded absent u w is_u is_w o b g h =
        let part = part_within (λ x. typ_instance g (composed rest x)) w (composed first u) o (subst IsWithinTyp (sym (after-append first rest g u is_u)) h) in
        let image : composed rest v ≡ composed (first ++ rest) v = sym (composed-append first rest v is_v ∙ (ap (typ_instance (composed rest)) (composed-absent first v is_v absent) ∙ as_variable (composed rest) v is_v)) in
        subst IsWithinTyp (ap (typ_instance g) image) (b g (subst IsWithinTyp (as_variable (λ x. typ_instance g (composed rest x)) w is_w) part))

    by : IsIn v (map typ_variable first) ⊎ ¬ IsIn v (map typ_variable first) → (w : Typ) × IsTypVariable w × P w × Bounds (composed (first ++ rest)) w v
    by (inl there) = let found = one v there in (found.0, found.1, found.2, bounds_further first rest found.0 v found.1 is_v found.3)
    by (inr absent) =
        let found = two v (set_behind v first rest m absent) in
        let root = back found.0 found.1 found.2 in
        (root.0, root.1, root.2, bounded absent root.0 found.0 root.1 found.1 root.3 found.3)

rooted_none : (P : Typ → Type 0) → AreRooted P []
rooted_none P v m = absurd m

rooted_one : (P : Typ → Type 0) (b : TypBind) → P (typ_variable b) → AreRooted P (b ∷ [])
rooted_one P b p v (inl e) = (v, subst IsTypVariable (sym e) tt, subst P (sym e) p, λ g h. h)
rooted_one P b p v (inr m) = absurd m

-- One setting more, of a variable with the property.
rooted_last : (P : Typ → Type 0) (first : List TypBind) (b : TypBind) → AreRooted P first → P (typ_variable b) → AreRooted P (first ++ b ∷ [])
rooted_last P first b one p v m = by (set_or_not v first)
  where
    last : IsIn v (map typ_variable (b ∷ [])) → v ≡ typ_variable b
    last (inl e) = e
    last (inr n) = absurd n

    by : IsIn v (map typ_variable first) ⊎ ¬ IsIn v (map typ_variable first) → (w : Typ) × IsTypVariable w × P w × Bounds (composed (first ++ b ∷ [])) w v
    by (inl there) = let found = one v there in (found.0, found.1, found.2, bounds_further first (b ∷ []) found.0 v found.1 (set_is_variable v first there) found.3)
    by (inr absent) =
        let e = last (set_behind v first (b ∷ []) m absent) in
        (v, subst IsTypVariable (sym e) tt, subst P (sym e) p, λ g h. h)

-- What occurs in an instance stands in the image of a variable of the type.
in_instance : (sets : List TypBind) (w t : Typ) → IsTypVariable w → OccursInTyp w (typ_instance (composed sets) t) → (u : Typ) × IsTypVariable u × OccursInTyp u t × OccursInTyp w (composed sets u)
in_instance sets w t is o = typ_variable_of_typ_instance (composed sets) w t is o

-- The variable occurs in a side of the pair.
abbrev pub OccursInPair : TypPair → Typ → Type 0
OccursInPair p w = OccursInTyp w p.left ⊎ OccursInTyp w p.right

in_pair_instance : (sets : List TypBind) (p : TypPair) (w : Typ) → IsTypVariable w → OccursInPair (instance_pair (composed sets) p) w → (u : Typ) × IsTypVariable u × OccursInPair p u × OccursInTyp w (composed sets u)
in_pair_instance sets p w is (inl o) = let found = in_instance sets w p.left is o in (found.0, found.1, inl found.2, found.3)
in_pair_instance sets p w is (inr o) = let found = in_instance sets w p.right is o in (found.0, found.1, inr found.2, found.3)

module _ (A : Algebra) (index : ℕ) where
  narrows_rooted : {s : List ℕ} {n m : ℕ} {t u : Typ} {more : List TypBind} → Narrows A index s n t more m u → AreRooted (λ w. OccursInTyp w t) more
  narrows_rooted (fits {t = t} of) = rooted_none (λ w. OccursInTyp w t)
  narrows_rooted {s = s} (replace {n = n} {t = t} {more = more} y j q r first need rest) =
      let b = bind y j q (TVar n index r) in
      rooted_append (λ w. OccursInTyp w t) (λ w. OccursInTyp w (typ_instance (setting y j q (TVar n index r)) t)) (b ∷ []) more
      (rooted_one (λ w. OccursInTyp w t) b (first_occurs A t s (TVar y j q) first))
      (narrows_rooted rest)
      (λ w is o. (let found = typ_variable_of_typ_instance (setting y j q (TVar n index r)) w t is o in (found.0, found.1, found.2, subst (OccursInTyp w) (sym (typ_instance-identity (setting y j q (TVar n index r) found.0))) found.3)))

  shown_variable : (d : TypPair) (x i : ℕ) (s : List ℕ) (t : Typ) → Shows d x i s t → OccursInPair d (TVar x i s)
  shown_variable d x i s t (left_side y j r w) = inl refl
  shown_variable d x i s t (right_side y j r w nope) = inr refl

  shown_other : (d : TypPair) (x i : ℕ) (s : List ℕ) (t w : Typ) → Shows d x i s t → OccursInTyp w t → OccursInPair d w
  shown_other d x i s t w (left_side y j r u) o = inr o
  shown_other d x i s t w (right_side y j r u nope) o = inl o

  treated_rooted : {n m : ℕ} {d : TypPair} {more : List TypBind} → IsTreated A index n d more m → AreRooted (OccursInPair d) more
  treated_rooted {d = d} h = subst (AreRooted (OccursInPair d)) (sym h.are)
      (rooted_last (OccursInPair d) h.narrowed (bind h.name h.number h.sort h.image)
      (rooted_imply (λ w. OccursInTyp w h.other) (OccursInPair d) h.narrowed (λ w o. shown_other d h.name h.number h.sort h.other w h.shown o) (narrows_rooted h.narrows))
      (shown_variable d h.name h.number h.sort h.other h.shown))

  place_inside : (p d : TypPair) (w : Typ) → IsPlaceOf p.left p.right d → OccursInPair d w → OccursInPair p w
  place_inside p d w is (inl o) = inl (is.left_inside w o)
  place_inside p d w is (inr o) = inr (is.right_inside w o)

  equalises_rooted : {n m : ℕ} {p : TypPair} {more : List TypBind} → Equalises A index n p more m → AreRooted (OccursInPair p) more
  equalises_rooted (equal {p = p} nowhere) = rooted_none (OccursInPair p)
  equalises_rooted (treat {p = p} {first = first} {more = more} d at here rest) =
      rooted_append (OccursInPair p) (OccursInPair (instance_pair (composed first) p)) first more
      (rooted_imply (OccursInPair d) (OccursInPair p) first (λ w o. place_inside p d w (difference_is_place p.left p.right d at) o) (treated_rooted here))
      (equalises_rooted rest)
      (in_pair_instance first p)

  module _ (from : ℕ) where
    -- The settings of pairs without fresh variables are rooted in variables that aren't fresh.
    pub rooted_next : (n m : ℕ) (sets more : List TypBind) (p : TypPair) → IsOldPair index from p → AreRooted (λ w. ¬ IsFresh index from w) sets → Equalises A index n (instance_pair (composed sets) p) more m
        → AreRooted (λ w. ¬ IsFresh index from w) (sets ++ more)
    rooted_next n m sets more p old r e = rooted_append (λ w. ¬ IsFresh index from w) (OccursInPair (instance_pair (composed sets) p)) sets more r (equalises_rooted e)
        (λ w is o. (let found = in_pair_instance sets p w is o in (found.0, found.1, elim found.2 [ inl k ↦ old.0 found.0 k | inr k ↦ old.1 found.0 k ], found.3)))

    pub rooted_start : AreRooted (λ w. ¬ IsFresh index from w) []
    rooted_start = rooted_none (λ w. ¬ IsFresh index from w)

    -- So where the images of those are within the limits, all are.
    pub all_within : (sets : List TypBind) → AreRooted (λ w. ¬ IsFresh index from w) sets → HasOldImagesWithin index from (composed sets) → HasImagesWithin sets
    all_within sets r old x i s = elim (set_or_not (TVar x i s) sets) [
      | inl m ↦ (let found = r (TVar x i s) m in subst IsWithinTyp (typ_instance-identity (composed sets (TVar x i s)))
          (found.3 (λ v. v) (subst IsWithinTyp (sym (typ_instance-identity (composed sets found.0))) (root_within found.0 found.1 found.2))))
      | inr absent ↦ subst IsWithinTyp (sym (composed-absent sets (TVar x i s) tt absent)) (record { size = omega arith; depth = omega arith })
    ]
      where
        root_within : (w : Typ) → IsTypVariable w → (¬ IsFresh index from w) → IsWithinTyp (composed sets w)
        root_within (TFree y q) is new = subst IsWithinTyp (sym (composed-fixed sets y q)) (record { size = omega arith; depth = omega arith })
        root_within (TVar y j q) is new = old y j q new
        root_within (Con k ts) is new = absurd is

-- All most general unifiers have images as large.
pub within_as_general : (A : Algebra) (index from : ℕ) (pairs : List TypPair) (first second : Typ → Typ) → IsMostGeneral A index from pairs first → IsMostGeneral A index from pairs second → HasOldImagesWithin index from second → HasOldImagesWithin index from first
within_as_general A index from pairs first second one two within x i s new =
    let found = one.general second two.unifier in
    let image : IsWithinTyp (typ_instance found.0 (first (TVar x i s))) = subst IsWithinTyp (sym (found.2 x i s new)) (within x i s new) in
    shrinks found.0 (first (TVar x i s)) image
