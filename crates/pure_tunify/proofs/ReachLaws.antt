-- The variables that occur in a type with all set variables replaced.
use Rattle.std.proofs.Common.{◌≡◌, ◌≢◌, ℕ, zero, suc, ◌<◌, ◌≤◌, ◌+◌, List, [], ◌∷◌, ◌++◌, map, get_or, inl, inr, ◌⊎◌, refl, ap, sym, subst, ◌∙◌, arith, Bool, true, false, cond, ◌↔◌, IsTrue, length, take, take_all}
use Rattle.std.specs.Prelude.{MatchBool}
use Rattle.std.specs.Bool.{OnTrue}
use Rattle.pure_text.specs.Lists.{IsIn, Each, AnyOf}
use Rattle.pure_text.proofs.ListLaws.{any_split, any-append_left, any-append_right, read_in}
use Rattle.pure_text.proofs.LoopLaws.{longer_by}
use Rattle.pure_definitions.specs.Types.Typ.{Typ, TFree, TVar, Con, Typs, none, also, typ_eq}
use Rattle.pure_definitions.specs.Types.Occurs.{OccursInTyp, OccursInTyps}
use Rattle.pure_definitions.specs.Terms.Subst.{TypBind, IsTypMap, typ_variable, typ_image, typ_instance, typs_instance}
use Rattle.pure_definitions.specs.Models.Equality.{typ_eq-same}
use Rattle.pure_definitions.proofs.TypsLemmas.{occurs-itself}
use Rattle.pure_term_laws.specs.LawsOccurs.{IsTypVariable}
use Rattle.pure_term_laws.proofs.OccursLaws.{typ_variable_of_typ_instance}
use Rattle.pure_term_laws.proofs.SubstLaws.{typ_instance-identity}
use Rattle.pure_tunify.specs.Settings.{composed}
use Rattle.pure_tunify.specs.Reached.{Covers, AreParts, IsReached, IsReachedBy}
use Rattle.pure_tunify.proofs.MapLaws.{setting-itself}
use Rattle.pure_tunify.proofs.SettingLaws.{composed-absent, instance-append, instance-new}

-- The types that a type reaches.
in_setting : (b : TypBind) (v w : Typ) → IsTypVariable v → OccursInTyp w (composed (b ∷ []) v) → (typ_variable b ≡ v) × OccursInTyp w b.image ⊎ OccursInTyp w v
in_setting b v w is o = by (typ_eq (typ_variable b) v) refl (subst (OccursInTyp w) (typ_instance-identity (typ_image (b ∷ []) v)) o)
  where
    by : (c : Bool) → typ_eq (typ_variable b) v ≡ c → OccursInTyp w (cond c b.image v) → (typ_variable b ≡ v) × OccursInTyp w b.image ⊎ OccursInTyp w v
    by true t here = inl (typ_eq-same (typ_variable b) v t, here)
    by false t here = inr here

variable_leaf : (w v : Typ) → IsTypVariable v → OccursInTyp w v → w ≡ v
variable_leaf w (TFree x s) is o = o
variable_leaf w (TVar x i s) is o = o
variable_leaf w (Con k ts) is o = absurd is

covers_next : (b : TypBind) (sets : List TypBind) (t : Typ) (old new : List Typ) → Covers sets t old → (AnyOf (OccursInTyp (typ_variable b)) old → (w : Typ) → OccursInTyp w b.image → AnyOf (OccursInTyp w) new) → ((w : Typ) → AnyOf (OccursInTyp w) old → AnyOf (OccursInTyp w) new)
    → Covers (sets ++ b ∷ []) t new
covers_next b sets t old new h image kept w is o =
    let found = typ_variable_of_typ_instance (composed (b ∷ [])) w (typ_instance (composed sets) t) is (subst (OccursInTyp w) (instance-append sets (b ∷ []) t) o) in
    elim (in_setting b found.0 w found.1 found.3) [
      | inl set ↦ image (subst (λ (v : Typ). AnyOf (OccursInTyp v) old) (sym set.0) (h found.0 found.1 found.2)) w set.1
      | inr same ↦ kept w (subst (λ (v : Typ). AnyOf (OccursInTyp v) old) (sym (variable_leaf w found.0 found.1 same)) (h found.0 found.1 found.2))
    ]

none_of : {X : Type 0} (P : X → Type 0) (xs : List X) → Each (λ x. ¬ P x) xs → ¬ AnyOf P xs
none_of P [] each any = any
none_of P (x ∷ xs) each (inl here) = each.0 here
none_of P (x ∷ xs) each (inr there) = none_of P xs each.1 there

covers_same : (b : TypBind) (sets : List TypBind) (t : Typ) (typs : List Typ) → ¬ AnyOf (OccursInTyp (typ_variable b)) typs → Covers sets t typs → Covers (sets ++ b ∷ []) t typs
covers_same b sets t typs nope h = covers_next b sets t typs typs h (λ any. absurd (nope any)) (λ w any. any)

covers_image : (b : TypBind) (sets : List TypBind) (t : Typ) (typs : List Typ) → Covers sets t typs → Covers (sets ++ b ∷ []) t (typs ++ b.image ∷ [])
covers_image b sets t typs h = covers_next b sets t typs (typs ++ b.image ∷ []) h (λ any w o. any-append_right (OccursInTyp w) typs (b.image ∷ []) (inl o)) (λ w any. any-append_left (OccursInTyp w) typs (b.image ∷ []) any)

-- What occurs in the image of a variable of a type occurs in the instance.
mutual
  occurs_in_instance : (typs : Typ → Typ) (v w t : Typ) → IsTypVariable v → OccursInTyp v t → OccursInTyp w (typs v) → OccursInTyp w (typ_instance typs t)
  occurs_in_instance typs v w (TFree x s) is e o = subst (λ (u : Typ). OccursInTyp w (typs u)) e o
  occurs_in_instance typs v w (TVar x i s) is e o = subst (λ (u : Typ). OccursInTyp w (typs u)) e o
  occurs_in_instance typs v w (Con k ts) is (inl e) o = absurd (rw e at is)
  occurs_in_instance typs v w (Con k ts) is (inr m) o = inr (occurs_in_instances typs v w ts is m o)

  occurs_in_instances : (typs : Typ → Typ) (v w : Typ) (ts : Typs) → IsTypVariable v → OccursInTyps v ts → OccursInTyp w (typs v) → OccursInTyps w (typs_instance typs ts)
  occurs_in_instances typs v w none is m o = absurd m
  occurs_in_instances typs v w (also t ts) is (inl m) o = inl (occurs_in_instance typs v w t is m o)
  occurs_in_instances typs v w (also t ts) is (inr m) o = inr (occurs_in_instances typs v w ts is m o)

absent_before : (v : Typ) (sets : List TypBind) (b : TypBind) → ¬ IsIn v (map typ_variable (sets ++ b ∷ [])) → (¬ IsIn v (map typ_variable sets)) × (v ≢ typ_variable b)
absent_before v [] b absent = (λ m. m, λ e. absent (inl e))
absent_before v (c ∷ sets) b absent =
    let rest = absent_before v sets b (λ m. absent (inr m)) in
    (λ m. elim m [ inl e ↦ absent (inl e) | inr n ↦ rest.0 n ], rest.1)

-- a variable that isn't set occurs in an instance where it occurs in the type
stays_in : (sets : List TypBind) (v t : Typ) → IsTypVariable v → ¬ IsIn v (map typ_variable sets) → OccursInTyp v t → OccursInTyp v (typ_instance (composed sets) t)
stays_in sets v t is absent o = occurs_in_instance (composed sets) v v t is o (occurs-itself v (composed sets v) (sym (composed-absent sets v is absent)))

parts_same : (b : TypBind) (sets : List TypBind) (t : Typ) (typs : List Typ) → AreParts sets t typs → AreParts (sets ++ b ∷ []) t typs
parts_same b sets t typs h v is absent any =
    let before = absent_before v sets b absent in
    subst (OccursInTyp v) (sym (instance-append sets (b ∷ []) t))
    (stays_in (b ∷ []) v (typ_instance (composed sets) t) is (λ m. elim m [ inl e ↦ before.1 e | inr n ↦ absurd n ]) (h v is before.0 any))

parts_image : (b : TypBind) (sets : List TypBind) (t : Typ) (typs : List Typ) → ¬ IsIn (typ_variable b) (map typ_variable sets) → AnyOf (OccursInTyp (typ_variable b)) typs → AreParts sets t typs → AreParts (sets ++ b ∷ []) t (typs ++ b.image ∷ [])
parts_image b sets t typs new there h v is absent any = by (any_split (OccursInTyp v) typs (b.image ∷ []) any)
  where
    image : composed (b ∷ []) (typ_variable b) ≡ b.image
    image = typ_instance-identity (typ_image (b ∷ []) (typ_variable b)) ∙ setting-itself b.name b.index b.sort b.image

    by : AnyOf (OccursInTyp v) typs ⊎ AnyOf (OccursInTyp v) (b.image ∷ []) → OccursInTyp v (typ_instance (composed (sets ++ b ∷ [])) t)
    by (inl before) = parts_same b sets t typs h v is absent before
    by (inr (inl o)) =
        subst (OccursInTyp v) (sym (instance-append sets (b ∷ []) t))
        (occurs_in_instance (composed (b ∷ [])) (typ_variable b) v (typ_instance (composed sets) t) tt (h (typ_variable b) tt new there) (subst (OccursInTyp v) (sym image) o))
    by (inr (inr n)) = absurd n

reached_first : (t : Typ) → IsReached [] t (t ∷ [])
reached_first t = record {
  covers = λ v is o. inl (subst (OccursInTyp v) (typ_instance-identity t) o);
  parts = λ v is absent any. elim any [ inl o ↦ subst (OccursInTyp v) (sym (typ_instance-identity t)) o | inr n ↦ absurd n ];
}

pub reach_none : (b : TypBind) (v : Typ) (typs slice : List Typ) → v ≡ typ_variable b → slice ≡ typs → Each (λ t. ¬ OccursInTyp v t) slice → IsReachedBy b typs typs
reach_none b v typs slice is same each sets t new h = record { covers = covers_same b sets t typs nope h.covers; parts = parts_same b sets t typs h.parts }
  where
    nope : ¬ AnyOf (OccursInTyp (typ_variable b)) typs
    nope = subst (λ (w : Typ). ¬ AnyOf (OccursInTyp w) typs) is (subst (λ (ts : List Typ). ¬ AnyOf (OccursInTyp v) ts) same (none_of (OccursInTyp v) slice each))

pub reach_image : (b : TypBind) (v image : Typ) (old slice new : List Typ) → v ≡ typ_variable b → slice ≡ old → AnyOf (OccursInTyp v) slice → image ≡ b.image → new ≡ old ++ image ∷ [] → IsReachedBy b old new
reach_image b v image old slice new named same any is e = subst (IsReachedBy b old) (sym (e ∙ ap (λ t. old ++ t ∷ []) is)) grown
  where
    there : AnyOf (OccursInTyp (typ_variable b)) old
    there = subst (λ (w : Typ). AnyOf (OccursInTyp w) old) named (subst (λ (ts : List Typ). AnyOf (OccursInTyp v) ts) same any)

    grown : IsReachedBy b old (old ++ b.image ∷ [])
    grown sets t fresh h = record { covers = covers_image b sets t old h.covers; parts = parts_image b sets t old fresh there h.parts }

pub reached_start : (t copy : Typ) (empty typs : List Typ) → empty ≡ [] → copy ≡ t → typs ≡ empty ++ copy ∷ [] → IsReached [] t typs
reached_start t copy empty typs nothing is e = subst (IsReached [] t) (sym (e ∙ (ap (λ xs. xs ++ copy ∷ []) nothing ∙ ap (λ u. u ∷ []) is))) (reached_first t)

-- In a map no variable stands before its own entry.
in_map : (b : TypBind) (sets : List TypBind) → IsIn b sets → IsIn (typ_variable b) (map typ_variable sets)
in_map b [] m = absurd m
in_map b (c ∷ sets) (inl e) = inl (ap typ_variable e)
in_map b (c ∷ sets) (inr m) = inr (in_map b sets m)

not_before : (sets : List TypBind) (i : ℕ) (b : TypBind) → i < length sets → b ≡ get_or sets i b → IsTypMap sets → ¬ IsIn (typ_variable b) (map typ_variable (take i sets))
not_before [] i b within read distinct m = absurd (omega arith)
not_before (c ∷ sets) zero b within read distinct m = m
not_before (c ∷ sets) (suc i) b within read distinct (inl e) = distinct.0 (subst (λ (v : Typ). IsIn v (map typ_variable sets)) e (in_map b sets (read_in sets i b (omega arith) read)))
not_before (c ∷ sets) (suc i) b within read distinct (inr m) = not_before sets i b (omega arith) read distinct.1 m

pub reached_turn : (sets items : List TypBind) (i : ℕ) (b : TypBind) (t : Typ) (old new : List Typ) → items ≡ sets → IsTypMap sets → i < length items → b ≡ get_or items i b → IsReached (take i items) t old → IsReachedBy b old new
    → IsReached (take (i + 1) items) t new
reached_turn sets items i b t old new same distinct within read h by =
    subst (λ (xs : List TypBind). IsReached xs t new) (sym (longer_by items i b within read))
    (by (take i items) t (not_before items i b within read (subst IsTypMap (sym same) distinct)) h)

pub reached_all : (sets items : List TypBind) (i : ℕ) (t : Typ) (typs : List Typ) → items ≡ sets → length items ≤ i → IsReached (take i items) t typs → IsReached sets t typs
reached_all sets items i t typs same full h = subst (λ (xs : List TypBind). IsReached xs t typs) (take_all i items full ∙ same) h

-- The variable occurs in no image.
pub in_no_image : (v : Typ) (sets items : List TypBind) (i : ℕ) → items ≡ sets → length items ≤ i → Each (λ b. ¬ OccursInTyp v b.image) (take i items) → Each (λ b. ¬ OccursInTyp v b.image) sets
in_no_image v sets items i same full each = subst (Each (λ b. ¬ OccursInTyp v b.image)) (take_all i items full ∙ same) each

-- Whether a variable that isn't set occurs: by the types that are reached, or by the type alone where no image has the variable.
pub occurs_by_types : (sets : List TypBind) (t v : Typ) (typs slice : List Typ) → IsTypVariable v → ¬ IsIn v (map typ_variable sets) → IsReached sets t typs → slice ≡ typs → (occurs : Bool)
    → MatchBool occurs (AnyOf (OccursInTyp v) slice) (Each (λ u. ¬ OccursInTyp v u) slice) → MatchBool occurs (OccursInTyp v (typ_instance (composed sets) t)) (¬ OccursInTyp v (typ_instance (composed sets) t))
occurs_by_types sets t v typs slice is absent h same true any = h.parts v is absent (subst (AnyOf (OccursInTyp v)) same any)
occurs_by_types sets t v typs slice is absent h same false each = λ o. none_of (OccursInTyp v) slice each (subst (AnyOf (OccursInTyp v)) (sym same) (h.covers v is o))

pub occurs_by_itself : (sets : List TypBind) (t v : Typ) → IsTypVariable v → ¬ IsIn v (map typ_variable sets) → Each (λ b. ¬ OccursInTyp v b.image) sets → (occurs : Bool) → (IsTrue occurs ↔ OccursInTyp v t)
    → MatchBool occurs (OccursInTyp v (typ_instance (composed sets) t)) (¬ OccursInTyp v (typ_instance (composed sets) t))
occurs_by_itself sets t v is absent images true h = stays_in sets v t is absent (h.0 refl)
occurs_by_itself sets t v is absent images false h = instance-new v is sets t images (λ o. false_true (h.1 o))
  where
    false_true : false ≡ true → ⊥
    false_true e = cc

pub on_true : (P : Type 0) (b : Bool) → OnTrue b P → b ≡ true → P
on_true P b h e = subst (λ (c : Bool). OnTrue c P) e h
