-- Variables fall: where a variable is set to a narrowed type, those of each type under the settings are among the images of the others.
use Rattle.std.proofs.Common.{◌≡◌, ℕ, ◌+◌, ◌<◌, List, [], ◌∷◌, ◌++◌, map, length, inl, inr, ◌⊎◌, refl, ap, sym, subst, ◌∙◌, arith}
use Rattle.std.proofs.lemmas.List.{length-append, length-map}
use Rattle.pure_text.specs.Lists.{IsIn}
use Rattle.pure_text.proofs.ListLaws.{in-map, moved}
use Rattle.pure_definitions.specs.Types.Typ.{Typ, TFree, TVar, Con}
use Rattle.pure_definitions.specs.Types.Occurs.{OccursInTyp}
use Rattle.pure_definitions.specs.Types.Order.{Algebra}
use Rattle.pure_definitions.specs.Terms.Subst.{TypBind, typ_instance}
use Rattle.pure_term_laws.specs.LawsOccurs.{IsTypVariable}
use Rattle.pure_term_laws.proofs.OccursLaws.{typ_variable_of_typ_instance}
use Rattle.pure_term_laws.proofs.SubstLaws.{typ_instance-identity}
use Rattle.pure_tunify.specs.Unifiers.{IsFresh}
use Rattle.pure_tunify.specs.Steps.{setting}
use Rattle.pure_tunify.specs.Settings.{composed, bind}
use Rattle.pure_tunify.specs.Procedure.{IsSchematic, Narrows, fits, replace}
use Rattle.pure_tunify.proofs.MapLaws.{setting-itself, setting-other, setting-cases}
use Rattle.pure_tunify.proofs.SettingLaws.{composed-fixed, setting-new}
use Rattle.pure_tunify.proofs.NarrowLaws.{first_occurs, is_fresh_of}
use Rattle.pure_tunify.proofs.TreatLaws.{narrows_image}
use Rattle.pure_tunify.proofs.ReductionLaws.{composed-append}
use Rattle.pure_tunify.proofs.DecidedLaws.{same_or_not}
use Rattle.pure_tunify.proofs.SchematicLaws.{schematic_occurs, schematic_variable, fixed_schematic}

module _ (A : Algebra) (index : ℕ) where
  instance_schematic : (more : List TypBind) → ((w : Typ) → IsSchematic w → IsSchematic (composed more w)) → (w : Typ) → IsSchematic w → IsSchematic (typ_instance (composed more) w)
  instance_schematic more on (TFree x o) is = absurd is
  instance_schematic more on (TVar x i o) is = on (TVar x i o) is
  instance_schematic more on (Con k ts) is = absurd is

  setting_schematic : (y j n : ℕ) (q r : List ℕ) (v : Typ) → IsSchematic v → IsSchematic (setting y j q (TVar n index r) v)
  setting_schematic y j n q r v is = setting-cases IsSchematic y j q (TVar n index r) v (λ e. tt) is

  -- Narrowing makes schematic variables of schematic variables, and leaves those that don't occur in the type.
  narrows_renames : (s : List ℕ) {n m : ℕ} {t u : Typ} {more : List TypBind} → Narrows A index s n t more m u → (v : Typ) → IsSchematic v → IsSchematic (composed more v)
  narrows_renames s (fits of) v is = is
  narrows_renames s (replace {n = n} {more = more} y j q r first need rest) v is =
      instance_schematic more (λ w k. narrows_renames s rest w k) (setting y j q (TVar n index r) v) (setting_schematic y j n q r v is)

  narrows_leaves : (s : List ℕ) {n m : ℕ} {t u : Typ} {more : List TypBind} → Narrows A index s n t more m u → (x i : ℕ) (o : List ℕ) → ¬ IsFresh index n (TVar x i o) → ¬ OccursInTyp (TVar x i o) t → composed more (TVar x i o) ≡ TVar x i o
  narrows_leaves s (fits of) x i o new away = refl
  narrows_leaves s (replace {n = n} {t = t} {more = more} y j q r first need rest) x i o new away =
      ap (typ_instance (composed more)) (setting-other y j q (TVar n index r) (TVar x i o) (λ e. away (subst (λ (v : Typ). OccursInTyp v t) e (first_occurs A t s (TVar y j q) first))))
      ∙ narrows_leaves s rest x i o (λ f. new (f.0, (let h = f.1 in omega arith)))
      (setting-new (TVar x i o) tt (bind y j q (TVar n index r)) t (λ e. new (is_fresh_of index n (TVar x i o) r (sym e))) away)

-- The list is this element between two others.
pub split_at_member : (v : Typ) (vs : List Typ) → IsIn v vs → (front : List Typ) × (back : List Typ) × (vs ≡ front ++ v ∷ back)
split_at_member v [] m = absurd m
split_at_member v (w ∷ vs) (inl e) = ([], vs, λ i. sym e i ∷ vs)
split_at_member v (w ∷ vs) (inr m) = let rest = split_at_member v vs m in (w ∷ rest.0, rest.1, ap (λ ws. w ∷ ws) rest.2)

pub shorter : (v : Typ) (vs front back : List Typ) (f : Typ → Typ) → vs ≡ front ++ v ∷ back → length (map f (front ++ back)) < length vs
shorter v vs front back f e =
    let whole : length vs ≡ length front + length (v ∷ back) = ap length e ∙ length-append front (v ∷ back) in
    let rest = length-append front back in
    let same = length-map (front ++ back) f in
    omega arith

module _ (A : Algebra) (index n m : ℕ) (x i : ℕ) (s : List ℕ) (t u : Typ) (more : List TypBind) (narrows : Narrows A index s n t more m u) (new : ¬ IsFresh index n (TVar x i s)) (away : ¬ OccursInTyp (TVar x i s) t)
    (front back : List Typ) (inside : (w : Typ) → IsSchematic w → OccursInTyp w t → IsIn w (front ++ TVar x i s ∷ back)) where
  abbrev others : List Typ
  others = map (composed more) (front ++ back)

  among_others : (v : Typ) → IsIn v (front ++ TVar x i s ∷ back) → ¬ (v ≡ TVar x i s) → IsIn (composed more v) others
  among_others v m other = elim (moved (TVar x i s) front back v m) [ inl e ↦ absurd (other e) | inr n ↦ in-map (composed more) v (front ++ back) n ]

  -- What occurs in the image is a variable of the narrowed type.
  of_image : (w : Typ) → IsSchematic w → OccursInTyp w u → IsIn w others
  of_image w is o = by found.0 found.1 found.2 found.3
    where
      found : (v : Typ) × IsTypVariable v × OccursInTyp v t × OccursInTyp w (composed more v)
      found = typ_variable_of_typ_instance (composed more) w t (schematic_variable w is) (subst (OccursInTyp w) (sym (narrows_image A index s narrows)) o)

      by : (v : Typ) → IsTypVariable v → OccursInTyp v t → OccursInTyp w (composed more v) → IsIn w others
      by (TFree y q) variable there here = absurd (fixed_schematic w y q (subst (OccursInTyp w) (composed-fixed more y q) here) is)
      by (TVar y j q) variable there here =
          subst (λ (z : Typ). IsIn z others) (sym (schematic_occurs w (composed more (TVar y j q)) (narrows_renames A index s narrows (TVar y j q) tt) here))
          (among_others (TVar y j q) (inside (TVar y j q) tt there) (λ e. away (subst (λ (z : Typ). OccursInTyp z t) e there)))
      by (Con k ts) variable there here = absurd variable

  -- What occurs in a variable's image under all settings is among the others.
  of_variable : (v w : Typ) → IsSchematic v → IsSchematic w → IsIn v (front ++ TVar x i s ∷ back) → OccursInTyp w (composed (more ++ bind x i s u ∷ []) v) → IsIn w others
  of_variable v w is_variable is m o = by (composed more v) refl (narrows_renames A index s narrows v is_variable) (same_or_not (TVar x i s) (composed more v))
      (subst (OccursInTyp w) (composed-append more (bind x i s u ∷ []) v (schematic_variable v is_variable)) o)
    where
      last : (z : Typ) → IsSchematic z → typ_instance (composed (bind x i s u ∷ [])) z ≡ setting x i s u z
      last (TFree y q) k = absurd k
      last (TVar y j q) k = typ_instance-identity (setting x i s u (TVar y j q))
      last (Con k ts) h = absurd h

      by : (z : Typ) → composed more v ≡ z → IsSchematic z → (TVar x i s ≡ z) ⊎ ¬ (TVar x i s ≡ z) → OccursInTyp w (typ_instance (composed (bind x i s u ∷ [])) z) → IsIn w others
      by z e k (inl same) here = of_image w is (subst (OccursInTyp w) (last z k ∙ (ap (setting x i s u) (sym same) ∙ setting-itself x i s u)) here)
      by z e k (inr other) here =
          let there = subst (OccursInTyp w) (last z k ∙ setting-other x i s u z other) here in
          subst (λ (y : Typ). IsIn y others) (e ∙ sym (schematic_occurs w z k there))
          (among_others v m (λ f. other (sym (narrows_leaves A index s narrows x i s new away) ∙ (ap (composed more) (sym f) ∙ e))))

  pub of_type : (part w : Typ) → ((v : Typ) → IsSchematic v → OccursInTyp v part → IsIn v (front ++ TVar x i s ∷ back)) → IsSchematic w → OccursInTyp w (typ_instance (composed (more ++ bind x i s u ∷ [])) part) → IsIn w others
  of_type part w within is o = by found.0 found.1 found.2 found.3
    where
      found : (v : Typ) × IsTypVariable v × OccursInTyp v part × OccursInTyp w (composed (more ++ bind x i s u ∷ []) v)
      found = typ_variable_of_typ_instance (composed (more ++ bind x i s u ∷ [])) w part (schematic_variable w is) o

      by : (v : Typ) → IsTypVariable v → OccursInTyp v part → OccursInTyp w (composed (more ++ bind x i s u ∷ []) v) → IsIn w others
      by (TFree y q) variable there here = absurd (fixed_schematic w y q (subst (OccursInTyp w) (composed-fixed (more ++ bind x i s u ∷ []) y q) here) is)
      by (TVar y j q) variable there here = of_variable (TVar y j q) w tt is (within (TVar y j q) tt there) here
      by (Con k ts) variable there here = absurd variable
