-- What settings and long forms make of the types and variables in sides, and in which lists they stand.
use Rattle.std.proofs.Common.{◌≡◌, ℕ, List, [], ◌∷◌, ◌++◌, Bool, true, false, inl, inr, refl, sym, subst, ◌∙◌}
use Rattle.std.specs.Prelude.{if◌then◌else◌}
use Rattle.pure_text.specs.Lists.{IsIn, Each}
use Rattle.pure_text.proofs.ListLaws.{in-append_left, in-append_right}
use Rattle.pure_definitions.specs.Types.Typ.{Typ}
use Rattle.pure_definitions.specs.Terms.Term.{Term, Const, Free, Var, Bound, Abs, App, term_eq}
use Rattle.pure_definitions.specs.Terms.Bounds.{Occurs}
use Rattle.pure_definitions.specs.Terms.Subst.{TypBind, typ_instance, retyped_variable, term_image}
use Rattle.pure_definitions.specs.Reduction.Eta.{IsEtaNormalForm}
use Rattle.pure_definitions.specs.Models.Equality.{term_eq-itself}
use Rattle.pure_logic.specs.Derivable.{Pair}
use Rattle.pure_tunify.specs.Unifiers.{IsOld}
use Rattle.pure_tunify.specs.Occurrences.{schematics}
use Rattle.pure_tunify.specs.Settings.{composed}
use Rattle.pure_unify_definitions.specs.Fronts.{variables, pair_variables}
use Rattle.pure_unify_definitions.specs.Node.{Setting, Typs, Single, bind, with_setting, with_setting_put}
use Rattle.pure_unify_definitions.specs.LongSides.{Long, ComesTo, is_long, AllLong, AreLong, no_more, both_long}
use Rattle.pure_unify_answers.proofs.PartLaws.{IsOfParts, HasParts, normal-parts, eta-parts, long-parts, replaced-parts, implied-parts}
use Rattle.pure_tunify.proofs.SchematicLaws.{occurs_schematics}
use Rattle.pure_unify_answers.proofs.FewerLaws.{IsAmong, IsOldAmong}
use Rattle.pure_unify_answers.proofs.SpineLaws.{HavePartsIn}

module _ (P : Typ → Type 0) (V : Term → Type 0) (parts : IsOfParts P) where
  come-parts : (t u : Term) → ComesTo t (Long u) → HasParts P V t → HasParts P V u
  come-parts t u (is_long {n = n} b l w) h = long-parts P V parts n u l (normal-parts P V t n b h)

  -- Long forms have the parts of the sides.
  pub sides-parts : {ps qs : List Pair} → AreLong ps (AllLong qs) → Each (HavePartsIn P V) ps → Each (HavePartsIn P V) qs
  sides-parts no_more h = tt
  sides-parts (both_long {p = p} {l = l} {r = r} f g rest) h = ((come-parts p.left l f h.0.0, come-parts p.right r g h.0.1), sides-parts rest h.1)

-- The sides with a setting put in, where each side has such parts.
pub put-each : (P R : Typ → Type 0) (V W : Term → Type 0) (s : Setting) → ((t : Term) → HasParts P V t → HasParts R W (with_setting s t)) → (ps : List Pair) → Each (HavePartsIn P V) ps → Each (HavePartsIn R W) (with_setting_put s ps)
put-each P R V W s f [] h = tt
put-each P R V W s f (p ∷ ps) h = ((f p.left h.0.0, f p.right h.0.1), put-each P R V W s f ps h.1)

-- A setting of type variables.
pub retyped-parts : (P R : Typ → Type 0) (V : Term → Type 0) (sets : List TypBind) → ((T : Typ) → P T → R (typ_instance (composed sets) T)) → (t : Term) → HasParts P V t → HasParts R (λ v. Unit {0}) (with_setting (Typs sets) t)
retyped-parts P R V sets on t h =
    replaced-parts P R V (λ v. Unit {0}) (typ_instance (composed sets)) (retyped_variable (composed sets)) on (λ x T c. on T c) (λ x i T c v. (on T c, tt)) t h

-- A setting of a variable.
module _ (P : Typ → Type 0) (V W : Term → Type 0) (x i : ℕ) (T : Typ) (u : Term) (image : HasParts P W u) (others : (w : Term) → V w → ¬ (w ≡ Var x i T) → W w) where
  on_variable : (y j : ℕ) (U : Typ) → P U → V (Var y j U) → HasParts P W (term_image (bind x i T u ∷ []) (Var y j U))
  on_variable y j U c v = by (term_eq (Var x i T) (Var y j U)) refl
    where
      by : (b : Bool) → term_eq (Var x i T) (Var y j U) ≡ b → HasParts P W (if b then u else Var y j U)
      by true e = image
      by false e = (c, others (Var y j U) v (λ same. apart same))
        where
          false_true : false ≡ true → ⊥
          false_true e = cc

          apart : Var y j U ≡ Var x i T → ⊥
          apart same = false_true (sym e ∙ subst (λ (w : Term). term_eq (Var x i T) w ≡ true) (sym same) (term_eq-itself (Var x i T)))

  pub set-parts : (t : Term) → HasParts P V t → HasParts P W (with_setting (Single (bind x i T u)) t)
  set-parts t h = replaced-parts P P V W (λ U. U) (term_image (bind x i T u ∷ [])) (λ U c. c) (λ y U c. c) on_variable t h

-- Each variable in a term occurs in it.
occurring-parts : (P : Typ → Type 0) (V : Term → Type 0) (whole t : Term) → ((v : Term) → Occurs v t → Occurs v whole) → HasParts P V t → HasParts P (λ v. V v × Occurs v whole) t
occurring-parts P V whole (Const c T) up h = h
occurring-parts P V whole (Free x T) up h = h
occurring-parts P V whole (Var x i T) up h = (h.0, (h.1, up (Var x i T) refl))
occurring-parts P V whole (Bound n) up h = tt
occurring-parts P V whole (Abs T b) up h = (h.0, occurring-parts P V whole b (λ v o. up v (inr o)) h.1)
occurring-parts P V whole (App f a) up h = (occurring-parts P V whole f (λ v o. up v (inr (inl o))) h.0, occurring-parts P V whole a (λ v o. up v (inr (inr o))) h.1)

-- the image of a bare variable that doesn't occur on the other side
pub image-parts : (P : Typ → Type 0) (V W : Term → Type 0) (v other u : Term) → ¬ Occurs v other → IsEtaNormalForm other u → ((w : Term) → V w → ¬ (w ≡ v) → W w) → HasParts P V other → HasParts P W u
image-parts P V W v other u free form into h =
    eta-parts P W form.reduces
    (implied-parts P P (λ w. V w × Occurs w other) W (λ T c. c) (λ x i T c. into (Var x i T) c.0 (λ e. free (subst (λ (w : Term). Occurs w other) e c.1))) other (occurring-parts P V other other (λ w o. o) h))

-- the schematic type variables in a term, and in sides
abbrev pub all_schematics : Term → List Typ
all_schematics (Const c T) = schematics T
all_schematics (Free x T) = schematics T
all_schematics (Var x i T) = schematics T
all_schematics (Bound n) = []
all_schematics (Abs T b) = schematics T ++ all_schematics b
all_schematics (App f a) = all_schematics f ++ all_schematics a

abbrev pub pair_schematics : List Pair → List Typ
pair_schematics [] = []
pair_schematics (p ∷ ps) = all_schematics p.left ++ (all_schematics p.right ++ pair_schematics ps)

-- A list has what another has.
abbrev Has : {A : Type 0} → (xs ys : List A) → Type 0
Has {A = A} xs ys = (x : A) → IsIn x ys → IsIn x xs

has_left : {A : Type 0} (zs xs ys : List A) → Has zs (xs ++ ys) → Has zs xs
has_left zs xs ys h x m = h x (in-append_left x xs ys m)

has_right : {A : Type 0} (zs xs ys : List A) → Has zs (xs ++ ys) → Has zs ys
has_right zs xs ys h x m = h x (in-append_right x xs ys m)

module _ (P R : Typ → Type 0) (V : Term → Type 0) (vs : List Typ) (ws : List Term) (into : (T : Typ) → P T → IsAmong vs T → R T) where
  among_all : (T : Typ) → Has vs (schematics T) → IsAmong vs T
  among_all T h w is o = h w (occurs_schematics w T is o)

  side-collected : (t : Term) → Has vs (all_schematics t) → Has ws (variables t) → HasParts P V t → HasParts R (λ v. IsIn v ws) t
  side-collected (Const c T) h k p = into T p (among_all T h)
  side-collected (Free x T) h k p = into T p (among_all T h)
  side-collected (Var x i T) h k p = (into T p.0 (among_all T h), k (Var x i T) (inl refl))
  side-collected (Bound n) h k p = tt
  side-collected (Abs T b) h k p = (into T p.0 (among_all T (has_left vs (schematics T) (all_schematics b) h)), side-collected b (has_right vs (schematics T) (all_schematics b) h) k p.1)
  side-collected (App f a) h k p = (
    side-collected f (has_left vs (all_schematics f) (all_schematics a) h) (has_left ws (variables f) (variables a) k) p.0,
    side-collected a (has_right vs (all_schematics f) (all_schematics a) h) (has_right ws (variables f) (variables a) k) p.1,
  )

  pairs-collected : (ps : List Pair) → Has vs (pair_schematics ps) → Has ws (pair_variables ps) → Each (HavePartsIn P V) ps → Each (HavePartsIn R (λ v. IsIn v ws)) ps
  pairs-collected [] h k p = tt
  pairs-collected (q ∷ qs) h k p =
      let behind = has_right vs (all_schematics q.left) (all_schematics q.right ++ pair_schematics qs) h in
      let later = has_right ws (variables q.left) (variables q.right ++ pair_variables qs) k in (
        (
          side-collected q.left (has_left vs (all_schematics q.left) (all_schematics q.right ++ pair_schematics qs) h) (has_left ws (variables q.left) (variables q.right ++ pair_variables qs) k) p.0.0,
          side-collected q.right (has_left vs (all_schematics q.right) (pair_schematics qs) behind) (has_left ws (variables q.right) (pair_variables qs) later) p.0.1,
        ),
        pairs-collected qs (has_right vs (all_schematics q.right) (pair_schematics qs) behind) (has_right ws (variables q.right) (pair_variables qs) later) p.1,
      )

-- Old sides have their types and variables in lists.
pub collected : (index from : ℕ) (V : Term → Type 0) (ps : List Pair) → Each (HavePartsIn (IsOld index from) V) ps → Each (HavePartsIn (IsOldAmong index from (pair_schematics ps)) (λ v. IsIn v (pair_variables ps))) ps
collected index from V ps h = pairs-collected (IsOld index from) (IsOldAmong index from (pair_schematics ps)) V (pair_schematics ps) (pair_variables ps) (λ T o a. (o, a)) ps (λ x m. m) (λ x m. m) h

-- Where types are among some variables already, the variables of terms are collected alone.
pub variables-collected : (P : Typ → Type 0) (V : Term → Type 0) (ps : List Pair) → Each (HavePartsIn P V) ps → Each (HavePartsIn P (λ v. IsIn v (pair_variables ps))) ps
variables-collected P V ps h = pairs-collected P P V (pair_schematics ps) (pair_variables ps) (λ T c a. c) ps (λ x m. m) (λ x m. m) h

pub implied-pairs : (P R : Typ → Type 0) (V W : Term → Type 0) → ((T : Typ) → P T → R T) → ((x i : ℕ) (T : Typ) → V (Var x i T) → W (Var x i T)) → (ps : List Pair) → Each (HavePartsIn P V) ps → Each (HavePartsIn R W) ps
implied-pairs P R V W on var [] h = tt
implied-pairs P R V W on var (p ∷ ps) h = ((implied-parts P R V W on var p.left h.0.0, implied-parts P R V W on var p.right h.0.1), implied-pairs P R V W on var ps h.1)
