-- The values of propositions that are made by connectives.
use Rattle.std.proofs.Common.{◌≡◌, Bool, true, false, not, ◌||◌, List, [], ◌∷◌, refl, ap, sym, subst, ◌∙◌}
use Rattle.pure_text.specs.Lists.{IsIn}
use Rattle.pure_definitions.specs.Names.{eq_name}
use Rattle.pure_definitions.specs.Types.Typ.{Typ, arrow, prop}
use Rattle.pure_definitions.specs.Terms.Term.{Term}
use Rattle.pure_definitions.specs.Terms.Typing.{HasType}
use Rattle.pure_logic.specs.Connectives.{eq_typ, all, imp, protect}
use Rattle.pure_consistency.specs.Values.{Value, Truth, Function, value_eq, applied, table, is_true_everywhere}
use Rattle.pure_consistency.specs.Model.{domain, quantified, imp_value, protect_value, constant_value, meaning, AreValues}
use Rattle.pure_consistency.proofs.ValueLaws.{value_eq-itself, at-table, everywhere-at, at-everywhere}
use Rattle.pure_consistency.proofs.DomainLaws.{truth-of, function-is, constant-all, constant-imp, constant-eq, constant-protect}
use Rattle.pure_consistency.proofs.MeaningLaws.{meaning-in}

abbrev truth_value : Value → Bool
truth_value (Truth b) = b
truth_value _ = false

pub truth-once : (a b : Bool) → Truth a ≡ Truth b → a ≡ b
truth-once a b e = ap truth_value e

imp-at : (a b : Bool) → applied (applied imp_value (Truth a)) (Truth b) ≡ Truth (not a || b)
imp-at true true = refl
imp-at true false = refl
imp-at false true = refl
imp-at false false = refl

protect-at : (a : Bool) → applied protect_value (Truth a) ≡ Truth a
protect-at true = refl
protect-at false = refl

-- An equation at a type, of values of that type.
pub eq-at : (points : List Value) (T : Typ) (v w : Value) → IsIn v (domain points T) → IsIn w (domain points T) → applied (applied (constant_value points eq_name (eq_typ T)) v) w ≡ Truth (value_eq v w)
eq-at points T v w m n =
    ap (λ c. applied (applied c v) w) (constant-eq points T)
    ∙ (ap (λ f. applied f w) (at-table (domain points T) (λ x. Function (table (domain points T) (λ y. Truth (value_eq x y)))) v m)
    ∙ at-table (domain points T) (λ y. Truth (value_eq v y)) w n)

pub equal-at : (points : List Value) (T : Typ) (v w : Value) → IsIn v (domain points T) → v ≡ w → applied (applied (constant_value points eq_name (eq_typ T)) v) w ≡ Truth true
equal-at points T v w m e = subst (λ u. applied (applied (constant_value points eq_name (eq_typ T)) v) u ≡ Truth true) e (eq-at points T v v m m ∙ ap Truth (value_eq-itself v))

module _ (points : List Value) (variables : Term → Value) where
  pub meaning-imp : (A B : Term) (a b : Bool) → meaning points variables [] A ≡ Truth a → meaning points variables [] B ≡ Truth b → meaning points variables [] (imp A B) ≡ Truth (not a || b)
  meaning-imp A B a b h k =
      ap (λ c. applied (applied c (meaning points variables [] A)) (meaning points variables [] B)) (constant-imp points) ∙ ((λ l. applied (applied imp_value (h l)) (k l)) ∙ imp-at a b)

  pub meaning-protect : (A : Term) (a : Bool) → meaning points variables [] A ≡ Truth a → meaning points variables [] (protect A) ≡ Truth a
  meaning-protect A a h = ap (λ c. applied c (meaning points variables [] A)) (constant-protect points) ∙ (ap (applied protect_value) h ∙ protect-at a)

module _ (points : List Value) (some : (v : Value) × IsIn v points) (variables : Term → Value) (are : AreValues points variables) where
  pub value-of : (t : Term) (T : Typ) → HasType [] t T → IsIn (meaning points variables [] t) (domain points T)
  value-of t T h = meaning-in points some variables are [] [] t T tt h

  pub truth-under : (A : Term) → HasType [] A prop → (a : Bool) × (meaning points variables [] A ≡ Truth a)
  truth-under A h = truth-of (meaning points variables [] A) (value-of A prop h)

  module _ (T : Typ) (B : Term) (typed : HasType (T ∷ []) B prop) where
    body-in : (v : Value) → IsIn v (domain points T) → IsIn (meaning points variables (v ∷ []) B) (domain points prop)
    body-in v m = meaning-in points some variables are (T ∷ []) (v ∷ []) B prop (m, tt) typed

    pub body-truth : (v : Value) → IsIn v (domain points T) → (a : Bool) × (meaning points variables (v ∷ []) B ≡ Truth a)
    body-truth v m = truth-of (meaning points variables (v ∷ []) B) (body-in v m)

    meaning-all : meaning points variables [] (all T B) ≡ Truth (is_true_everywhere (table (domain points T) (λ v. meaning points variables (v ∷ []) B)))
    meaning-all =
        ap (λ c. applied c (Function (table (domain points T) (λ v. meaning points variables (v ∷ []) B)))) (constant-all points T)
        ∙ at-table (domain points (arrow T prop)) quantified (Function (table (domain points T) (λ v. meaning points variables (v ∷ []) B)))
        (function-is points T prop (λ v. meaning points variables (v ∷ []) B) body-in)

    pub all-true : meaning points variables [] (all T B) ≡ Truth true → (v : Value) → IsIn v (domain points T) → meaning points variables (v ∷ []) B ≡ Truth true
    all-true h = everywhere-at (domain points T) (λ v. meaning points variables (v ∷ []) B) (truth-once _ true (sym meaning-all ∙ h))

    pub true-all : ((v : Value) → IsIn v (domain points T) → meaning points variables (v ∷ []) B ≡ Truth true) → meaning points variables [] (all T B) ≡ Truth true
    true-all h = meaning-all ∙ ap Truth (at-everywhere (domain points T) (λ v. meaning points variables (v ∷ []) B) h)
