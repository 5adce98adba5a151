-- Laws of lifting, instantiation, abstraction and maps, on plain trees.
use Rattle.std.specs.Prelude.{◌≡◌, ℕ, ◌+◌, ◌≤◌, List, ◌∷◌, ◌++◌, length, map}
use Rattle.pure_definitions.specs.Types.Typ.{Typ}
use Rattle.pure_definitions.specs.Terms.Term.{Term, term_size, term_depth}
use Rattle.pure_definitions.specs.Terms.Typing.{HasType}
use Rattle.pure_definitions.specs.Terms.Bounds.{lift_term, subst_under, bind_under, Occurs}
use Rattle.pure_definitions.specs.Terms.Conditions.{IsVariable, variable_typ}
use Rattle.pure_definitions.specs.Terms.Subst.{typ_instance, term_instance, IsTypeRespecting}

-- Lifting by 0 changes nothing; lifting again from a place among the new binders is lifting by the sum; and two liftings change places.
abbrev pub LiftZero : Type 0
LiftZero = (from : ℕ) (t : Term) → lift_term 0 from t ≡ t

abbrev pub LiftAgain : Type 0
LiftAgain = (by more from middle : ℕ) (t : Term) → from ≤ middle → middle ≤ from + by → lift_term more middle (lift_term by from t) ≡ lift_term (by + more) from t

abbrev pub LiftLift : Type 0
LiftLift = (by more below from : ℕ) (t : Term) → below ≤ from → lift_term more below (lift_term by from t) ≡ lift_term by (from + more) (lift_term more below t)

-- A lifted term has the term's size and depth.
abbrev pub SizeOfLift : Type 0
SizeOfLift = (by from : ℕ) (t : Term) → term_size (lift_term by from t) ≡ term_size t

abbrev pub DepthOfLift : Type 0
DepthOfLift = (by from : ℕ) (t : Term) → term_depth (lift_term by from t) ≡ term_depth t

-- Instantiating a lifted bound variable gives the term back.
abbrev pub SubstLift : Type 0
SubstLift = (n : ℕ) (arg t : Term) → subst_under n arg (lift_term 1 n t) ≡ t

-- Abstraction over a variable, then instantiation with it, gives the term back; and the other way round, where the variable doesn't occur.
abbrev pub SubstBind : Type 0
SubstBind = (n : ℕ) (v t : Term) → IsVariable v → subst_under n v (bind_under n v t) ≡ t

abbrev pub BindSubst : Type 0
BindSubst = (n : ℕ) (v b : Term) → IsVariable v → ¬ Occurs v b → bind_under n v (subst_under n v b) ≡ b

-- What was abstracted over doesn't occur any more; and abstraction over a variable that doesn't occur is a lifting over one binder.
abbrev pub NotInBind : Type 0
NotInBind = (n : ℕ) (v t : Term) → IsVariable v → ¬ Occurs v (bind_under n v t)

abbrev pub BindOfOther : Type 0
BindOfOther = (n : ℕ) (v t : Term) → ¬ Occurs v t → bind_under n v t ≡ lift_term 1 n t

-- Lifting above the place of an instantiation.
abbrev pub LiftPastSubst : Type 0
LiftPastSubst = (m n k : ℕ) (arg t : Term) → lift_term m (n + k) (subst_under n arg t) ≡ subst_under n (lift_term m k arg) (lift_term m (n + k + 1) t)

-- Lifting above the place of an abstraction, and from below it, which raises the place.
abbrev pub LiftAboveBind : Type 0
LiftAboveBind = (by n from : ℕ) (v t : Term) → n ≤ from → lift_term by (from + 1) (bind_under n v t) ≡ bind_under n v (lift_term by from t)

abbrev pub LiftBelowBind : Type 0
LiftBelowBind = (by n from : ℕ) (v t : Term) → from ≤ n → lift_term by from (bind_under n v t) ≡ bind_under (n + by) v (lift_term by from t)

-- Abstraction at or above the place of an instantiation binds the variable in the argument too; below it the variable may not occur there.
abbrev pub BindPastSubst : Type 0
BindPastSubst = (n k : ℕ) (v arg t : Term) → bind_under (n + k) v (subst_under n arg t) ≡ subst_under n (bind_under k v arg) (bind_under (n + k + 1) v t)

abbrev pub BindBelowSubst : Type 0
BindBelowSubst = (m k : ℕ) (v arg t : Term) → IsVariable v → ¬ Occurs v arg → bind_under m v (subst_under (m + k) arg t) ≡ subst_under (m + k + 1) arg (bind_under m v t)

-- Typing is kept by lifting over further binders, by instantiation with a term of the binder's type, by abstraction over a variable, under whose new binder the term stands then, and by maps that respect types.
abbrev pub TypingOfLift : Type 0
TypingOfLift = (bs ds cs : List Typ) (n by : ℕ) (t : Term) (T : Typ) → n ≡ length bs → by ≡ length ds → HasType (bs ++ cs) t T → HasType (bs ++ (ds ++ cs)) (lift_term by n t) T

abbrev pub TypingOfSubst : Type 0
TypingOfSubst = (bs cs : List Typ) (n : ℕ) (arg b : Term) (U T : Typ) → n ≡ length bs → HasType cs arg U → HasType (bs ++ U ∷ cs) b T → HasType (bs ++ cs) (subst_under n arg b) T

abbrev pub TypingOfBind : Type 0
TypingOfBind = (bs cs : List Typ) (n : ℕ) (v t : Term) (T : Typ) → n ≡ length bs → HasType (bs ++ cs) t T → HasType (bs ++ variable_typ v ∷ cs) (bind_under n v t) T

abbrev pub TypingOfInstance : Type 0
TypingOfInstance = (typs : Typ → Typ) (terms : Term → Term) → IsTypeRespecting typs terms → (bs : List Typ) (t : Term) (T : Typ) → HasType bs t T
    → HasType (map (typ_instance typs) bs) (term_instance typs terms t) (typ_instance typs T)
