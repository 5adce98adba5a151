-- What occurs in a term, in its types too; maps that agree on it; where what occurs in an instance comes from; and terms that maps leave as they are, or closed.
use Rattle.std.specs.Prelude.{◌≡◌, ◌⊎◌, ℕ, List}
use Rattle.pure_definitions.specs.Types.Typ.{Typ, TVar, Con}
use Rattle.pure_definitions.specs.Types.Occurs.{OccursInTyp}
use Rattle.pure_definitions.specs.Terms.Term.{Term, Const, Free, Var, Bound, Abs, App}
use Rattle.pure_definitions.specs.Terms.Bounds.{IsClosedUnder, Occurs}
use Rattle.pure_definitions.specs.Terms.Conditions.{IsVariable}
use Rattle.pure_definitions.specs.Terms.Subst.{typ_instance, term_instance, KeepsFixedTyps, KeepsFixedTerms}
use Rattle.pure_term_laws.specs.LawsMaps.{AreImagesClosed}

-- The type is a type variable, fixed or schematic.
abbrev pub IsTypVariable : Typ → Type 0
IsTypVariable (Con k ts) = ⊥
IsTypVariable _ = Unit {0}

-- Some subtree of a type in the term is v, as it stands.
abbrev pub TypOccurs : (v : Typ) → Term → Type 0
TypOccurs v (Const c T) = OccursInTyp v T
TypOccurs v (Free x T) = OccursInTyp v T
TypOccurs v (Var x i T) = OccursInTyp v T
TypOccurs v (Bound n) = ⊥
TypOccurs v (Abs T b) = OccursInTyp v T ⊎ TypOccurs v b
TypOccurs v (App f a) = TypOccurs v f ⊎ TypOccurs v a

-- Type maps that agree on the type variables in a type give one instance of it.
abbrev pub TypInstancesAgree : Type 0
TypInstancesAgree = (typs others : Typ → Typ) (T : Typ) → ((v : Typ) → IsTypVariable v → OccursInTyp v T → typs v ≡ others v) → typ_instance typs T ≡ typ_instance others T

-- Two pairs of maps agree on the term: on the type variables in it, and on its variables.
pub record AgreeOn (typs other_typs : Typ → Typ) (terms other_terms : Term → Term) (t : Term) : Type 0 where
  pub on_typs : (v : Typ) → IsTypVariable v → TypOccurs v t → typs v ≡ other_typs v
  pub on_terms : (u : Term) → IsVariable u → Occurs u t → terms u ≡ other_terms u

-- Then they give one instance of it.
abbrev pub AgreeingInstance : Type 0
AgreeingInstance = (typs other_typs : Typ → Typ) (terms other_terms : Term → Term) (t : Term) → AgreeOn typs other_typs terms other_terms t
    → term_instance typs terms t ≡ term_instance other_typs other_terms t

-- Each type variable in an instance of a type comes from the image of a type variable of the type.
abbrev pub TypVariableOfTypInstance : Type 0
TypVariableOfTypInstance = (typs : Typ → Typ) (v T : Typ) → IsTypVariable v → OccursInTyp v (typ_instance typs T) → (u : Typ) × IsTypVariable u × OccursInTyp u T × OccursInTyp v (typs u)

-- Each variable in an instance of a term comes from the image of a variable of the term, and each type variable in it from that of a type variable or of a variable of the term.
abbrev pub VariableOfInstance : Type 0
VariableOfInstance = (typs : Typ → Typ) (terms : Term → Term) (w t : Term) → IsVariable w → Occurs w (term_instance typs terms t) → (u : Term) × IsVariable u × Occurs u t × Occurs w (terms u)

abbrev pub TypVariableOfInstance : Type 0
TypVariableOfInstance = (typs : Typ → Typ) (terms : Term → Term) (v : Typ) (t : Term) → IsTypVariable v → TypOccurs v (term_instance typs terms t)
    → ((u : Typ) × IsTypVariable u × TypOccurs u t × OccursInTyp v (typs u)) ⊎ ((u : Term) × IsVariable u × Occurs u t × TypOccurs v (terms u))

-- No schematic type variable is in the term, and no schematic variable.
pub record HasNoSchematic (t : Term) : Type 0 where
  pub typs : (x i : ℕ) (s : List ℕ) → ¬ TypOccurs (TVar x i s) t
  pub terms : (x i : ℕ) (T : Typ) → ¬ Occurs (Var x i T) t

-- Such a term stays as it is under maps that move schematic variables alone.
abbrev pub SchematicMapKeeps : Type 0
SchematicMapKeeps = (typs : Typ → Typ) (terms : Term → Term) → KeepsFixedTyps typs → KeepsFixedTerms typs terms → (t : Term) → HasNoSchematic t → term_instance typs terms t ≡ t

-- A term without loose bound variables has none under maps whose images have none, and so under binders.
abbrev pub InstanceIsClosed : Type 0
InstanceIsClosed = (typs : Typ → Typ) (terms : Term → Term) → AreImagesClosed terms → (n : ℕ) (t : Term) → IsClosedUnder n t → IsClosedUnder n (term_instance typs terms t)
