-- Laws of congruence: terms that are equal node by node modulo pairs, maps with equated images, and functions that are equated at each argument.
use Rattle.std.specs.Prelude.{◌↔◌, List, [], ◌∷◌, map}
use Rattle.pure_definitions.specs.Types.Typ.{Typ, arrow}
use Rattle.pure_definitions.specs.Terms.Term.{Term, Bound, Abs, App}
use Rattle.pure_definitions.specs.Terms.Bounds.{lift_term, Occurs}
use Rattle.pure_definitions.specs.Terms.Conditions.{IsVariable}
use Rattle.pure_definitions.specs.Terms.Subst.{typ_instance, term_instance}
use Rattle.pure_definitions.specs.Declarations.Decl.{Decl}
use Rattle.pure_definitions.specs.Declarations.Certified.{IsCertifiedTyp}
use Rattle.pure_logic.specs.Content.{Content, IsContent}
use Rattle.pure_logic.specs.Concludes.{AreRespecting}
use Rattle.pure_logic.specs.Derivable.{Pair}
use Rattle.pure_equation_laws.specs.Equated.{IsTypedUnder, AreEquated, AreEqualModulo}

-- A typed term with certified parts is equated with each term that is equal to it node by node, but for equated nodes.
abbrev pub EquatedNodeByNode : Type 0
EquatedNodeByNode = (ds : List Decl) (pairs : List Pair) (bs : List Typ) (T : Typ) (t u : Term) → IsTypedUnder ds bs t T → AreEqualModulo ds pairs bs t u → AreEquated ds pairs bs T t u

-- So two instances of a term are equated where the images of each of its variables are equal node by node, but for equated nodes; the first maps respect the content.
abbrev pub EquatedInstances : Type 0
EquatedInstances = (Q : Content) → IsContent Q → (typs : Typ → Typ) (terms others : Term → Term) → AreRespecting Q typs terms → (pairs : List Pair) (bs : List Typ) (T : Typ) (t : Term)
    → IsTypedUnder Q.declarations bs t T → ((v : Term) → IsVariable v → Occurs v t → AreEqualModulo Q.declarations pairs [] (terms v) (others v))
    → AreEquated Q.declarations pairs (map (typ_instance typs) bs) (typ_instance typs T) (term_instance typs terms t) (term_instance typs others t)

-- Functions are equated exactly where they are equated when applied to a bound variable of a further binder; and abstractions exactly where their bodies are.
abbrev pub EquatedFunctions : Type 0
EquatedFunctions = (ds : List Decl) (pairs : List Pair) (bs : List Typ) (V U : Typ) (f g : Term) → IsCertifiedTyp ds V → IsTypedUnder ds bs f (arrow V U) → IsTypedUnder ds bs g (arrow V U)
    → AreEquated ds pairs bs (arrow V U) f g ↔ AreEquated ds pairs (V ∷ bs) U (App (lift_term 1 0 f) (Bound 0)) (App (lift_term 1 0 g) (Bound 0))

abbrev pub EquatedBodies : Type 0
EquatedBodies = (ds : List Decl) (pairs : List Pair) (bs : List Typ) (V U : Typ) (b c : Term) → IsCertifiedTyp ds V
    → AreEquated ds pairs bs (arrow V U) (Abs V b) (Abs V c) ↔ AreEquated ds pairs (V ∷ bs) U b c
