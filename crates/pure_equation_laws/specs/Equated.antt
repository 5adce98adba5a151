-- The equational theory of pairs: which terms are equal by beta, eta, the equations of given pairs, and congruence (Isabelle/Isar Implementation manual, sections 2.2 and 2.3).
use Rattle.std.specs.Prelude.{List, [], ◌∷◌}
use Rattle.pure_text.specs.Lists.{IsIn}
use Rattle.pure_definitions.specs.Types.Typ.{Typ, arrow}
use Rattle.pure_definitions.specs.Terms.Term.{Term, Bound, Abs, App}
use Rattle.pure_definitions.specs.Terms.Bounds.{lift_term, subst_bound}
use Rattle.pure_definitions.specs.Terms.Typing.{HasType}
use Rattle.pure_definitions.specs.Declarations.Decl.{Decl}
use Rattle.pure_definitions.specs.Declarations.Certified.{IsCertifiedTyp, HasCertifiedParts}
use Rattle.pure_logic.specs.Derivable.{Pair}

-- The term's parts are certified, and it has the type under binders of these types, the innermost first.
pub record IsTypedUnder (ds : List Decl) (bs : List Typ) (t : Term) (T : Typ) : Type 0 where
  pub parts : HasCertifiedParts ds t
  pub typed : HasType bs t T

-- Under binders of these types the two terms of this type are equated modulo the pairs: each term with itself; an equation read backwards; two equations one after the other; a redex with its contractum;
-- `%x. f x` with f; the sides of a pair, which have no loose bound variable; abstractions of equated bodies; and equated functions applied to equated arguments.
pub data AreEquated (ds : List Decl) (pairs : List Pair) : List Typ → Typ → Term → Term → Type 0 where
  same : {bs : List Typ} {T : Typ} {t : Term} → IsTypedUnder ds bs t T → AreEquated ds pairs bs T t t
  back : {bs : List Typ} {T : Typ} {t u : Term} → AreEquated ds pairs bs T t u → AreEquated ds pairs bs T u t
  through : {bs : List Typ} {T : Typ} {t u v : Term} → AreEquated ds pairs bs T t u → AreEquated ds pairs bs T u v → AreEquated ds pairs bs T t v
  beta : {bs : List Typ} {V U : Typ} {b a : Term} → IsTypedUnder ds bs (App (Abs V b) a) U → AreEquated ds pairs bs U (App (Abs V b) a) (subst_bound b a)
  eta : {bs : List Typ} {V U : Typ} {f : Term} → IsCertifiedTyp ds V → IsTypedUnder ds bs f (arrow V U) → AreEquated ds pairs bs (arrow V U) (Abs V (App (lift_term 1 0 f) (Bound 0))) f
  pair : {bs : List Typ} {T : Typ} (p : Pair) → IsIn p pairs → IsTypedUnder ds [] p.left T → IsTypedUnder ds [] p.right T → AreEquated ds pairs bs T p.left p.right
  abstraction : {bs : List Typ} {V U : Typ} {b c : Term} → IsCertifiedTyp ds V → AreEquated ds pairs (V ∷ bs) U b c → AreEquated ds pairs bs (arrow V U) (Abs V b) (Abs V c)
  application : {bs : List Typ} {T U : Typ} {f g a b : Term} → AreEquated ds pairs bs (arrow T U) f g → AreEquated ds pairs bs T a b → AreEquated ds pairs bs U (App f a) (App g b)

-- The sides of the pair are equated modulo the pairs, under no binders, at some type.
abbrev pub IsPairEquated : (ds : List Decl) → (pairs : List Pair) → Pair → Type 0
IsPairEquated ds pairs p = (T : Typ) × AreEquated ds pairs [] T p.left p.right

-- Under binders of these types the two terms are equal node by node, but for nodes at which they are equated modulo the pairs.
pub data AreEqualModulo (ds : List Decl) (pairs : List Pair) : List Typ → Term → Term → Type 0 where
  equated : {bs : List Typ} {T : Typ} {t u : Term} → AreEquated ds pairs bs T t u → AreEqualModulo ds pairs bs t u
  itself : {bs : List Typ} {t : Term} → AreEqualModulo ds pairs bs t t
  bodies : {bs : List Typ} {V : Typ} {b c : Term} → AreEqualModulo ds pairs (V ∷ bs) b c → AreEqualModulo ds pairs bs (Abs V b) (Abs V c)
  applied : {bs : List Typ} {f g a b : Term} → AreEqualModulo ds pairs bs f g → AreEqualModulo ds pairs bs a b → AreEqualModulo ds pairs bs (App f a) (App g b)
