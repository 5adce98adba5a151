-- Terms that are equal modulo pairs are equated modulo them.
use Rattle.std.proofs.Common.{◌⊎◌, List, [], ◌∷◌, inl, inr, sym, subst}
use Rattle.pure_text.specs.Lists.{IsIn, Each}
use Rattle.pure_text.proofs.ListLaws.{any_some, each_at}
use Rattle.pure_definitions.specs.Types.Typ.{Typ, arrow}
use Rattle.pure_definitions.specs.Terms.Term.{Term, Abs}
use Rattle.pure_definitions.specs.Declarations.Decl.{Decl}
use Rattle.pure_logic.specs.Derivable.{Pair}
use Rattle.pure_equation_laws.specs.Equated as equated
use Rattle.pure_equation_laws.specs.Equated.{IsTypedUnder, AreEquated, back, pair}
use Rattle.pure_equation_laws.proofs.SidesLaws.{equated_are_typed}
use Rattle.pure_equation_laws.proofs.NodesLaws.{equated_node_by_node, equated_bodies}
use Rattle.pure_pairs.specs.Modulo.{closed_over, AreSides, AreListedUnder, AreEqualModulo, equal, listed, bodies, applied}
use Rattle.pure_pairs.specs.Laws.{AreSidesTyped}

-- Where terms are equated below abstractions over binders, they are under these binders.
opened : (ds : List Decl) (pairs : List Pair) (bs : List Typ) (T : Typ) (t u : Term) → AreEquated ds pairs [] T (closed_over bs t) (closed_over bs u) → (U : Typ) × AreEquated ds pairs bs U t u
opened ds pairs [] T t u e = (T, e)
opened ds pairs (V ∷ bs) T t u e =
    let outer = opened ds pairs bs T (Abs V t) (Abs V u) e in
    let typed = (equated_are_typed ds pairs bs outer.0 (Abs V t) (Abs V u) outer.1).0 in
    let same : AreEquated ds pairs bs (arrow V typed.typed.0) (Abs V t) (Abs V u) = subst (λ (W : Typ). AreEquated ds pairs bs W (Abs V t) (Abs V u)) (sym typed.typed.2) outer.1 in
    (typed.typed.0, (equated_bodies ds pairs bs V typed.typed.0 t u typed.parts.0).0 same)

sides-equated : (ds : List Decl) (pairs : List Pair) (p : Pair) (t u : Term) → IsIn p pairs → AreSidesTyped ds p → AreSides p t u ⊎ AreSides p u t → (T : Typ) × AreEquated ds pairs [] T t u
sides-equated ds pairs p t u m (T, l, r) (inl s) = (T, rw (sym s.0, sym s.1) (pair p m l r))
sides-equated ds pairs p t u m (T, l, r) (inr s) = (T, back (rw (sym s.0, sym s.1) (pair p m l r)))

listed-equated : (ds : List Decl) (pairs : List Pair) (bs : List Typ) (t u : Term) → Each (AreSidesTyped ds) pairs → AreListedUnder pairs bs t u → (T : Typ) × AreEquated ds pairs bs T t u
listed-equated ds pairs bs t u typed m =
    let found = any_some (λ p. AreSides p (closed_over bs t) (closed_over bs u) ⊎ AreSides p (closed_over bs u) (closed_over bs t)) pairs m in
    let closed = sides-equated ds pairs found.0 (closed_over bs t) (closed_over bs u) found.1 (each_at (AreSidesTyped ds) pairs typed found.0 found.1) found.2 in
    opened ds pairs bs closed.0 t u closed.1

node-by-node : (ds : List Decl) (pairs : List Pair) {bs : List Typ} {t u : Term} → Each (AreSidesTyped ds) pairs → AreEqualModulo pairs bs t u → equated.AreEqualModulo ds pairs bs t u
node-by-node ds pairs typed equal = equated.AreEqualModulo.itself
node-by-node ds pairs typed (listed {bs = bs} {t = t} {u = u} m) = equated.AreEqualModulo.equated (listed-equated ds pairs bs t u typed m).1
node-by-node ds pairs typed (bodies e) = equated.AreEqualModulo.bodies (node-by-node ds pairs typed e)
node-by-node ds pairs typed (applied e f) = equated.AreEqualModulo.applied (node-by-node ds pairs typed e) (node-by-node ds pairs typed f)

pub equal_modulo_is_equated : (ds : List Decl) (pairs : List Pair) → Each (AreSidesTyped ds) pairs → (T : Typ) (t u : Term) → IsTypedUnder ds [] t T → AreEqualModulo pairs [] t u → AreEquated ds pairs [] T t u
equal_modulo_is_equated ds pairs typed T t u here e = equated_node_by_node ds pairs [] T t u here (node-by-node ds pairs typed e)
