-- Pairs of which the first one that isn't dropped fails.
use Rattle.std.specs.Prelude.{◌≡◌, List, [], ◌∷◌, false}
use Rattle.pure_definitions.specs.Types.Typ.{Typ}
use Rattle.pure_definitions.specs.Terms.Term.{Term}
use Rattle.pure_definitions.specs.Terms.Typing.{HasType}
use Rattle.pure_logic.specs.Derivable.{Pair}
use Rattle.pure_unify_definitions.specs.Fronts.{head, is_schematic}
use Rattle.pure_unify_definitions.specs.Treatment.{AreApart}

-- The heads aren't schematic, differ, and aren't constants of one name.
pub record AreRigidApart (h k : Term) : Type 0 where
  pub left : is_schematic h ≡ false
  pub right : is_schematic k ≡ false
  pub apart : AreApart h k

-- The sides of the pair are of one type, and their heads are such.
pub record IsClash (p : Pair) : Type 0 where
  pub heads : AreRigidApart (head p.left) (head p.right)
  pub typ : Typ
  pub left : HasType [] p.left typ
  pub right : HasType [] p.right typ

-- The first of the pairs whose sides aren't equal is such a pair.
pub data AreClashing : List Pair → Type 0 where
  here : {p : Pair} {ps : List Pair} → IsClash p → AreClashing (p ∷ ps)
  later : {p : Pair} {ps : List Pair} → p.left ≡ p.right → AreClashing ps → AreClashing (p ∷ ps)
