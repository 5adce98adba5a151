-- Terms that are their own long forms, as a walk through them tells.
use Rattle.std.specs.Prelude.{◌≡◌, List}
use Rattle.pure_definitions.specs.Types.Typ.{Typ}
use Rattle.pure_definitions.specs.Terms.Term.{Term}
use Rattle.pure_definitions.specs.Terms.Typing.{HasType}
use Rattle.pure_definitions.specs.Reduction.Beta.{IsAbs, IsBetaNormal}
use Rattle.pure_definitions.specs.Reduction.Eta.{abstraction_count, arrow_count, HasSaturatedParts}

-- The term is no abstraction, has no redex, and has no other type than this one; where it has one, its parts have as many abstractions as their types have arrows.
pub record IsFront (bs : List Typ) (t : Term) (T : Typ) : Type 0 where
  pub applied : ¬ IsAbs t
  pub normal : IsBetaNormal t
  pub typ : (U : Typ) → HasType bs t U → T ≡ U
  pub parts : (U : Typ) → HasType bs t U → HasSaturatedParts bs t

-- The term has no redex; where it has a type, it and its parts have as many abstractions as their types have arrows.
pub record IsLongUnder (bs : List Typ) (t : Term) : Type 0 where
  pub normal : IsBetaNormal t
  pub count : (U : Typ) → HasType bs t U → abstraction_count t ≡ arrow_count U
  pub parts : (U : Typ) → HasType bs t U → HasSaturatedParts bs t
