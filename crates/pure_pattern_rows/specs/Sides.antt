-- Sides that the call takes, whose indexes are at most 3.
use Rattle.std.specs.Prelude.{[]}
use Rattle.pure_definitions.specs.Types.Typ.{Typ}
use Rattle.pure_definitions.specs.Terms.Term.{Term}
use Rattle.pure_definitions.specs.Terms.Typing.{HasType}
use Rattle.pure_definitions.specs.Reduction.Eta.{IsLongForm}
use Rattle.pure_logic.specs.Derivable.{Pair}
use Rattle.pure_unify_final.specs.Laws.{HasVariablesUpTo, AreVariablesUpTo}
use Rattle.pure_pattern_laws.specs.Answers.{AreLongOfOneTyp}

-- The side is in long form and of this type.
pub record IsSide (t : Term) (T : Typ) : Type 0 where
  pub typed : HasType [] t T
  pub long : IsLongForm t t
  pub low : HasVariablesUpTo 3 t

-- The pair is one that the call takes.
pub record IsReadyPair (p : Pair) : Type 0 where
  pub sides : AreLongOfOneTyp p
  pub indexes : AreVariablesUpTo 3 p
