use Rattle.std.proofs.Common.{take}
use Rattle.pure_text.specs.Lists.{Each}
use Rattle.pure_definitions.specs.Types.Occurs.{OccursInTyp}
use Rattle.pure_tunify.proofs.reached.occurs_in_any.Given as goal

abbrev pub invariant-loop-typ : goal.invariant-loop-typ
invariant-loop-typ l = Each (λ t. ¬ OccursInTyp l.variable t) (take l.typ-index l.typs)
