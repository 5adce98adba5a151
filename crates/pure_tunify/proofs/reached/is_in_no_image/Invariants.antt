use Rattle.std.proofs.Common.{take}
use Rattle.pure_text.specs.Lists.{Each}
use Rattle.pure_definitions.specs.Types.Occurs.{OccursInTyp}
use Rattle.pure_tunify.proofs.reached.is_in_no_image.Given as goal

abbrev pub invariant-loop-bind : goal.invariant-loop-bind
invariant-loop-bind l = Each (λ b. ¬ OccursInTyp l.variable b.image) (take l.bind-index l.bind-items)
