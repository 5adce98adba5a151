use Rattle.std.proofs.Common.{take, map}
use Rattle.pure_text.specs.Lists.{Each}
use Rattle.pure_tunify.specs.Graphs.{IsMet}
use Rattle.pure_tunify.specs.GraphCode.{part_of, asked_at, root_at, shape_at}
use Rattle.pure_tunify.proofs.agreement.are_met.Given as goal

abbrev pub invariant-loop-class : goal.invariant-loop-class
invariant-loop-class l = Each (λ c. IsMet l.order (root_at l.roots) (asked_at l.asked) c (shape_at (map part_of l.nodes) l.shapes l.root)) (take l.class-index l.classes)
