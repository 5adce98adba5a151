use Rattle.std.proofs.Common.{take}
use Rattle.pure_text.specs.Lists.{EachTwo}
use Rattle.pure_citations.specs.Index.{IsCode}
use Rattle.pure_citations.proofs.index.codes.Given as goal

abbrev pub invariant-loop-node : goal.invariant-loop-node
invariant-loop-node l = EachTwo (IsCode l.names) (take l.node-index l.nodes) l.codes.items
