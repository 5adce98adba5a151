use Rattle.std.proofs.Common.{take}
use Rattle.pure_text.specs.Lists.{AnyOf}
use Rattle.pure_table.specs.Promise.Seen.{seen}
use Rattle.pure_citations.specs.Drawn.{IsNameOf}
use Rattle.pure_citations.specs.Reached.{Gains}
use Rattle.pure_citations.proofs.edges.put_names_of.Given as goal

abbrev pub invariant-loop-label : goal.invariant-loop-label
invariant-loop-label l = Gains (λ n. AnyOf (λ k. IsNameOf (seen l.entries) k n) (take l.label-index l.labels)) l.fn.named.items l.named.items
