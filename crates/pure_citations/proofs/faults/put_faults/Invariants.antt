use Rattle.pure_table.specs.Promise.Seen.{seen}
use Rattle.pure_citations.specs.Cited.{IsBefore}
use Rattle.pure_citations.specs.Faults.{IsFaultyAt}
use Rattle.pure_citations.specs.Reached.{Gains}
use Rattle.pure_citations.proofs.faults.put_faults.Given as goal

abbrev pub invariant-loop-place : goal.invariant-loop-place
invariant-loop-place l = Gains (λ n. IsBefore (IsFaultyAt (seen l.entries) l.row n) l.place) l.fn.faults.items l.faults.items
