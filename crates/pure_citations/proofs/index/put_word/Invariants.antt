use Rattle.pure_citations.specs.Cited.{IsBefore}
use Rattle.pure_citations.specs.Reached.{Gains}
use Rattle.pure_citations.proofs.IndexLaws.{InWord}
use Rattle.pure_citations.proofs.index.put_word.Given as goal

abbrev pub invariant-loop-bit : goal.invariant-loop-bit
invariant-loop-bit l = Gains (λ q. IsBefore (InWord l.codes l.named l.word q) l.bit) l.fn.held.items l.held.items
