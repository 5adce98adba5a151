use Rattle.pure_citations.specs.Cited.{IsBefore}
use Rattle.pure_citations.specs.Reached.{Gains}
use Rattle.pure_citations.proofs.IndexLaws.{InWord}
use Rattle.pure_citations.proofs.index.put_places.Given as goal

abbrev pub invariant-loop-word : goal.invariant-loop-word
invariant-loop-word l = Gains (λ q. IsBefore (λ w. IsBefore (InWord l.codes l.named w q) 64) l.word) l.fn.held.items l.held.items
