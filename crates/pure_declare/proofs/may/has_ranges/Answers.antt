use Rattle.pure_declare.proofs.MayLaws.{second_as}
use Rattle.pure_declare.proofs.may.has_ranges.Goals as goal

pub returns-then-lies_in-2 : goal.returns-then-lies_in-2
returns-then-lies_in-2 c = rw c.in-Lemma.is (second_as _ _ c.do_haves_lie_in.result (c.lies_in-in-Lemma.ensures.0 c.if-lies_in-2.true) (rw c.as_slice.ensures.value at c.do_haves_lie_in.ensures))
