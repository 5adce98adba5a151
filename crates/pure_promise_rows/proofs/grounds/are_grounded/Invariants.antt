use Rattle.std.proofs.Common.{take}
use Rattle.pure_text.specs.Lists.{Each}
use Rattle.pure_promise.specs.Joining.{IsClosed, IsGrounded}
use Rattle.pure_promise_rows.proofs.grounds.are_grounded.Given as goal

abbrev pub invariant-loop-lemma : goal.invariant-loop-lemma
invariant-loop-lemma l = Each IsClosed (take l.lemma-index l.lemmas) × Each (IsGrounded l.lemmas) (take l.lemma-index l.lemmas)
