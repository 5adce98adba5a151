use Rattle.std.proofs.Common.{take}
use Rattle.pure_text.specs.Lists.{Each}
use Rattle.pure_promise_rows.specs.Grounds.{IsHeld}
use Rattle.pure_promise_rows.proofs.grounds.is_grounded.Given as goal

abbrev pub invariant-loop-other : goal.invariant-loop-other
invariant-loop-other l = Each (IsHeld l.lemma) (take l.other-index l.lemmas)
