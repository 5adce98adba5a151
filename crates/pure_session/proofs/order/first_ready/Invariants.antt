use Rattle.std.proofs.Common.{◌≡◌, false, take}
use Rattle.pure_text.specs.Lists.{Each}
use Rattle.pure_session.specs.Waiting.{are_taken}
use Rattle.pure_session.specs.declared.order.Waiting.{Waiting}
use Rattle.pure_session.proofs.order.first_ready.Given as goal

abbrev pub invariant-loop-at : goal.invariant-loop-at
invariant-loop-at l = Each (λ (w : Waiting). are_taken l.index w.places.items ≡ false) (take l.at l.rest)
