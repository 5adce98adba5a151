use Rattle.pure_machine.specs.State.{Stop}
use Rattle.pure_board.proofs.HoldLaws.{token-free, is-alone, next-of, may-stop, stop-fits}
use Rattle.pure_board.proofs.TakeLaws.{done-event}
use Rattle.pure_board.proofs.entering.stop_by.Goals as goal

pub hold-core-requires-clause-free : goal.hold-core-requires-clause-free
hold-core-requires-clause-free g c = token-free _ _ _ _ _ _ c.requires.place c.requires.seated

pub stop-requires : goal.stop-requires
stop-requires g c = stop-fits _ _ _ _ _ _ _ _ c.requires.seated c.hold-core.ensures.held c.requires.once

pub enter-requires-clause-alone : goal.enter-requires-clause-alone
enter-requires-clause-alone g c = is-alone _ _ _ _ _ _ _ _ c.requires.seated c.hold-core.ensures.held

pub enter-requires-clause-next : goal.enter-requires-clause-next
enter-requires-clause-next g c = let s = c.requires.seated in let h = c.hold-core.ensures.held in (Stop, next-of _ _ _ _ _ _ _ _ s h _ Stop (may-stop _ _ _ _ _ _ _ _ s h c.requires.once) c.stop.ensures)

pub returns-clause-done : goal.returns-clause-done
returns-clause-done g c = let s = c.requires.seated in let h = c.hold-core.ensures.held in done-event _ _ _ _ _ _ _ _ _ _ s h Stop (may-stop _ _ _ _ _ _ _ _ s h c.requires.once) c.stop.ensures c.enter.ensures.entered
