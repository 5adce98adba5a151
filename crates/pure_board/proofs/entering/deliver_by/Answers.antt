use Rattle.pure_machine.specs.State.{Deliver}
use Rattle.pure_board.proofs.HoldLaws.{token-free, as-kept, is-alone, next-of, promise-there, may-deliver}
use Rattle.pure_board.proofs.TakeLaws.{done-delivery, done-missed}
use Rattle.pure_board.proofs.entering.deliver_by.Goals as goal

pub hold-core-requires-clause-free : goal.hold-core-requires-clause-free
hold-core-requires-clause-free g c = token-free _ _ _ _ _ _ c.requires.place c.requires.seated

pub deliver-requires : goal.deliver-requires
deliver-requires g c = promise-there _ _ _ _ _ _ _ _ c.requires.seated c.hold-core.ensures.held _ c.requires.out.taken

pub give_back-requires-clause-same : goal.give_back-requires-clause-same
give_back-requires-clause-same g c = as-kept _ _ _ _ _ _ _ _ c.requires.seated c.hold-core.ensures.held _ c.in-Err.ensures

pub enter-requires-clause-alone : goal.enter-requires-clause-alone
enter-requires-clause-alone g c = is-alone _ _ _ _ _ _ _ _ c.requires.seated c.hold-core.ensures.held

pub enter-requires-clause-next : goal.enter-requires-clause-next
enter-requires-clause-next g c = let s = c.requires.seated in let h = c.hold-core.ensures.held in (Deliver c.args.number c.args.outcome c.args.fault, next-of _ _ _ _ _ _ _ _ s h _ (Deliver c.args.number c.args.outcome c.args.fault) (may-deliver _ _ _ _ _ _ _ _ s h _ _ _ c.requires.out c.requires.may c.requires.fault) c.in-Ok.ensures.1)

pub returns-in-Err-clause-done : goal.returns-in-Err-clause-done
returns-in-Err-clause-done g c = done-missed _ _ _ _ _ _ _ c.hold-core.result c.hold-core.result _ c.requires.seated c.hold-core.ensures.held c.give_back.ensures.released

pub returns-in-Ok-clause-done : goal.returns-in-Ok-clause-done
returns-in-Ok-clause-done g c = let s = c.requires.seated in let h = c.hold-core.ensures.held in done-delivery _ _ _ _ _ _ _ _ _ _ s h _ _ _ _ (may-deliver _ _ _ _ _ _ _ _ s h _ _ _ c.requires.out c.requires.may c.requires.fault) c.in-Ok.ensures.1 c.in-Ok.ensures.0 c.enter.ensures.entered
