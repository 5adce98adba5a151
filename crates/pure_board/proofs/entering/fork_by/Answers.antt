use Rattle.pure_machine.specs.State.{Fork}
use Rattle.pure_board.proofs.HoldLaws.{token-free, as-kept, is-alone, next-of, theory-runs, may-fork}
use Rattle.pure_board.proofs.TakeLaws.{done-fork, done-missed}
use Rattle.pure_board.proofs.entering.fork_by.Goals as goal

pub hold-core-requires-clause-free : goal.hold-core-requires-clause-free
hold-core-requires-clause-free g c = token-free _ _ _ _ _ _ c.requires.place c.requires.seated

pub fork-requires : goal.fork-requires
fork-requires g c = theory-runs _ _ _ _ _ _ _ _ c.requires.seated c.hold-core.ensures.held _ c.requires.theory

pub give_back-requires-clause-same : goal.give_back-requires-clause-same
give_back-requires-clause-same g c = as-kept _ _ _ _ _ _ _ _ c.requires.seated c.hold-core.ensures.held _ c.in-Err.ensures

pub enter-requires-clause-alone : goal.enter-requires-clause-alone
enter-requires-clause-alone g c = is-alone _ _ _ _ _ _ _ _ c.requires.seated c.hold-core.ensures.held

pub enter-requires-clause-next : goal.enter-requires-clause-next
enter-requires-clause-next g c = let s = c.requires.seated in let h = c.hold-core.ensures.held in (Fork c.args.theory c.args.command c.args.goal, next-of _ _ _ _ _ _ _ _ s h _ (Fork c.args.theory c.args.command c.args.goal) (may-fork _ _ _ _ _ _ _ _ s h _ _ _ c.requires.theory c.requires.goal) c.in-Ok.ensures.1)

pub returns-in-Err-clause-done : goal.returns-in-Err-clause-done
returns-in-Err-clause-done g c = done-missed _ _ _ _ _ _ _ c.hold-core.result c.hold-core.result _ c.requires.seated c.hold-core.ensures.held c.give_back.ensures.released

pub returns-in-Ok-clause-done : goal.returns-in-Ok-clause-done
returns-in-Ok-clause-done g c = let s = c.requires.seated in let h = c.hold-core.ensures.held in done-fork _ _ _ _ _ _ _ _ _ _ s h _ _ _ _ (may-fork _ _ _ _ _ _ _ _ s h _ _ _ c.requires.theory c.requires.goal) c.in-Ok.ensures.1 c.in-Ok.ensures.0 c.enter.ensures.entered
