use Rattle.std.proofs.Common.{◌∙◌, ap}
use Rattle.pure_pool.specs.Held.{Nothing}
use Rattle.pure_pool.proofs.SeatedLaws.{sees-hand}
use Rattle.pure_pool.proofs.TakenLaws.{taken-theory, taken-parents, taken-proof, taken-idle, taken-finished, taken-stopped}
use Rattle.pure_pool.proofs.TurnLaws.{err-with}
use Rattle.pure_pool.proofs.workers.turn.Goals as goal

pub returns-in_err-index-clause-err : goal.returns-in_err-index-clause-err
returns-in_err-index-clause-err g c =
    err-with g.W.Work.forks g.W.Work.closes g.W.Work.may g.W.Work.faults _ _ Nothing (sees-hand g.W.Work.shape g.W.Work.forks g.W.Work.closes g.W.Work.may g.W.Work.faults c.args.seat.now c.take.new.seat Nothing c.requires.free c.in_err-index.ensures.known c.in_err-index.ensures.taken)

pub run_theory-requires-clause-holds : goal.run_theory-requires-clause-holds
run_theory-requires-clause-holds g c κs within = (taken-theory g.W.Work.shape g.W.Work.forks g.W.Work.closes g.W.Work.may g.W.Work.faults c.args.seat.now c.take.new.seat c.in_ok-index.field-0 c.in_ok-index.ensures.taken c.requires.free c.in_ok-index.ensures.known c.in-Theory.index c.in-Theory.parents c.in-Theory.is).0

pub run_theory-requires-clause-unforked : goal.run_theory-requires-clause-unforked
run_theory-requires-clause-unforked g c κs within = (taken-theory g.W.Work.shape g.W.Work.forks g.W.Work.closes g.W.Work.may g.W.Work.faults c.args.seat.now c.take.new.seat c.in_ok-index.field-0 c.in_ok-index.ensures.taken c.requires.free c.in_ok-index.ensures.known c.in-Theory.index c.in-Theory.parents c.in-Theory.is).1

pub run_theory-requires-clause-parents : goal.run_theory-requires-clause-parents
run_theory-requires-clause-parents g c κs within =
    taken-parents g.W.Work.shape g.W.Work.forks g.W.Work.closes g.W.Work.may g.W.Work.faults c.args.seat.now c.take.new.seat c.in_ok-index.field-0 c.in_ok-index.ensures.taken c.requires.free c.in_ok-index.ensures.known c.in-Theory.index c.in-Theory.parents c.args.work.now c.as_slice.result.now c.in-Theory.is (ap (λ p. p.session) c.requires.board ∙ c.requires.session) c.as_slice.ensures.value

pub pass_gate-requires-clause-holds : goal.pass_gate-requires-clause-holds
pass_gate-requires-clause-holds g c κs within =
    (taken-proof g.W.Work.shape g.W.Work.forks g.W.Work.closes g.W.Work.may g.W.Work.faults c.args.seat.now c.take.new.seat c.in_ok-index.field-0 c.in_ok-index.ensures.taken c.requires.free c.in_ok-index.ensures.known c.in-Proof.number c.in-Proof.goal c.args.work.now c.deref.result.now c.in-Proof.is (ap (λ p. p.session) c.requires.board ∙ c.requires.session) c.deref.ensures).0

pub pass_gate-requires-clause-goal : goal.pass_gate-requires-clause-goal
pass_gate-requires-clause-goal g c κs within =
    (taken-proof g.W.Work.shape g.W.Work.forks g.W.Work.closes g.W.Work.may g.W.Work.faults c.args.seat.now c.take.new.seat c.in_ok-index.field-0 c.in_ok-index.ensures.taken c.requires.free c.in_ok-index.ensures.known c.in-Proof.number c.in-Proof.goal c.args.work.now c.deref.result.now c.in-Proof.is (ap (λ p. p.session) c.requires.board ∙ c.requires.session) c.deref.ensures).1

pub pass_gate-requires-clause-forked : goal.pass_gate-requires-clause-forked
pass_gate-requires-clause-forked g c κs within =
    (taken-proof g.W.Work.shape g.W.Work.forks g.W.Work.closes g.W.Work.may g.W.Work.faults c.args.seat.now c.take.new.seat c.in_ok-index.field-0 c.in_ok-index.ensures.taken c.requires.free c.in_ok-index.ensures.known c.in-Proof.number c.in-Proof.goal c.args.work.now c.deref.result.now c.in-Proof.is (ap (λ p. p.session) c.requires.board ∙ c.requires.session) c.deref.ensures).2

pub returns-in-Idle-clause-course : goal.returns-in-Idle-clause-course
returns-in-Idle-clause-course g c = taken-idle g.W.Work.shape g.W.Work.forks g.W.Work.closes g.W.Work.may g.W.Work.faults c.args.seat.now c.take.new.seat c.in_ok-index.field-0 c.in_ok-index.ensures.taken c.requires.free c.in_ok-index.ensures.known c.in-Idle.is

pub returns-in-Finished-clause-course : goal.returns-in-Finished-clause-course
returns-in-Finished-clause-course g c = taken-finished g.W.Work.shape g.W.Work.forks g.W.Work.closes g.W.Work.may g.W.Work.faults c.args.seat.now c.take.new.seat c.in_ok-index.field-0 c.in_ok-index.ensures.taken c.requires.free c.in_ok-index.ensures.known c.in-Finished.is

pub returns-in-Stopped-clause-course : goal.returns-in-Stopped-clause-course
returns-in-Stopped-clause-course g c = taken-stopped g.W.Work.shape g.W.Work.forks g.W.Work.closes g.W.Work.may g.W.Work.faults c.args.seat.now c.take.new.seat c.in_ok-index.field-0 c.in_ok-index.ensures.taken c.requires.free c.in_ok-index.ensures.known c.in-Stopped.is
