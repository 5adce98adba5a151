use Rattle.pure_core.proofs.RunLaws.{goes_on-then}
use Rattle.pure_core.proofs.TaskLaws.{takes-theory, takes-proof}
use Rattle.pure_core.proofs.runs.take_and_run.Goals as goal

pub run_theory-requires-clause-alone : goal.run_theory-requires-clause-alone
run_theory-requires-clause-alone g c κs l = let taken = takes-theory (g.W.Work.shape c.args.work.now) (g.W.Work.forks c.args.work.now) (g.W.Work.closes c.args.work.now) (g.W.Work.may c.args.work.now) (g.W.Work.faults c.args.work.now) c.args.core.now c.take.new.self c.in_ok-index.field-0 c.in-Theory.index c.in-Theory.parents c.in-Theory.is c.in_ok-index.ensures c.requires.legal c.requires.rests in taken.1

pub run_theory-requires-clause-parents : goal.run_theory-requires-clause-parents
run_theory-requires-clause-parents g c κs l = let taken = takes-theory (g.W.Work.shape c.args.work.now) (g.W.Work.forks c.args.work.now) (g.W.Work.closes c.args.work.now) (g.W.Work.may c.args.work.now) (g.W.Work.faults c.args.work.now) c.args.core.now c.take.new.self c.in_ok-index.field-0 c.in-Theory.index c.in-Theory.parents c.in-Theory.is c.in_ok-index.ensures c.requires.legal c.requires.rests in rw c.as_slice.ensures.value taken.2

pub returns-in_err-run_theory-in-Theory-clause-goes_on : goal.returns-in_err-run_theory-in-Theory-clause-goes_on
returns-in_err-run_theory-in-Theory-clause-goes_on g c = let taken = takes-theory (g.W.Work.shape c.args.work.now) (g.W.Work.forks c.args.work.now) (g.W.Work.closes c.args.work.now) (g.W.Work.may c.args.work.now) (g.W.Work.faults c.args.work.now) c.args.core.now c.take.new.self c.in_ok-index.field-0 c.in-Theory.index c.in-Theory.parents c.in-Theory.is c.in_ok-index.ensures c.requires.legal c.requires.rests in goes_on-then (g.W.Work.forks c.args.work.now) (g.W.Work.closes c.args.work.now) (g.W.Work.may c.args.work.now) (g.W.Work.faults c.args.work.now) c.args.core.now c.take.new.self c.run_theory.new.core taken.0 c.run_theory.ensures.goes_on

pub returns-in_ok-run_theory-in-Theory-clause-goes_on : goal.returns-in_ok-run_theory-in-Theory-clause-goes_on
returns-in_ok-run_theory-in-Theory-clause-goes_on g c = let taken = takes-theory (g.W.Work.shape c.args.work.now) (g.W.Work.forks c.args.work.now) (g.W.Work.closes c.args.work.now) (g.W.Work.may c.args.work.now) (g.W.Work.faults c.args.work.now) c.args.core.now c.take.new.self c.in_ok-index.field-0 c.in-Theory.index c.in-Theory.parents c.in-Theory.is c.in_ok-index.ensures c.requires.legal c.requires.rests in goes_on-then (g.W.Work.forks c.args.work.now) (g.W.Work.closes c.args.work.now) (g.W.Work.may c.args.work.now) (g.W.Work.faults c.args.work.now) c.args.core.now c.take.new.self c.run_theory.new.core taken.0 c.run_theory.ensures.goes_on

pub run_proof-requires-clause-alone : goal.run_proof-requires-clause-alone
run_proof-requires-clause-alone g c κs l = let taken = takes-proof (g.W.Work.shape c.args.work.now) (g.W.Work.forks c.args.work.now) (g.W.Work.closes c.args.work.now) (g.W.Work.may c.args.work.now) (g.W.Work.faults c.args.work.now) c.args.core.now c.take.new.self c.in_ok-index.field-0 c.in-Proof.number c.in-Proof.goal c.in-Proof.is c.in_ok-index.ensures c.requires.legal c.requires.rests in rw c.deref.ensures taken.1

pub run_proof-requires-clause-forked : goal.run_proof-requires-clause-forked
run_proof-requires-clause-forked g c κs l = let taken = takes-proof (g.W.Work.shape c.args.work.now) (g.W.Work.forks c.args.work.now) (g.W.Work.closes c.args.work.now) (g.W.Work.may c.args.work.now) (g.W.Work.faults c.args.work.now) c.args.core.now c.take.new.self c.in_ok-index.field-0 c.in-Proof.number c.in-Proof.goal c.in-Proof.is c.in_ok-index.ensures c.requires.legal c.requires.rests in rw c.deref.ensures taken.2

pub returns-in_err-run_proof-in-Proof-clause-goes_on : goal.returns-in_err-run_proof-in-Proof-clause-goes_on
returns-in_err-run_proof-in-Proof-clause-goes_on g c = let taken = takes-proof (g.W.Work.shape c.args.work.now) (g.W.Work.forks c.args.work.now) (g.W.Work.closes c.args.work.now) (g.W.Work.may c.args.work.now) (g.W.Work.faults c.args.work.now) c.args.core.now c.take.new.self c.in_ok-index.field-0 c.in-Proof.number c.in-Proof.goal c.in-Proof.is c.in_ok-index.ensures c.requires.legal c.requires.rests in goes_on-then (g.W.Work.forks c.args.work.now) (g.W.Work.closes c.args.work.now) (g.W.Work.may c.args.work.now) (g.W.Work.faults c.args.work.now) c.args.core.now c.take.new.self c.run_proof.new.core taken.0 c.run_proof.ensures.goes_on

pub returns-in_ok-run_proof-in-Proof-clause-goes_on : goal.returns-in_ok-run_proof-in-Proof-clause-goes_on
returns-in_ok-run_proof-in-Proof-clause-goes_on g c = let taken = takes-proof (g.W.Work.shape c.args.work.now) (g.W.Work.forks c.args.work.now) (g.W.Work.closes c.args.work.now) (g.W.Work.may c.args.work.now) (g.W.Work.faults c.args.work.now) c.args.core.now c.take.new.self c.in_ok-index.field-0 c.in-Proof.number c.in-Proof.goal c.in-Proof.is c.in_ok-index.ensures c.requires.legal c.requires.rests in goes_on-then (g.W.Work.forks c.args.work.now) (g.W.Work.closes c.args.work.now) (g.W.Work.may c.args.work.now) (g.W.Work.faults c.args.work.now) c.args.core.now c.take.new.self c.run_proof.new.core taken.0 c.run_proof.ensures.goes_on
