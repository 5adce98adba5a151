use Rattle.pure_machine.specs.State.{TakeTheory, TakeProof}
use Rattle.pure_board.proofs.HoldLaws.{token-free, next-of}
use Rattle.pure_board.proofs.TakeLaws.{theory-taken, proof-taken, done-theory, done-proof, done-missed}
use Rattle.pure_board.proofs.taking.take_by.Goals as goal

pub hold-core-requires-clause-free : goal.hold-core-requires-clause-free
hold-core-requires-clause-free g c = token-free _ _ _ _ _ _ c.requires.place c.requires.seated

pub enter-requires-clause-next : goal.enter-requires-clause-next
enter-requires-clause-next g c =
    let s = c.requires.seated in let h = c.hold-core.ensures.held in let t = rw c.in-Ok-Theory.field-0-is at c.in-Ok-Theory.ensures in
    (TakeTheory c.in-Ok-Theory.index, next-of _ _ _ _ _ _ _ _ s h _ (TakeTheory c.in-Ok-Theory.index) (theory-taken _ _ _ _ _ _ _ _ _ c.hold-core.new.seat.me s h c.in-Ok-Theory.index c.in-Ok-Theory.parents t) t.2)

pub enter-requires-in-Ok-Proof-clause-next : goal.enter-requires-in-Ok-Proof-clause-next
enter-requires-in-Ok-Proof-clause-next g c =
    let s = c.requires.seated in let h = c.hold-core.ensures.held in let t = rw c.in-Ok-Proof.field-0-is at c.in-Ok-Proof.ensures in
    (TakeProof c.in-Ok-Proof.number, next-of _ _ _ _ _ _ _ _ s h _ (TakeProof c.in-Ok-Proof.number) (proof-taken _ _ _ _ _ _ _ _ _ c.hold-core.new.seat.me s h c.in-Ok-Proof.number c.in-Ok-Proof.goal t) t.3)

pub returns-in-Err-clause-done : goal.returns-in-Err-clause-done
returns-in-Err-clause-done g c = done-missed _ _ _ _ _ _ _ c.hold-core.result c.hold-core.result _ c.requires.seated c.hold-core.ensures.held c.give_back.ensures.released

pub returns-in-Ok-Theory-clause-done : goal.returns-in-Ok-Theory-clause-done
returns-in-Ok-Theory-clause-done g c = done-theory _ _ _ _ _ _ _ _ _ _ c.requires.seated c.hold-core.ensures.held c.in-Ok-Theory.index c.in-Ok-Theory.parents (rw c.in-Ok-Theory.field-0-is at c.in-Ok-Theory.ensures) c.enter.ensures.entered

pub returns-in-Ok-Proof-clause-done : goal.returns-in-Ok-Proof-clause-done
returns-in-Ok-Proof-clause-done g c = done-proof _ _ _ _ _ _ _ _ _ _ c.requires.seated c.hold-core.ensures.held c.in-Ok-Proof.number c.in-Ok-Proof.goal (rw c.in-Ok-Proof.field-0-is at c.in-Ok-Proof.ensures) c.enter-in-Ok-Proof.ensures.entered
