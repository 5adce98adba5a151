use Rattle.std.proofs.Common.{◌∙◌, ◌-◌, slice_set, sym, ap, subst}
use Rattle.pure_machine.specs.Step.{NoneReadyBelow}
use Rattle.pure_machine.proofs.ReadyLaws.{none_ready-with, with_progress-at}
use Rattle.pure_machine.specs.State.{Running}
use Rattle.pure_machine.proofs.theories.Theories.run.Goals as goal

pub invariant_of-self : goal.invariant_of-self
invariant_of-self g c =
    let old = c.self.inside in
    let same = ap (slice_set old.list.items (c.args.number - 1)) c.set_progress.ensures ∙ with_progress-at old.list.items c.args.number (Running c.args.forks) c.requires.low in
    (subst (λ l. NoneReadyBelow old.shape.items l old.cursor) (sym same) (none_ready-with old.shape.items old.list.items c.args.number c.args.forks old.cursor c.self.invariant.0), c.self.invariant.1, c.self.invariant.2, c.self.invariant.3)
