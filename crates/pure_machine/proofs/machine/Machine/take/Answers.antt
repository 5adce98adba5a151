use Rattle.std.proofs.Common.{◌∙◌, ℕ, List, sym, ap, subst}
use Rattle.pure_machine.specs.Step.{IsReadyIn, NoneReadyBelow}
use Rattle.pure_machine.specs.Parts.{whole}
use Rattle.pure_machine.proofs.TakeLaws.{takes-same}
use Rattle.pure_machine.proofs.machine.Machine.take.Goals as goal

pub take_proof-requires-clause-none : goal.take_proof-requires-clause-none
take_proof-requires-clause-none g c = subst (λ t. (i : ℕ) (cs : List _) → ¬ IsReadyIn t.shape t.progress i cs) (sym c.next_ready.ensures.same) c.in-None.ensures.found

pub take_theory-requires-clause-next : goal.take_theory-requires-clause-next
take_theory-requires-clause-next g c =
    let found = subst (λ t. (cs : List _) × IsReadyIn t.shape t.progress c.in-Some.index cs × NoneReadyBelow t.shape t.progress c.in-Some.index) (sym c.next_ready.ensures.same) c.in-Some.ensures.found in
    (found.0, (found.1, found.2))

pub returns-in-None : goal.returns-in-None
returns-in-None g c =
    let m = c.self.inside in
    takes-same _ _ _ _ (ap (λ t. whole t m.promises.list m.promises.marks m.policy m.kept m.stopped m.log) c.next_ready.ensures.same ∙ c.self.view_is) c.take_proof.ensures

pub returns-in-Some : goal.returns-in-Some
returns-in-Some g c =
    let m = c.self.inside in
    takes-same _ _ _ _ (ap (λ t. whole t m.promises.list m.promises.marks m.policy m.kept m.stopped m.log) c.next_ready.ensures.same ∙ c.self.view_is) c.take_theory.ensures
