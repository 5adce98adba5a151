-- The state at the opening.
use Rattle.std.proofs.Common.{◌≡◌, ◌∙◌, ◌<◌, ap, arith, [], false}
use Rattle.pure_machine.specs.Policy.{Opening, due}
use Rattle.pure_machine.specs.State.{State, waiting, unmarked, opened}
use Rattle.pure_machine.specs.Step.{stops}
use Rattle.pure_core.proofs.KeptLaws.{cancel-keeps}

-- a state that is one at an opening with a worker may be stopped
pub opening-stops : {G C O : Type 0} (s : State G C O) (o : Opening) → s ≡ opened o → o.workers ≡ 1 → stops s.history < s.opening.workers
opening-stops {G} {C} {O} s o same one =
    let keeps = cancel-keeps {G = G} {C = C} {O = O} (record { opening = o; theories = waiting o.shape; promises = []; cancelled = unmarked o.shape; kept = 0; stopped = false; history = [] }) (due o.policy.cancels 0) in
    let none : stops s.history ≡ 0 = ap (λ x. stops x.history) same ∙ ap stops keeps.1 in
    let workers : s.opening.workers ≡ 1 = ap (λ x. x.opening.workers) same ∙ ap (λ x. x.workers) keeps.4 ∙ one in
    omega (arith, none, workers)
