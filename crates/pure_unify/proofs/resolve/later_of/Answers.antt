use Rattle.std.proofs.Common.{List, ◌∷◌, ◌-◌, drop, refl, subst}
use Rattle.std.specs.Prelude.{Err}
use Rattle.pure_unify_steps.specs.declared.node.Setting.{Setting}
use Rattle.pure_unify.specs.Resolved.{IsLaterAnswer}
use Rattle.pure_unify.proofs.ResolvedLaws.{far_start, far_beyond, rest_slice, big_for, later_fault, fault_later}
use Rattle.pure_unify.proofs.resolve.later_of.Goals as goal

pub loop-left-init : goal.loop-left-init
loop-left-init c = far_start c.args.settings.now (record { typs = c.empty-typs.result; terms = c.new-terms.result }) c.empty-typs.ensures c.new-terms.ensures.items

pub returns-in-Err : goal.returns-in-Err
returns-in-Err c =
    let fault : IsLaterAnswer (c.index-settings-left.result ∷ drop c.loop-left.left c.args.settings.now) (Err c.in-Err.fault) =
    subst (λ (hs : List Setting). IsLaterAnswer (c.index-settings-left.result ∷ hs) (Err c.in-Err.fault)) (rest_slice c.args.settings.now c.loop-left.left c.loop-left-test.true) c.in-Err.ensures in
    later_fault c.args.settings.now c.in-Err.fault
    (big_for _ _ (far_beyond c.args.settings.now c.loop-left.left (c.loop-left.left - 1) c.loop-left.later c.index-settings-left.result c.loop-left.invariant c.loop-left-test.true refl c.index-settings-left.is) c.in-Err.fault
    (fault_later (c.index-settings-left.result ∷ drop c.loop-left.left c.args.settings.now) c.in-Err.fault fault))
