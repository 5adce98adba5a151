use Rattle.pure_tunify.specs.Working.{HasImagesWithin, IsWrittenInOrder}
use Rattle.pure_tunify.proofs.UnifyLaws.{settled_unified, written_general, written_idempotent}
use Rattle.pure_tunify.proofs.unifier.unify_from.Goals as goal

pub unreachable-requires : goal.unreachable-requires
unreachable-requires c =
    let beyond : ¬ HasImagesWithin c.in_ok-settings.settings.sets = rw c.in-None.is at c.in_ok-map.ensures in
    beyond c.in_ok-settings.ensures.ok.within.images

pub returns-clause-ok : goal.returns-clause-ok
returns-clause-ok c =
    let found : HasImagesWithin c.in_ok-settings.settings.sets × IsWrittenInOrder c.in_ok-settings.settings.sets c.in-Some.map = rw c.in-Some.is at c.in_ok-map.ensures in
    settled_unified c.args.order.now c.args.index c.args.from c.args.pairs.now c.in_ok-settings.settings c.in-Some.map c.next-next.result c.in_ok-settings.ensures.ok found.1 c.next-next.ensures.value

pub returns-clause-general : goal.returns-clause-general
returns-clause-general c = written_general c.args.order.now c.args.index c.args.from c.args.pairs.now c.in-Some.map c.next-next.result c.requires (returns-clause-ok c)

pub returns-clause-idempotent : goal.returns-clause-idempotent
returns-clause-idempotent c =
    let found : HasImagesWithin c.in_ok-settings.settings.sets × IsWrittenInOrder c.in_ok-settings.settings.sets c.in-Some.map = rw c.in-Some.is at c.in_ok-map.ensures in
    written_idempotent c.in_ok-settings.settings.sets c.in-Some.map c.in_ok-settings.ensures.ok.triangular found.1.0
