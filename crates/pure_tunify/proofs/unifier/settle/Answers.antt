use Rattle.pure_tunify.specs.declared.fault.TypFault.TheVariants.{Big}
use Rattle.pure_tunify.specs.Answers.{AreSettled}
use Rattle.pure_tunify.proofs.UnifyLaws.{settled_general, settled_idempotent, a_reason}
use Rattle.pure_tunify.proofs.unifier.settle.Goals as goal

pub returns-in-Stopped-clause-reason : goal.returns-in-Stopped-clause-reason
returns-in-Stopped-clause-reason c = a_reason c.args.order.now c.args.index c.args.from c.args.pairs.now c.requires c.reason.result c.reason.ensures

pub returns-in-Found-clause-general : goal.returns-in-Found-clause-general
returns-in-Found-clause-general c =
    let found : AreSettled c.args.order.now c.args.index c.args.from c.args.pairs.now c.in-Found.found = rw c.in-Found.is at c.in_ok-found.ensures.ok in
    settled_general c.args.order.now c.args.index c.args.from c.args.pairs.now c.requires c.in-Found.found found

pub returns-in-Found-clause-idempotent : goal.returns-in-Found-clause-idempotent
returns-in-Found-clause-idempotent c =
    let found : AreSettled c.args.order.now c.args.index c.args.from c.args.pairs.now c.in-Found.found = rw c.in-Found.is at c.in_ok-found.ensures.ok in
    settled_idempotent c.in-Found.found.sets found.triangular

pub returns-in-Beyond-clause-reason : goal.returns-in-Beyond-clause-reason
returns-in-Beyond-clause-reason c = a_reason c.args.order.now c.args.index c.args.from c.args.pairs.now c.requires (Big c.in-Beyond.at) (rw c.in-Beyond.is at c.in_ok-found.ensures.beyond)
