use Rattle.std.proofs.Common.{sym, subst}
use Rattle.pure_definitions.specs.Terms.Term.{Term}
use Rattle.pure_resolve.specs.Goals.{IsLongSubgoal}
use Rattle.pure_resolve.proofs.SettleLaws.{plain_answer, instance_typed, settled_stopped}
use Rattle.pure_resolve.proofs.settle.settled.Goals as goal

pub plain_settled-requires-clause-respecting : goal.plain_settled-requires-clause-respecting
plain_settled-requires-clause-respecting g c = (c.requires.plain c.if-plain.true).respecting

pub returns-then-plain : goal.returns-then-plain
returns-then-plain g c = plain_answer c.args.typs.now c.args.terms.now c.args.t c.plain_settled.result (c.requires.plain c.if-plain.true) c.plain_settled.ensures

pub returns-then-stays : goal.returns-then-stays
returns-then-stays g c = subst (λ (u : Term). IsLongSubgoal u c.long_given.result) (sym (c.stays.ensures c.if-stays.true)) c.long_given.ensures

pub long_given-requires-in-Ok : goal.long_given-requires-in-Ok
long_given-requires-in-Ok g c = instance_typed c.args.typs.now c.args.terms.now c.args.t c.in-Ok.image c.requires.typed c.in-Ok.ensures

pub returns-in-Err : goal.returns-in-Err
returns-in-Err g c = settled_stopped c.args.typs.now c.args.terms.now c.args.t c.in-Err.fault c.in-Err.ensures
