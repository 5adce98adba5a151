use Rattle.std.proofs.Common.{rules, subst, sym}
use Rattle.pure_text.proofs.ListLaws.{each_of}
use Rattle.pure_text.specs.Lists.{EachTwo}
use Rattle.pure_race.specs.Lanes.{IsEnded}
use Rattle.pure_race.proofs.races.run.Goals as goal

pub work_on_each-requires-clause-works : goal.work_on_each-requires-clause-works
work_on_each-requires-clause-works g c κs within = each_of _ c.args.lanes.items (λ lane is_in borrow is. search (rules, c.requires))

pub work_on_each-requires-clause-becomes : goal.work_on_each-requires-clause-becomes
work_on_each-requires-clause-becomes g c κs within old new k =
    rw c.of.ensures (subst (λ y. IsEnded (g.A.Attempts.wins c.args.attempts.now) (g.A.Attempts.many c.args.attempts.now) c.args.width old y) k.left
    (subst (λ x. IsEnded (g.A.Attempts.wins c.args.attempts.now) (g.A.Attempts.many c.args.attempts.now) c.args.width x k.after_call.now) k.argument_is k.call))

pub returns : goal.returns
returns g c = rw c.of.ensures at c.work_on_each.ensures
