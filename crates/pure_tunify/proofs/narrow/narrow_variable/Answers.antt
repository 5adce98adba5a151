use Rattle.std.proofs.Common.{inl, inr, refl}
use Rattle.pure_tunify.specs.Asking.{AsksNoMore, IsUnionAsked}
use Rattle.pure_tunify.proofs.RenamedLaws.{bound_in}
use Rattle.pure_tunify.proofs.narrow.narrow_variable.Goals as goal

pub set_fresh-requires-clause-unset : goal.set_fresh-requires-clause-unset
set_fresh-requires-clause-unset c = c.requires.unset c.in-None.ensures.bound

pub returns-in-Some : goal.returns-in-Some
returns-in-Some c all are = inr (refl, refl, inr (bound_in c.args.renamed.now c.args.asked.now c.in-Some.field-0.now c.in-Some.ensures.bound))

pub returns-in-None-union : goal.returns-in-None-union
returns-in-None-union c all are =
    let none : AsksNoMore c.args.order.now all c.args.asked.now = rw c.in-None-union.is at c.in_ok-union-in-None.ensures all are in
    inr (refl, refl, inl none)

pub returns-in_ok-set_fresh-in-Some-union : goal.returns-in_ok-set_fresh-in-Some-union
returns-in_ok-set_fresh-in-Some-union c all are =
    let more : (¬ AsksNoMore c.args.order.now all c.args.asked.now) × IsUnionAsked c.args.order.now all c.args.asked.now c.in-Some-union.sort = rw c.in-Some-union.is at c.in_ok-union-in-None.ensures all are in
    inl (record { union = c.in-Some-union.sort; unset = c.in-None.ensures.bound; more = more.0; is = more.1; set = c.in_ok-set_fresh-in-Some-union.ensures })
