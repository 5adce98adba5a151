use Rattle.std.proofs.Common.{◌≡◌, ◌≤◌, refl, arith}
use Rattle.pure_definitions.specs.Terms.Term.{Bound}
use Rattle.pure_definitions.specs.Terms.Measures.{loose_above}
use Rattle.pure_definitions.proofs.GrownLemmas.{put-shallow}
use Rattle.pure_definitions.proofs.MeasureLemmas.{put_stays}
use Rattle.pure_term.proofs.bounds.+put_under.Goals as goal

pub lift_under-requires-clause-shallow : goal.lift_under-requires-clause-shallow
lift_under-requires-clause-shallow t c =
    let e : c.args.body.now.value ≡ Bound c.in-Bound.bound = rw (← c.deref-whole.ensures, ← c.whole.view_is, c.in-Bound.is) refl in
    let shallow = put-shallow c.args.place c.in-Bound.bound c.args.arg.now.value c.args.body.now.value e c.if-bound-place.true c.requires.few in
    omega arith

pub returns-then-loose_above_of-from : goal.returns-then-loose_above_of-from
returns-then-loose_above_of-from t c =
    let low : loose_above c.args.body.now.value ≤ c.args.place = rw (← c.deref-whole.ensures) (omega arith) in
    rw (put_stays c.args.place c.args.arg.now.value c.args.body.now.value low) c.try_clone.ensures
