use Rattle.pure_pattern_terms.proofs.PlaceLaws.{bound-place, found-place}
use Rattle.pure_pattern_terms.proofs.places.place_of.Goals as goal

pub returns-in-Some : goal.returns-in-Some
returns-in-Some c = bound-place c.args.t.now c.in-Some.place c.in-Some.ensures

pub returns : goal.returns
returns c = found-place c.args.t.now c.in_ok-normal.normal c.bound_of-2.result c.in_ok-normal.ensures c.bound_of-2.ensures
