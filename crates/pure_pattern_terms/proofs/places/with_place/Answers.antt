use Rattle.pure_pattern_terms.proofs.PlaceLaws.{contained, not-contained}
use Rattle.pure_pattern_terms.proofs.places.with_place.Goals as goal

pub returns-then-contains : goal.returns-then-contains
returns-then-contains c = contained c.args.place c.args.places.items c.deref.result.now c.contains.result c.deref.ensures.value c.contains.ensures.value c.if-contains.true

pub returns : goal.returns
returns c = (c.in_ok-push.ensures.items, not-contained c.args.place c.args.places.items c.deref.result.now c.contains.result c.deref.ensures.value c.contains.ensures.value c.if-contains.false)
