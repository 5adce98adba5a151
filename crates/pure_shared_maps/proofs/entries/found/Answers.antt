use Rattle.pure_shared_maps.proofs.FindLaws.{found-here, found-other, found-nothing}
use Rattle.pure_shared_maps.proofs.entries.found.Goals as goal

pub returns-then-place-entries : goal.returns-then-place-entries
returns-then-place-entries g c = found-nothing _ _ c.args.entries.now c.place_of-place.ensures c.if-place-entries.true

pub returns-then-entry-key : goal.returns-then-entry-key
returns-then-entry-key g c = found-other _ _ c.args.entries.now c.index-entries-place.result c.requires c.place_of-place.ensures c.if-place-entries.false c.index-entries-place.is c.if-entry-key.true

pub returns : goal.returns
returns g c = found-here _ _ c.args.entries.now c.index-entries-place.result c.place_of-place.ensures c.if-place-entries.false c.index-entries-place.is c.if-entry-key.false
