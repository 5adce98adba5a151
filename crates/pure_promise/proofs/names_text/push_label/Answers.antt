use Rattle.pure_promise.proofs.LabelLaws.{found_text}
use Rattle.pure_promise.proofs.names_text.push_label.Goals as goal

pub returns : goal.returns
returns c = rw (found_text c.args.names.now c.args.entries.now c.requires.ascend c.place_near-place.result c.index-entries-place.result c.args.label c.place_near-place.ensures.within c.index-entries-place.is c.place_near-place.ensures.at) c.in_ok-push_text_of_name.ensures
