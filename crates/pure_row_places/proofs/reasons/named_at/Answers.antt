use Rattle.std.proofs.Common.{◌∙◌, ap}
use Rattle.pure_row_places.specs.Reasons.{behind, at_word}
use Rattle.pure_row_places.proofs.LoopLaws.{named-step}
use Rattle.pure_row_places.proofs.reasons.named_at.Goals as goal

pub returns : goal.returns
returns c = named-step c.args.text.now c.args.place c.requires _ (c.behind_at.ensures ∙ ap (behind at_word) c.rest_of-rest.ensures)
