use Rattle.pure_elab_laws.proofs.TypedLaws.{whole-drafts}
use Rattle.pure_elab_laws.proofs.typings.typings_of_whole_drafts.Goals as goal

pub returns : goal.returns
returns c = whole-drafts
