use Rattle.pure_session_meaning.proofs.ParentLaws.{contents_merge_or_not as law}
use Rattle.pure_session_meaning.proofs.laws.contents_merge_or_not.Goals as goal

pub returns : goal.returns
returns c = law
