use Rattle.pure_session_meaning.proofs.LabelLaws.{labels_ascend}
use Rattle.pure_session_meaning.proofs.laws.labels_ascend.Goals as goal

pub returns : goal.returns
returns c = labels_ascend
