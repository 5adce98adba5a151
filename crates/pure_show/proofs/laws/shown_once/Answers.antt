use Rattle.pure_show.proofs.AnswerLaws.{shown-once}
use Rattle.pure_show.proofs.laws.shown_once.Goals as goal

pub returns : goal.returns
returns c = shown-once c.proof_in_lemma.ensures.course_once
