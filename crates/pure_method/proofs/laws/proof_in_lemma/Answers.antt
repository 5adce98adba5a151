use Rattle.pure_method.proofs.CourseLaws.{course_in-ends, course_in-once}
use Rattle.pure_method.proofs.FaultLaws.{never_in-memory, rests_in-promised}
use Rattle.pure_method.proofs.InLemmaLaws.{names_have_answers}
use Rattle.pure_method.proofs.OnceLaws.{proof_in-once}
use Rattle.pure_method.proofs.SoundLaws.{proved_in-derivable}
use Rattle.pure_method.proofs.ValueLaws.{proof_in-has_a_value}
use Rattle.pure_method.proofs.laws.proof_in_lemma.Goals as goal

pub returns-clause-once : goal.returns-clause-once
returns-clause-once c = proof_in-once

pub returns-clause-derivable : goal.returns-clause-derivable
returns-clause-derivable c = proved_in-derivable

pub returns-clause-promises : goal.returns-clause-promises
returns-clause-promises c = rests_in-promised

pub returns-clause-memory : goal.returns-clause-memory
returns-clause-memory c = never_in-memory

pub returns-clause-value : goal.returns-clause-value
returns-clause-value c = proof_in-has_a_value

pub returns-clause-names : goal.returns-clause-names
returns-clause-names c = names_have_answers

pub returns-clause-course_ends : goal.returns-clause-course_ends
returns-clause-course_ends c = course_in-ends

pub returns-clause-course_once : goal.returns-clause-course_once
returns-clause-course_once c = course_in-once
