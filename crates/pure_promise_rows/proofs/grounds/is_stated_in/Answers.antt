use Rattle.std.proofs.Common.{◌∙◌}
use Rattle.pure_promise_rows.proofs.GroundLemmas.{one_statement}
use Rattle.pure_promise_rows.proofs.grounds.is_stated_in.Goals as goal

pub returns-in-Some : goal.returns-in-Some
returns-in-Some c = λ same name A m. one_statement c.args.theory.now c.content_is_sound.ensures.content c.args.lemma.now.label c.in-Some.ensures.0 name c.in-Some.prop.now A c.in-Some.ensures.1 m ∙ c.are_same.ensures.0 same ∙ c.deref.ensures

pub returns-in-None : goal.returns-in-None
returns-in-None c = λ yes name A m. absurd (c.in-None.ensures name A m)
