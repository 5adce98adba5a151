use Rattle.pure_kernel.proofs.theory_text.has_theory_content.Goals as goal

pub returns : goal.returns
returns c = record { content = c.content_is_sound.ensures.content; above_pure = c.content_is_sound.ensures.above_pure }
