use Rattle.pure_theory.proofs.theory.Theory.content_is_sound.Goals as goal

pub returns : goal.returns
returns c = rw (← c.self.view_is) c.self.invariant.sound
