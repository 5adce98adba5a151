use Rattle.pure_replay.proofs.lines.concluded.Goals as goal

pub returns-in-AllIntro : goal.returns-in-AllIntro
returns-in-AllIntro c = rw c.in-AllIntro.is c.all_intro_of.ensures

pub returns-in-AllElim : goal.returns-in-AllElim
returns-in-AllElim c = rw c.in-AllElim.is c.all_elim_of.ensures

pub returns-in-ImpIntro : goal.returns-in-ImpIntro
returns-in-ImpIntro c = rw c.in-ImpIntro.is c.implies_intro_of.ensures

pub returns-in-ImpElim : goal.returns-in-ImpElim
returns-in-ImpElim c = rw c.in-ImpElim.is c.implies_elim_of.ensures
