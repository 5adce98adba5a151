use Rattle.pure_replay.proofs.lines.implies_elim_by.Goals as goal

pub implies_elim-requires : goal.implies_elim-requires
implies_elim-requires c = λ t A C is. c.requires t c.in-Some.premise.now c.in-Some.ensures A C is
