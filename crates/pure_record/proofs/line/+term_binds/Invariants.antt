use Rattle.pure_record.proofs.line.+term_binds.Given as goal

abbrev pub decreases-term_binds : goal.decreases-term_binds
decreases-term_binds l = l.room
