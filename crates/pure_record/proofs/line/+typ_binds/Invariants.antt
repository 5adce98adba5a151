use Rattle.pure_record.proofs.line.+typ_binds.Given as goal

abbrev pub decreases-typ_binds : goal.decreases-typ_binds
decreases-typ_binds l = l.room
