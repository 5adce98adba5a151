use Rattle.pure_record.proofs.term.+term.Given as goal

abbrev pub decreases-term : goal.decreases-term
decreases-term l = l.room

abbrev pub decreases-bracketed : goal.decreases-bracketed
decreases-bracketed l = l.room

abbrev pub decreases-compound : goal.decreases-compound
decreases-compound l = l.room

abbrev pub decreases-abstraction : goal.decreases-abstraction
decreases-abstraction l = l.room

abbrev pub decreases-application : goal.decreases-application
decreases-application l = l.room
