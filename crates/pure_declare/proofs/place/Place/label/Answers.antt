use Rattle.pure_declare.proofs.place.Place.label.Goals as goal

pub returns-clause-above : goal.returns-clause-above
returns-clause-above c = rw (← c.self.view_is) c.self.invariant.label_above
