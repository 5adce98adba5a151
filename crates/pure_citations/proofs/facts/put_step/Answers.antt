use Rattle.pure_citations.proofs.facts.put_step.Goals as goal

pub returns-in-Rule : goal.returns-in-Rule
returns-in-Rule c = rw (c.in-Rule.is, ← c.bytes.ensures) c.put_alone.ensures

pub returns-in-Erule : goal.returns-in-Erule
returns-in-Erule c = rw (c.in-Erule.is, ← c.bytes-in-Erule.ensures) c.put_alone-in-Erule.ensures

pub returns-in-Drule : goal.returns-in-Drule
returns-in-Drule c = rw (c.in-Drule.is, ← c.bytes-in-Drule.ensures) c.put_alone-in-Drule.ensures
