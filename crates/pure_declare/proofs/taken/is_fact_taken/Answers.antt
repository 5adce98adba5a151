use Rattle.pure_lookup.specs.Meaning.{facts}
use Rattle.pure_declare.proofs.TakenLaws.{taken-there}
use Rattle.pure_declare.proofs.taken.is_fact_taken.Goals as goal

pub returns : goal.returns
returns c = taken-there c.theory.result.now c.args.place.now.content facts c.args.name c.declares_fact.result c.theory.ensures.value c.declares_fact.ensures
