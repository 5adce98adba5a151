use Rattle.pure_lookup.specs.Meaning.{constants}
use Rattle.pure_declare.proofs.TakenLaws.{taken-there}
use Rattle.pure_declare.proofs.taken.is_const_taken.Goals as goal

pub returns : goal.returns
returns c = taken-there c.theory.result.now c.args.place.now.content constants c.args.name c.declares_const.result c.theory.ensures.value c.declares_const.ensures
