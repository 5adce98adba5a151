use Rattle.pure_lookup.specs.Meaning.{classes}
use Rattle.pure_declare.proofs.TakenLaws.{taken-there}
use Rattle.pure_declare.proofs.taken.is_class_taken.Goals as goal

pub returns : goal.returns
returns c = taken-there c.theory.result.now c.args.place.now.content classes c.args.name c.declares_class.result c.theory.ensures.value c.declares_class.ensures
