use Rattle.pure_lookup.specs.Meaning.{constructors}
use Rattle.pure_declare.proofs.TakenLaws.{taken-there}
use Rattle.pure_declare.proofs.taken.is_typ_taken.Goals as goal

pub returns : goal.returns
returns c = taken-there c.theory.result.now c.args.place.now.content constructors c.args.name c.declares_typ.result c.theory.ensures.value c.declares_typ.ensures
