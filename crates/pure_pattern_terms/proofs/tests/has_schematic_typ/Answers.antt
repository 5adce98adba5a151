use Rattle.pure_pattern_terms.proofs.TypLaws.{typ_variables-told}
use Rattle.pure_pattern_terms.proofs.tests.has_schematic_typ.Goals as goal

pub returns : goal.returns
returns c = rw c.has_schematic.ensures (typ_variables-told c.args.t.now)
