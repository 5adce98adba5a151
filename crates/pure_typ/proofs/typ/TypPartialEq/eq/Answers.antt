use Rattle.pure_definitions.specs.Models.Comparison.{typ_cmp-ties}
use Rattle.pure_typ.proofs.typ.TypPartialEq.eq.Goals as goal

pub returns : goal.returns
returns c = let ties = typ_cmp-ties c.args.self.now c.args.other.now in cc
