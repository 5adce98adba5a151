use Rattle.pure_definitions.specs.Types.Typ.{TVar}
use Rattle.pure_elab.proofs.NumberedLaws.{bound-has}
use Rattle.pure_elab.proofs.numbers.found_image.Goals as goal

pub returns-in_ok-typ-in-Some-clause-has : goal.returns-in_ok-typ-in-Some-clause-has
returns-in_ok-typ-in-Some-clause-has c = bound-has c.args.binds.now (TVar c.args.name c.args.index c.args.sort.now) c.in-Some.image.now c.in-Some.ensures.bound
