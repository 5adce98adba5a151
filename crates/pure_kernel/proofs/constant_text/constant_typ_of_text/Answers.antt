use Rattle.pure_declare.proofs.SimpleLaws.{made-certified, made-schematic}
use Rattle.pure_kernel.proofs.constant_text.constant_typ_of_text.Goals as goal

pub returns-clause-certified : goal.returns-clause-certified
returns-clause-certified c = made-certified c.args.theory.now _ _ c.in_ok-typ.ensures c.in_ok-fixed.ensures.certified

pub returns-clause-schematic : goal.returns-clause-schematic
returns-clause-schematic c = made-schematic _ _ c.in_ok-typ.ensures
