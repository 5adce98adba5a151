use Rattle.pure_declare.proofs.SimpleLaws.{made-certified, made-schematic}
use Rattle.pure_declare.proofs.simple.const_made.Goals as goal

pub with_const-requires-clause-certified : goal.with_const-requires-clause-certified
with_const-requires-clause-certified c = made-certified c.args.place.now.content c.args.typ.now c.in_ok-schematic.schematic c.in_ok-schematic.ensures c.requires.certified

pub with_const-requires-clause-schematic : goal.with_const-requires-clause-schematic
with_const-requires-clause-schematic c = made-schematic c.args.typ.now c.in_ok-schematic.schematic c.in_ok-schematic.ensures
