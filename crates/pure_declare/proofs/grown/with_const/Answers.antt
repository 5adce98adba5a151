use Rattle.pure_declare.proofs.FaultLaws.{const-memory}
use Rattle.pure_declare.proofs.grown.with_const.Goals as goal

pub only_memory-requires : goal.only_memory-requires
only_memory-requires c = const-memory c.theory.result.now c.args.place.now.content c.theory.ensures.value c.in-Err.fault c.args.name c.args.typ.now c.requires.new c.in-Err.ensures.fault
