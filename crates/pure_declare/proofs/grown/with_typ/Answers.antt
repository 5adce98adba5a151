use Rattle.pure_declare.proofs.FaultLaws.{typ-memory}
use Rattle.pure_declare.proofs.grown.with_typ.Goals as goal

pub only_memory-requires : goal.only_memory-requires
only_memory-requires c = typ-memory c.theory.result.now c.args.place.now.content c.theory.ensures.value c.in-Err.fault c.args.name c.args.params c.requires c.in-Err.ensures.fault
