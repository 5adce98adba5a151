use Rattle.pure_declare.proofs.FaultLaws.{axiom-memory}
use Rattle.pure_declare.proofs.grown.with_axiom.Goals as goal

pub only_memory-requires : goal.only_memory-requires
only_memory-requires c = axiom-memory c.theory.result.now c.args.place.now.content c.theory.ensures.value c.in-Err.fault c.args.name c.args.prop.value c.requires.new c.in-Err.ensures.fault
