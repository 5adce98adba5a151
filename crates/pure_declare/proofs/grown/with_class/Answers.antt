use Rattle.pure_declare.proofs.FaultLaws.{class-memory}
use Rattle.pure_declare.proofs.grown.with_class.Goals as goal

pub only_memory-requires : goal.only_memory-requires
only_memory-requires c = class-memory c.theory.result.now c.args.place.now.content c.theory.ensures.value c.in-Err.fault (record { name = c.args.name; above = c.args.above.now }) c.requires.new c.requires.known c.in-Err.ensures.fault
