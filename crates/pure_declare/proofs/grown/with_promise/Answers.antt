use Rattle.std.proofs.Common.{sym, subst}
use Rattle.pure_definitions.specs.Names.{Label}
use Rattle.pure_logic.specs.Content.{Content}
use Rattle.pure_theory.specs.Refusals.{IsLabelAbove}
use Rattle.pure_declare.proofs.FaultLaws.{promise-memory}
use Rattle.pure_declare.proofs.grown.with_promise.Goals as goal

pub declare_promise-requires-clause-label : goal.declare_promise-requires-clause-label
declare_promise-requires-clause-label c =
    subst (λ (Q : Content). IsLabelAbove Q.declarations c.label-label.result) (sym c.theory.ensures.value)
    (subst (λ (l : Label). IsLabelAbove c.args.place.now.content.declarations l) (sym c.label-label.ensures.value) c.label-label.ensures.above)

pub only_memory-requires : goal.only_memory-requires
only_memory-requires c = promise-memory c.theory.result.now c.args.place.now.content c.theory.ensures.value c.in-Err.fault c.args.name c.label-label.result c.args.prop.value c.requires.new c.in-Err.ensures.fault
