use Rattle.std.proofs.Common.{◌∙◌, sym}
use Rattle.pure_theory_run.proofs.NamedLaws.{named-behind, named-here}
use Rattle.pure_theory_run.proofs.named.lemma_named.Goals as goal

pub returns-then-has_name : goal.returns-then-has_name
returns-then-has_name c =
    named-here c.args.names.now c.args.name.now c.args.duties.now c.loop-duty.duty-index c.duty-item.result c.loop-duty-test.true c.duty-item.is
    (sym c.has_name.ensures ∙ c.if-has_name.true) c.loop-duty.invariant

pub loop-duty-preserved : goal.loop-duty-preserved
loop-duty-preserved c =
    named-behind c.args.names.now c.args.name.now c.args.duties.now c.loop-duty.duty-index c.duty-item.result c.loop-duty-test.true c.duty-item.is
    (sym c.has_name.ensures ∙ c.if-has_name.false) c.loop-duty.invariant
