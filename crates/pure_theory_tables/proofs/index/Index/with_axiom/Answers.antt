use Rattle.std.proofs.Common.{◌∙◌}
use Rattle.pure_theory_tables.proofs.IndexLaws.{axiom_added}
use Rattle.pure_theory_tables.proofs.index.Index.with_axiom.Goals as goal

pub returns : goal.returns
returns c = axiom_added c.args.self.now _ c.in_ok-labels.ensures c.args.name c.in_ok-statement.statement.value c.args.prop.value (c.in_ok-statement.ensures.ok ∙ c.make.ensures) c.requires c.in_ok-typs.ensures c.in_ok-consts.ensures (rw c.name.view_is at c.in_ok-facts.ensures)
