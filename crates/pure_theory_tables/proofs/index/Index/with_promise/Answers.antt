use Rattle.std.proofs.Common.{◌∙◌}
use Rattle.pure_theory_tables.proofs.IndexLaws.{promise_added}
use Rattle.pure_theory_tables.proofs.index.Index.with_promise.Goals as goal

pub returns : goal.returns
returns c = promise_added c.args.self.now _ c.in_ok-labels.ensures.kept c.args.name c.in_ok-statement.statement.value c.args.label c.args.prop.value (c.in_ok-statement.ensures.ok ∙ c.make.ensures) c.in_ok-labels.ensures.new c.requires c.in_ok-typs.ensures c.in_ok-consts.ensures (rw c.name.view_is at c.in_ok-facts.ensures)
