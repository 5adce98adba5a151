use Rattle.pure_theory_tables.proofs.IndexLaws.{const_added}
use Rattle.pure_theory_tables.proofs.index.Index.with_const.Goals as goal

pub returns : goal.returns
returns c = const_added c.args.self.now _ c.in_ok-labels.ensures c.args.name c.args.typ.value c.requires c.in_ok-typs.ensures (rw c.name.view_is at c.in_ok-consts.ensures) c.in_ok-facts.ensures
