use Rattle.pure_theory_tables.proofs.IndexLaws.{typ_added}
use Rattle.pure_theory_tables.proofs.index.Index.with_typ.Goals as goal

pub returns : goal.returns
returns c = typ_added c.args.self.now _ c.in_ok-labels.ensures c.args.name c.args.params c.requires (rw (c.name.view_is, c.in_ok-params.ensures.ok) at c.in_ok-typs.ensures) c.in_ok-consts.ensures c.in_ok-facts.ensures
