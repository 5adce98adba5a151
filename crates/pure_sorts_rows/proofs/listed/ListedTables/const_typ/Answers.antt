use Rattle.pure_sorts_rows.proofs.ListLemmas.{const-none, const-some}
use Rattle.pure_sorts_rows.proofs.listed.ListedTables.const_typ.Goals as goal

pub returns-then-consts-place : goal.returns-then-consts-place
returns-then-consts-place c = const-none c.args.self.now.order c.args.self.now.cons.items c.args.self.now.consts.items c.as_slice-consts.result.now c.args.name c.as_slice-consts.ensures.value (rw c.name.view_is at c.if-consts-place.true)

pub returns : goal.returns
returns c = const-some c.args.self.now.order c.args.self.now.cons.items c.args.self.now.consts.items c.as_slice-consts.result.now c.args.name c.index-consts-place.result c.as_slice-consts.ensures.value (rw c.name.view_is at c.if-consts-place.false) (rw c.name.view_is at c.index-consts-place.is)
