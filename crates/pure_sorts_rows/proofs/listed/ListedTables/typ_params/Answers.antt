use Rattle.std.proofs.Common.{ap, get_or}
use Rattle.pure_sorts_rows.proofs.ListLemmas.{params-none, params-some}
use Rattle.pure_sorts_rows.proofs.listed.ListedTables.typ_params.Goals as goal

pub returns-then-cons-place : goal.returns-then-cons-place
returns-then-cons-place c = params-none c.args.self.now.order c.args.self.now.cons.items c.as_slice-cons.result.now c.args.self.now.consts.items c.args.name c.as_slice-cons.ensures.value (rw c.name.view_is at c.if-cons-place.true)

pub returns : goal.returns
returns c = params-some c.args.self.now.order c.args.self.now.cons.items c.as_slice-cons.result.now c.args.self.now.consts.items c.args.name _ c.as_slice-cons.ensures.value (rw c.name.view_is at c.if-cons-place.false)
    (ap (λ k. get_or c.as_slice-cons.result.now k 0) c.name.view_is)
