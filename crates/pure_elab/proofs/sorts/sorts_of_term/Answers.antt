use Rattle.std.proofs.Common.{◌≡◌, arith}
use Rattle.pure_elab.specs.Table.{sort_among}
use Rattle.pure_elab.specs.Written.{term_classes}
use Rattle.pure_elab.proofs.CallLaws.{sorts_at}
use Rattle.pure_elab.proofs.sorts.sorts_of_term.Goals as goal

pub returns : goal.returns
returns g c =
    let V = g.L.Language.vocabulary c.args.language.now in
    let same : c.as_slice.result.now ≡ term_classes V c.args.raw.now = grind arith in
    sorts_at c.order.result.now V.algebra c.as_slice.result.now (term_classes V c.args.raw.now) (sort_among c.in_ok-table.table.items) c.order.ensures same c.in_ok-table.ensures
