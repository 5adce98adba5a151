use Rattle.pure_order_tables.specs.Rows.{Holds}
use Rattle.pure_citations.proofs.ListedLaws.{listed-same}
use Rattle.pure_citations.proofs.listed.lines_for.Goals as goal

pub returns : goal.returns
returns c =
    listed-same c.args.names.now (Holds c.as_slice.result.now) _ (Holds c.as_slice-2.result.now) _ (λ n. rw c.as_slice.ensures.value (c.in_ok-cited.ensures n)) (λ n. rw c.as_slice-2.ensures.value (c.in_ok-faults.ensures n)) c.args.name.now c.args.rows.now
    c.in_ok-text.text.items (rw c.names.ensures at c.in_ok-text.ensures)
