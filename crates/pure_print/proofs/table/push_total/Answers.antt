use Rattle.pure_print.specs.RowText.{total_text, theories_text}
use Rattle.pure_text.proofs.Joins.{joined_5}
use Rattle.pure_print.proofs.table.push_total.Goals as goal

pub returns : goal.returns
unfolding total_text theories_text
returns c =
    joined_5 _ _ _ _ _ _ _ _ _ _ _ c.in_ok-extend_from_slice.ensures.items c.in_ok-push_number.ensures c.in_ok-extend_from_slice-2.ensures.items c.in_ok-push_counts.ensures
    c.in_ok-push.ensures.items
