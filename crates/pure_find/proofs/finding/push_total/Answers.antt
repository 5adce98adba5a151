use Rattle.pure_text.proofs.Joins.{joined_5}
use Rattle.pure_find.specs.Lines.{total_text, matches_text, maybes_text, none_text}
use Rattle.pure_find.proofs.finding.push_total.Goals as goal

pub returns : goal.returns
unfolding total_text matches_text maybes_text none_text
returns c =
    rw (← c.matches.ensures, ← c.maybes.ensures, ← c.no_matches.ensures)
    (joined_5 _ _ _ _ _ _ _ _ _ _ _ c.in_ok-extend_from_slice.ensures.items c.in_ok-push_count.ensures c.in_ok-push_count-2.ensures c.in_ok-push_count-3.ensures c.in_ok-push.ensures.items)
