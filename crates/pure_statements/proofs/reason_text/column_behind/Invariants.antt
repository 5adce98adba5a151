use Rattle.std.proofs.Common.{◌≡◌, ◌+◌, ◌≤◌, ◌==◌, length, take, not}
use Rattle.std.specs.List.{suffix_len}
use Rattle.pure_lex.specs.Lines.{is_line_feed}
use Rattle.pure_statements.proofs.reason_text.column_behind.Given as goal

-- What stands behind the place so far are no line feeds.
abbrev pub invariant-loop-start : goal.invariant-loop-start
invariant-loop-start l = (l.start ≤ length l.bytes) × (l.start + suffix_len (λ b. not (is_line_feed b)) l.bytes ≡ length l.bytes + suffix_len (λ b. not (is_line_feed b)) (take l.start l.bytes))

abbrev pub decreases-loop-start : goal.decreases-loop-start
decreases-loop-start l = l.start
