use Rattle.std.proofs.Common.{◌≡◌, ◌≤◌, take}
use Rattle.std.specs.Prelude.{count_by}
use Rattle.pure_lex.specs.Lines.{is_line_feed}
use Rattle.pure_statements.proofs.reason_text.line_behind.Given as goal

-- the line feeds so far
abbrev pub invariant-loop-byte : goal.invariant-loop-byte
invariant-loop-byte l = (l.feeds ≡ count_by is_line_feed (take l.byte-index l.bytes)) × (l.feeds ≤ l.byte-index)
