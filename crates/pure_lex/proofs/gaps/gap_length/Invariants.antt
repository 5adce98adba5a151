use Rattle.std.proofs.Common.{◌-◌, ◌≤◌, length, take}
use Rattle.pure_grammar.specs.Tokens.Comment.{Gap}
use Rattle.pure_lex.proofs.gaps.gap_length.Given as goal

abbrev pub invariant-loop-at : goal.invariant-loop-at
invariant-loop-at l = Gap (take l.at l.text) × (l.at ≤ length l.text)

abbrev pub decreases-loop-at : goal.decreases-loop-at
decreases-loop-at l = length l.text - l.at
