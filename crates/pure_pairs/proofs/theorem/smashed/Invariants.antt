use Rattle.std.proofs.Common.{◌≡◌, ◌+◌, length}
use Rattle.pure_logic.specs.Derivable.{Theorem}
use Rattle.pure_pairs.specs.Smash.{Smashes}
use Rattle.pure_pairs.proofs.theorem.smashed.Given as goal

-- what comes of it now comes of it from the start, and as many pairs are left as turns
abbrev pub invariant-loop-turn : goal.invariant-loop-turn
invariant-loop-turn l = ((out : Theorem) → Smashes l.left out → Smashes l.fn.th out) × (length l.left.pairs + l.turn ≡ length l.fn.th.pairs)
