-- Tokens of a part of a source.
use Rattle.std.proofs.Common.{ℕ, ◌≤◌, List, [], ◌∷◌, length, arith}
use Rattle.pure_grammar.specs.declared.token.Token.{Token}
use Rattle.pure_grammar.specs.Tokens.Spelling.{AreSlices}
use Rattle.pure_read.specs.Laws.{PartsAreSlices}

wider : (source : List ℕ) (from to : ℕ) (tokens : List Token) → to ≤ length source → AreSlices source from to tokens → AreSlices source from (length source) tokens
wider source from to [] within are = omega (arith, within, are)
wider source from to (t ∷ ts) within are = (are.0, are.1, wider source t.to to ts within are.2)

from-start : (source : List ℕ) (from to : ℕ) (tokens : List Token) → AreSlices source from to tokens → AreSlices source 0 to tokens
from-start source from to [] are = omega arith
from-start source from to (t ∷ ts) are = (omega arith, are.1, are.2)

pub parts_are_slices : PartsAreSlices
parts_are_slices source from to tokens within are = from-start source from (length source) tokens (wider source from to tokens within are)
