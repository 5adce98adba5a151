-- Theorems without the pairs whose sides are equal.
use Rattle.std.specs.Prelude.{List, [], ◌∷◌, if◌then◌else◌, Result, Ok, Err}
use Rattle.pure_definitions.specs.Terms.Term.{term_eq}
use Rattle.pure_logic.specs.Derivable.{Pair, Theorem}
use Rattle.pure_typ.specs.declared.grow.Grow.{Grow}
use Rattle.pure_typ.specs.declared.grow.Grow.TheVariants.{Big, Memory}
use Rattle.pure_theorem.specs.Within.{AreWithin}

-- the pairs whose sides differ
abbrev pub without_trivial : List Pair → List Pair
without_trivial [] = []
without_trivial (p ∷ ps) = if term_eq p.left p.right then without_trivial ps else (p ∷ without_trivial ps)

-- the theorem with those pairs alone
abbrev pub dropped : Theorem → Theorem
dropped th = record th { pairs = without_trivial th.pairs }

-- The answer of a call that makes theorems of which `Gives` tells: one within the limits; or `Big` where one isn't; or `Memory`.
abbrev pub IsTheoremGrown : (Gives : Theorem → Type 0) → Result Theorem Grow → Type 0
IsTheoremGrown Gives (Ok th) = Gives th × AreWithin th
IsTheoremGrown Gives (Err Big) = (th : Theorem) × Gives th × ¬ AreWithin th
IsTheoremGrown Gives (Err Memory) = Unit {0}
