use Rattle.std.proofs.Common.{◌≢◌, ℕ, ◌<◌, ◌++◌}
use Rattle.std.specs.Prelude.{slice_get, Some}
use Rattle.pure_typ.specs.NameTexts.{builtin_texts}
use Rattle.pure_typ.proofs.names.find_builtin.Given as goal

-- no name so far has the text
abbrev pub invariant-loop-number : goal.invariant-loop-number
invariant-loop-number l = (n : ℕ) → n < l.number → slice_get builtin_texts n ≢ Some (l.a ++ (l.b ++ l.c))
