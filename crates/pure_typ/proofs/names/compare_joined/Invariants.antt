use Rattle.std.proofs.Common.{◌≡◌, ◌++◌, drop}
use Rattle.std.specs.Ordering.{nat_cmp}
use Rattle.std.specs.Cmp.Lexicographic.{slice_cmp}
use Rattle.pure_typ.proofs.names.compare_joined.Given as goal

-- the bytes so far are equal, so those that are left decide
abbrev pub invariant-loop-at : goal.invariant-loop-at
invariant-loop-at l = slice_cmp nat_cmp l.text (l.a ++ (l.b ++ l.c)) ≡ slice_cmp nat_cmp (drop l.at l.text) (drop l.at (l.a ++ (l.b ++ l.c)))
