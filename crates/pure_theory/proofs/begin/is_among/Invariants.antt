use Rattle.std.proofs.Common.{◌≡◌, take, false}
use Rattle.std.specs.List.{list_any}
use Rattle.pure_logic.specs.Beginning.{theory_eq}
use Rattle.pure_theory.proofs.begin.is_among.Given as goal

-- it isn't among those so far
abbrev pub invariant-loop-other : goal.invariant-loop-other
invariant-loop-other l = list_any (theory_eq l.theory) (take l.other-index l.theories) ≡ false
