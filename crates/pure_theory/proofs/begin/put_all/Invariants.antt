use Rattle.std.proofs.Common.{◌≡◌, take}
use Rattle.pure_theory.specs.Once.{all_once_more}
use Rattle.pure_theory.proofs.begin.put_all.Given as goal

-- those so far are put in
abbrev pub invariant-loop-other : goal.invariant-loop-other
invariant-loop-other l = l.theories.items ≡ all_once_more l.fn.theories.items (take l.other-index l.others)
