use Rattle.std.proofs.Common.{◌≡◌, take}
use Rattle.pure_logic.specs.Tree.{without}
use Rattle.pure_theorem.proofs.sets.without.Given as goal

abbrev pub invariant-loop-hyp : goal.invariant-loop-hyp
invariant-loop-hyp l = l.kept.items ≡ without l.a (take l.hyp-index l.hyps)
