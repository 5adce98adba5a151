use Rattle.std.proofs.Common.{◌≡◌, take, map}
use Rattle.pure_tunify.specs.GraphCode.{root_at}
use Rattle.pure_tunify.proofs.agreement.have_same_roots.Given as goal

abbrev pub invariant-loop-i : goal.invariant-loop-i
invariant-loop-i l = map (root_at l.roots) (take l.i l.lefts) ≡ map (root_at l.roots) (take l.i l.rights)
