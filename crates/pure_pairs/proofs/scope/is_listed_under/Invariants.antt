use Rattle.std.proofs.Common.{◌≡◌, false, take}
use Rattle.pure_text.specs.Lists.{Each}
use Rattle.pure_term.specs.Scope.{scope_typs}
use Rattle.pure_pairs.specs.Modulo.{closed_over}
use Rattle.pure_pairs.specs.Difference.{is_either_way}
use Rattle.pure_pairs.proofs.scope.is_listed_under.Given as goal

-- none of the pairs so far
abbrev pub invariant-loop-pair : goal.invariant-loop-pair
invariant-loop-pair l = Each (λ p. is_either_way p (closed_over (scope_typs l.scope) l.t) (closed_over (scope_typs l.scope) l.u) ≡ false) (take l.pair-index l.pairs)
