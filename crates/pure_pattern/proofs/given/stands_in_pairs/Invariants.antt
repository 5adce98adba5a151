use Rattle.std.proofs.Common.{◌≡◌, take, false}
use Rattle.std.specs.List.{list_any}
use Rattle.pure_definitions.specs.Terms.Term.{Var, term_eq}
use Rattle.pure_unify_definitions.specs.Fronts.{pair_variables}
use Rattle.pure_pattern.proofs.given.stands_in_pairs.Given as goal

-- It doesn't stand in the pairs so far.
abbrev pub invariant-loop-pair : goal.invariant-loop-pair
invariant-loop-pair l = list_any (term_eq (Var l.name l.index l.typ)) (pair_variables (take l.pair-index l.pairs)) ≡ false
