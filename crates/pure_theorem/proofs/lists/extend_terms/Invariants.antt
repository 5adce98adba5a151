use Rattle.std.proofs.Common.{◌≡◌, ◌++◌, take}
use Rattle.pure_theorem.proofs.lists.extend_terms.Given as goal

-- what was put behind so far
abbrev pub invariant-loop-term : goal.invariant-loop-term
invariant-loop-term l = l.list.items ≡ l.initial.list.items ++ take l.term-index l.terms
