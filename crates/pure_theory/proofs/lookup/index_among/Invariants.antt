use Rattle.std.proofs.Common.{◌≡◌, take}
use Rattle.pure_text.specs.Lists.{IsIn}
use Rattle.pure_logic.specs.Content.{TheoryId}
use Rattle.pure_theory.proofs.lookup.index_among.Given as goal

-- none of those so far has the name
abbrev pub invariant-loop-theory : goal.invariant-loop-theory
invariant-loop-theory l = (t : TheoryId) → IsIn t (take l.theory-index l.theories) → ¬ (t.name ≡ l.name)
