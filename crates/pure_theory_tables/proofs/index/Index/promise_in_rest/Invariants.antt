use Rattle.std.proofs.Common.{◌≡◌, ℕ, take}
use Rattle.std.specs.Prelude.{Some}
use Rattle.std.specs.FinMap.{get}
use Rattle.pure_text.specs.Lists.{IsIn}
use Rattle.pure_definitions.specs.Terms.Term.{Term}
use Rattle.pure_theory_tables.proofs.index.Index.promise_in_rest.Given as goal

-- none of the names so far is that of the promise
abbrev pub invariant-loop-name : goal.invariant-loop-name
invariant-loop-name l = (x : ℕ) (A : Term) → IsIn x (take l.name-index l.name-items) → ¬ (get l.self.facts x ≡ Some (record { label = Some l.label; prop = A }))
