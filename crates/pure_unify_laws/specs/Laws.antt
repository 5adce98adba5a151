-- Laws of the search for a unifier.
use Rattle.std.specs.Prelude.{◌≡◌, ℕ, List}
use Rattle.pure_definitions.specs.Types.Order.{Algebra}
use Rattle.pure_logic.specs.Derivable.{Pair}
use Rattle.pure_order_tables.specs.Classes.{IsAntisymmetric}
use Rattle.pure_unify_definitions.specs.Search.{Answer, IsUnifyAnswer}

-- Over an order in which no two classes are below each other, the search has one answer at most.
abbrev pub SearchHasOneAnswer : Type 0
SearchHasOneAnswer = (A : Algebra) → IsAntisymmetric A → (maxidx : ℕ) (pairs : List Pair) (one other : Answer) → IsUnifyAnswer A maxidx pairs one → IsUnifyAnswer A maxidx pairs other → one ≡ other
