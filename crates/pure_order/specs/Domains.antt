-- The greatest domains of a constructor for a class, and reduced sorts.
use Rattle.std.specs.Prelude.{◌≡◌, ◌↔◌, ℕ, List}
use Rattle.pure_text.specs.Lists.{IsIn}
use Rattle.pure_definitions.specs.Types.Order.{Arity, Algebra}
use Rattle.pure_order_tables.specs.Arities.{IsGreatest}
pub use Rattle.pure_order_tables.specs.Classes.{IsAboveAnother}

-- These are the domains of a declared arity of k for a class below d, and above those of all such arities.
abbrev pub AreGreatestDomains : Algebra → ℕ → ℕ → List (List ℕ) → Type 0
AreGreatestDomains A k d domains = (q : Arity) × (q.domains ≡ domains) × IsGreatest A k d q

-- The second sort has the classes of the first that aren't above another one of it. Sorts ascend strictly, so it is one list.
abbrev pub IsReduced : Algebra → List ℕ → List ℕ → Type 0
IsReduced A s r = (c : ℕ) → IsIn c r ↔ (IsIn c s × (¬ IsAboveAnother A s c))
