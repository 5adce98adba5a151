use Rattle.std.proofs.Common.{◌≡◌, ◌⊎◌, ◌<◌, ℕ, true}
use Rattle.pure_session.specs.Places.{cells, is_marked}
use Rattle.pure_session.proofs.judge.leads_to_cycle.Given as goal

abbrev pub invariant-loop-k : goal.invariant-loop-k
invariant-loop-k l = (k : ℕ) → k < l.k → is_marked (cells l.rows) k k ≡ true → (k ≡ l.place) ⊎ (is_marked (cells l.rows) l.place k ≡ true) → ⊥
