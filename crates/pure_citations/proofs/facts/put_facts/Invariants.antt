use Rattle.std.proofs.Common.{◌↔◌, ◌⊎◌, ℕ, take}
use Rattle.pure_text.specs.Lists.{AnyOf}
use Rattle.pure_order_tables.specs.Rows.{Holds}
use Rattle.pure_citations.specs.Named.{MeansAxiom}
use Rattle.pure_citations.proofs.facts.put_facts.Given as goal

abbrev pub invariant-loop-place : goal.invariant-loop-place
invariant-loop-place l = (n : ℕ) → Holds l.cited.items n ↔ (AnyOf (MeansAxiom l.names l.theory l.lemma n) (take l.place l.written) ⊎ Holds l.fn.cited.items n)
