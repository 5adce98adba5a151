use Rattle.std.proofs.Common.{◌↔◌, ◌⊎◌, ℕ, take}
use Rattle.pure_text.specs.Lists.{AnyOf}
use Rattle.pure_order_tables.specs.Rows.{Holds}
use Rattle.pure_script.specs.Seen.{seen_step}
use Rattle.pure_script.specs.declared.theory.Step.{Step}
use Rattle.pure_table.specs.Method.Facts.{named_facts}
use Rattle.pure_citations.specs.Named.{MeansAxiom}
use Rattle.pure_citations.proofs.facts.put_script.Given as goal

abbrev pub invariant-loop-step : goal.invariant-loop-step
invariant-loop-step l = (n : ℕ) → Holds l.cited.items n ↔ (AnyOf (λ (s : Step). AnyOf (MeansAxiom l.names l.theory l.lemma n) (named_facts (seen_step s))) (take l.step-index l.script) ⊎ Holds l.fn.cited.items n)
