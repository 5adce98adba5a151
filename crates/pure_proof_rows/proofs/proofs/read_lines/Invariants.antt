use Rattle.pure_text.specs.Lists.{Each}
use Rattle.pure_theory_run.specs.Method.Outcome.{IsProvable}
use Rattle.pure_proof_rows.proofs.proofs.read_lines.Given as goal

abbrev pub invariant-loop-line : goal.invariant-loop-line
invariant-loop-line g l = Each (IsProvable l.names) l.rest
