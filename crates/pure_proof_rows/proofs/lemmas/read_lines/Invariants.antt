use Rattle.std.specs.Prelude.{IfSome}
use Rattle.pure_resolve.specs.Uses.{MayStep}
use Rattle.pure_proof_rows.proofs.lemmas.read_lines.Given as goal

abbrev pub invariant-loop-line : goal.invariant-loop-line
invariant-loop-line g l = IfSome l.goal (λ new. MayStep l.theory new.thm)
