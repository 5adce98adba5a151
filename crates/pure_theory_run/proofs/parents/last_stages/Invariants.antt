use Rattle.std.proofs.Common.{◌≡◌, take}
use Rattle.pure_session_meaning.specs.Theory.Begin.{contents}
use Rattle.pure_theory_run.specs.Outline.{outlines, lasts}
use Rattle.pure_theory_run.proofs.parents.last_stages.Given as goal

-- the last stages of those so far
abbrev pub invariant-loop-parent : goal.invariant-loop-parent
invariant-loop-parent l = contents l.stages.items ≡ lasts (take l.parent-index (outlines l.parents))
