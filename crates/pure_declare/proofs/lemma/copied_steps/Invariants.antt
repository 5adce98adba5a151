use Rattle.std.proofs.Common.{◌≡◌, take}
use Rattle.pure_script.specs.Seen.{seen_steps}
use Rattle.pure_declare.proofs.lemma.copied_steps.Given as goal

-- the steps so far
abbrev pub invariant-loop-step : goal.invariant-loop-step
invariant-loop-step l = seen_steps l.copies.items ≡ seen_steps (take l.step-index l.steps)
