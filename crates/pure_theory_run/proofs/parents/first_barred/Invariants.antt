use Rattle.std.proofs.Common.{◌≡◌, false, take}
use Rattle.pure_text.specs.Lists.{Each}
use Rattle.pure_theory_run.specs.Outline.{outlines, is_barred}
use Rattle.pure_theory_run.proofs.parents.first_barred.Given as goal

-- none so far was refused
abbrev pub invariant-loop-place : goal.invariant-loop-place
invariant-loop-place l = Each (λ o. is_barred o ≡ false) (take l.place (outlines l.parents))
