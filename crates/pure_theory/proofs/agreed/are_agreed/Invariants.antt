use Rattle.std.proofs.Common.{take}
use Rattle.pure_theory.specs.Begin.{contents}
use Rattle.pure_theory.proofs.AgreedLaws.{HasAgreed}
use Rattle.pure_theory.proofs.agreed.are_agreed.Given as goal

-- the parents so far agree, and are merged
abbrev pub invariant-loop-place : goal.invariant-loop-place
invariant-loop-place l = HasAgreed (take l.place (contents l.parents)) l.merged
