use Rattle.std.proofs.Common.{take}
use Rattle.pure_text.specs.Lists.{Each}
use Rattle.pure_pattern_laws.specs.Patterns.{HasSchematicTyp}
use Rattle.pure_pattern_terms.proofs.refused.first_with_schematic_typ.Given as goal

-- no schematic type variable occurs in the pairs so far
abbrev pub invariant-loop-place : goal.invariant-loop-place
invariant-loop-place l = Each (λ p. ¬ HasSchematicTyp p) (take l.place l.pairs)
