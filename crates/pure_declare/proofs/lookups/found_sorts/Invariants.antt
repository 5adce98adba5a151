use Rattle.std.proofs.Common.{take}
use Rattle.pure_declare.specs.Commands.{vocabulary}
use Rattle.pure_declare.proofs.LookupSteps.{AreSorts}
use Rattle.pure_declare.proofs.lookups.found_sorts.Given as goal

-- the sorts so far
abbrev pub invariant-loop-classes : goal.invariant-loop-classes
invariant-loop-classes l = AreSorts (vocabulary l.place) (take l.classes-index l.written) l.found.items
