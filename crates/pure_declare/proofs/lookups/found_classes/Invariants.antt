use Rattle.std.proofs.Common.{take}
use Rattle.pure_declare.specs.Commands.{vocabulary}
use Rattle.pure_declare.specs.Lookups.{AreWritten}
use Rattle.pure_declare.proofs.lookups.found_classes.Given as goal

-- the classes of the names so far
abbrev pub invariant-loop-text : goal.invariant-loop-text
invariant-loop-text l = AreWritten (vocabulary l.place) (take l.text-index l.written) l.classes.items
