use Rattle.std.proofs.Common.{◌≡◌, ◌++◌, take}
use Rattle.pure_elab.specs.Written.{found_classes}
use Rattle.pure_elab.proofs.classes.add_found.Given as goal

-- those that were found so far were added
abbrev pub invariant-loop-raw : goal.invariant-loop-raw
invariant-loop-raw g l = l.written.items ≡ l.initial.written.items ++ found_classes (g.L.Language.vocabulary l.language) l.variable (take l.raw-index l.classes)
