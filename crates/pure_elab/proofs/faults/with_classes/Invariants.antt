use Rattle.std.proofs.Common.{◌≡◌, take}
use Rattle.pure_elab.specs.Faults.{earliest, class_faults}
use Rattle.pure_elab.proofs.faults.with_classes.Given as goal

-- the one that decides so far
abbrev pub invariant-loop-class : goal.invariant-loop-class
invariant-loop-class g l = l.found ≡ earliest l.fn.best (class_faults (g.L.Language.vocabulary l.language) (take l.class-index l.classes))
