use Rattle.std.proofs.Common.{take}
use Rattle.pure_text.specs.Lists.{EachTwo}
use Rattle.pure_row_places.specs.Scans.{IsScannedAs}
use Rattle.pure_row_places.proofs.scan.scans.Given as goal

abbrev pub invariant-loop-theory : goal.invariant-loop-theory
invariant-loop-theory l = EachTwo IsScannedAs (take l.theory-index l.theories) l.found.items
