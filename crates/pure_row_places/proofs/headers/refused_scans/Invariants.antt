use Rattle.std.proofs.Common.{◌≡◌, ◌≤◌, take}
use Rattle.pure_text.specs.Lists.{EachTwo}
use Rattle.pure_row_places.specs.Headers.{IsLookedAtAs}
use Rattle.pure_row_places.proofs.headers.refused_scans.Given as goal

abbrev pub invariant-loop-file : goal.invariant-loop-file
invariant-loop-file g l = record {
  so_far : EachTwo (IsLookedAtAs (g.L.Library.files l.initial.library)) (take l.file-index l.refused) l.found.items;
  same : g.L.Library.files l.library ≡ g.L.Library.files l.initial.library;
  later : g.L.Library.faults l.initial.library ≤ g.L.Library.faults l.library;
}
