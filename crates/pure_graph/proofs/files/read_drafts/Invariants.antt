use Rattle.std.proofs.Common.{◌≡◌, ◌≤◌, take, length}
use Rattle.pure_graph.specs.Drafts.{AreDraftsFrom}
use Rattle.pure_graph.proofs.files.read_drafts.Given as goal

abbrev pub invariant-loop-theory : goal.invariant-loop-theory
invariant-loop-theory g l = record {
  so_far : AreDraftsFrom (g.L.Library.files l.initial.library) l.fn.place (take l.theory-index l.theories) l.drafts.items;
  many : length l.drafts.items ≡ l.theory-index;
  same : g.L.Library.files l.library ≡ g.L.Library.files l.initial.library;
  later : g.L.Library.faults l.initial.library ≤ g.L.Library.faults l.library;
}
