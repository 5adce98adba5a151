use Rattle.std.proofs.Common.{◌≡◌, length}
use Rattle.pure_theory_run.specs.Outline.{outlines}
use Rattle.pure_theory_run.specs.Sessions.{HaveClosed}
use Rattle.pure_theory_run.proofs.checker.Checker.statements.Given as goal

-- the theories so far have closed
abbrev pub invariant-loop-place : goal.invariant-loop-place
invariant-loop-place l = record {
  closed : HaveClosed l.self.texts l.self.theories (outlines l.closed.items) l.duties.items;
  count : length l.closed.items ≡ l.place;
}
