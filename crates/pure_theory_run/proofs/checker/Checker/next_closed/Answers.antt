use Rattle.std.proofs.Common.{◌∙◌, ◌+◌, ℕ, length, ap, sym}
use Rattle.pure_theory_run.specs.Outline.{outlines}
use Rattle.pure_session.specs.Waiting.{seen_loaded}
use Rattle.pure_theory_run.proofs.PlaceLaws.{theory-behind, parents-before}
use Rattle.pure_theory_run.proofs.CheckerLaws.{left-outlines}
use Rattle.pure_theory_run.proofs.checker.Checker.next_closed.Goals as goal

pub theory-theory-requires : goal.theory-theory-requires
theory-theory-requires c = theory-behind c.args.self.now.theories c.args.place c.in_ok-index.index c.requires.place c.in_ok-index.ensures

pub run_theory-requires : goal.run_theory-requires
run_theory-requires c = record {
  theory = seen_loaded c.theory-theory.result.now;
  is_at = c.theory-theory.ensures;
  outlines = rw c.as_slice-2.ensures.value (left-outlines c.args.self.now.texts c.args.self.now.theories (outlines c.args.closed.now) c.args.duties.now.items c.theory-theory.result.now.parents.items (outlines c.in_ok-parents.parents.items) c.requires.before (rw c.as_slice.ensures.value at c.in_ok-parents.ensures));
}

pub all_left_by-requires : goal.all_left_by-requires
all_left_by-requires c = rw (c.as_slice.ensures.value)
    (parents-before c.args.self.now.texts c.args.self.now.theories c.is_loaded_session.ensures c.in_ok-index.index (length c.args.closed.now) (seen_loaded c.theory-theory.result.now) c.theory-theory.ensures
    (c.in_ok-index.ensures ∙ ap (λ (n : ℕ). n + 1) (sym c.requires.count)))
