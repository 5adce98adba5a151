use Rattle.pure_theory_run.proofs.BeginLaws.{barred-named}
use Rattle.pure_theory_run.proofs.checker.Checker.barred_row.Goals as goal

pub returns : goal.returns
returns c =
    barred-named c.args.self.now.theories c.args.theory.now.parents.items c.args.place c.parent_name-parent.result.now c.args.theory.now.name c.parent_refused.result c.parent_name-parent.ensures (rw c.bytes.ensures at c.parent_refused.ensures)
