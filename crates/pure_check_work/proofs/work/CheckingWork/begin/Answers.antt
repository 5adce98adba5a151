use Rattle.std.proofs.Common.{subst, sym}
use Rattle.pure_table.specs.TheoryRun.Checked.{Checked}
use Rattle.pure_table.specs.TheoryRun.Outline.{outlines}
use Rattle.pure_table.specs.TheoryRun.Parents.{HasParents}
use Rattle.pure_check_work.proofs.RunLaws.{has-parents}
use Rattle.pure_check_work.proofs.work.CheckingWork.begin.Goals as goal

pub begin-requires : goal.begin-requires
begin-requires c = subst (λ (d : Checked). HasParents d.texts d.theories c.args.theory (outlines c.args.parents.now)) (sym c.checker.ensures) (has-parents c.args.self.now.texts c.args.self.now.theories (λ p. p.value) c.args.theory c.args.parents.now c.requires)
