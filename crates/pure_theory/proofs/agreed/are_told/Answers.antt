use Rattle.std.proofs.Common.{sym, ◌∙◌}
use Rattle.pure_text.proofs.AnswerLaws.{yes_as}
use Rattle.pure_theory.proofs.AgreedLaws.{told_same, told_other}
use Rattle.pure_theory.proofs.agreed.are_told.Goals as goal

pub returns-then-is_same_theory : goal.returns-then-is_same_theory
returns-then-is_same_theory c = yes_as _ (told_same c.args.first c.args.second (sym c.is_same_theory.ensures ∙ c.if-is_same_theory.true))

pub returns : goal.returns
returns c = told_other c.args.first c.args.second c.are_other.result (sym c.is_same_theory.ensures ∙ c.if-is_same_theory.false) c.are_other.ensures
