use Rattle.std.proofs.Common.{sym, ◌∙◌}
use Rattle.std.proofs.lemmas.Option.{none-some}
use Rattle.pure_text.proofs.AnswerLaws.{no_as}
use Rattle.pure_theory_tables.proofs.SameLaws.{told_at}
use Rattle.pure_theory_tables.proofs.declarations.Declarations.is_at.Goals as goal

pub returns-in-None : goal.returns-in-None
returns-in-None c = no_as _ (λ e. none-some _ (sym c.in-None.ensures ∙ e))

pub returns-in-Some : goal.returns-in-Some
returns-in-Some c = told_at _ _ _ c.is_same_entry.result c.in-Some.ensures c.is_same_entry.ensures
