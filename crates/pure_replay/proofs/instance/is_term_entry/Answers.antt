use Rattle.std.proofs.Common.{ap}
use Rattle.pure_text.proofs.AnswerLaws.{no_as}
use Rattle.pure_definitions.specs.Terms.Subst.{TermBind}
use Rattle.pure_replay.specs.Step.{plain_content}
use Rattle.pure_replay.specs.Figures.{IsTermEntry}
use Rattle.pure_replay.proofs.NodeLaws.{no_term_entry-typ}
use Rattle.pure_replay.proofs.instance.is_term_entry.Goals as goal

pub returns-in-Some : goal.returns-in-Some
returns-in-Some c =
    no_as (IsTermEntry (plain_content c.args.declared.now) c.args.bind.now)
    (no_term_entry-typ c.args.declared.now c.args.bind.now c.bind.inside.typ c.in-Some.field-0 (ap (λ (b : TermBind). b.typ) c.bind.view_is) c.in-Some.ensures)
