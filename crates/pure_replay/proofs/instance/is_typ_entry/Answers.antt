use Rattle.std.proofs.Common.{◌∙◌, ap}
use Rattle.pure_text.proofs.AnswerLaws.{no_as}
use Rattle.pure_definitions.specs.Terms.Subst.{TypBind, typ_variable}
use Rattle.pure_replay.specs.Step.{plain_content}
use Rattle.pure_replay.specs.Figures.{IsTypEntry}
use Rattle.pure_replay.proofs.NodeLaws.{no_typ_entry-variable, no_typ_entry-image}
use Rattle.pure_replay.proofs.instance.is_typ_entry.Goals as goal

pub returns-in-Some : goal.returns-in-Some
returns-in-Some c =
    no_as (IsTypEntry (plain_content c.args.declared.now) c.args.bind.now)
    (no_typ_entry-variable c.args.declared.now c.args.bind.now c.in_ok-own.own c.in-Some.field-0 (c.in_ok-own.ensures ∙ ap typ_variable c.bind.view_is) c.in-Some.ensures)

pub returns-in-Some-fault_of_typ : goal.returns-in-Some-fault_of_typ
returns-in-Some-fault_of_typ c =
    no_as (IsTypEntry (plain_content c.args.declared.now) c.args.bind.now)
    (no_typ_entry-image c.args.declared.now c.args.bind.now c.bind.inside.image c.in-Some-fault_of_typ.field-0 (ap (λ (b : TypBind). b.image) c.bind.view_is) c.in-Some-fault_of_typ.ensures)
