use Rattle.pure_text.proofs.AnswerLaws.{test_fails}
use Rattle.pure_logic.specs.Content.{IsCertifiedOf}
use Rattle.pure_replay.specs.Step.{plain_content}
use Rattle.pure_replay.proofs.NodeLaws.{no_ext-typ, no_ext-other}
use Rattle.pure_replay.proofs.equality.extended.Goals as goal

pub returns-in_default : goal.returns-in_default
returns-in_default c = no_ext-typ (plain_content c.args.declared.now) c.args.f.now c.args.g.now c.args.typ.now c.requires c.in_default.ensures

pub returns-then-not-branch : goal.returns-then-not-branch
returns-then-not-branch c =
    no_ext-other (plain_content c.args.declared.now) c.args.f.now c.args.g.now c.args.typ.now c.requires
    (test_fails (IsCertifiedOf (plain_content c.args.declared.now) c.args.g.now c.args.typ.now) c.in_ok-is_certified_of.field-0 c.in_ok-is_certified_of.ensures c.if-not-branch.true)
