use Rattle.std.proofs.Common.{ap, sym, subst}
use Rattle.pure_definitions.specs.Terms.Term.{IsWithin}
use Rattle.pure_text.proofs.AnswerLaws.{test_fails}
use Rattle.pure_replay.specs.Conclusion.{Conclusion}
use Rattle.pure_replay.proofs.RoomLaws.{room-answer}
use Rattle.pure_replay.proofs.lines.fitting.Goals as goal

pub returns-then-not-is_within : goal.returns-then-not-is_within
returns-then-not-is_within c = λ room.
    test_fails (IsWithin c.conclusion.inside.prop) c.is_within.result c.is_within.ensures c.if-not-is_within.true (subst IsWithin (sym (ap (λ (d : Conclusion). d.prop) c.conclusion.view_is)) room.within)

pub returns : goal.returns
returns c =
    room-answer c.conclusion_leaves.result c.args.left c.args.conclusion.now (subst IsWithin (ap (λ (d : Conclusion). d.prop) c.conclusion.view_is) (c.is_within.ensures.0 c.if-not-is_within.false)) c.conclusion_leaves.ensures
