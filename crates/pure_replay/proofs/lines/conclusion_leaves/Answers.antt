use Rattle.std.proofs.Common.{List, subst, ◌+◌, ◌≡◌, ◌<◌}
use Rattle.std.specs.Prelude.{MatchOption}
use Rattle.pure_definitions.specs.Terms.Term.{Term, term_size}
use Rattle.pure_replay.specs.Conclusion.{Conclusion}
use Rattle.pure_replay.specs.Lines.{terms_size, conclusion_size}
use Rattle.pure_replay.proofs.RoomLaws.{leaves-both, leaves-over}
use Rattle.pure_replay.proofs.lines.conclusion_leaves.Goals as goal

pub returns-in_default : goal.returns-in_default
returns-in_default c =
    subst (λ (d : Conclusion). c.args.left < conclusion_size d) c.conclusion.view_is (leaves-over c.args.left (term_size c.conclusion.inside.prop) (terms_size c.conclusion.inside.hyps.items) c.in_default.ensures)

pub returns : goal.returns
returns c =
    subst (λ (d : Conclusion). MatchOption c.terms_leave.result (c.args.left < conclusion_size d) (λ x. x + conclusion_size d ≡ c.args.left)) c.conclusion.view_is
    (leaves-both c.terms_leave.result c.args.left c.in-Some.rest (term_size c.conclusion.inside.prop) (terms_size c.conclusion.inside.hyps.items) c.in-Some.ensures
    (subst (λ (hyps : List Term). MatchOption c.terms_leave.result (c.in-Some.rest < terms_size hyps) (λ x. x + terms_size hyps ≡ c.in-Some.rest)) c.deref.ensures.value c.terms_leave.ensures))
