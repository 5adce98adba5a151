use Rattle.std.proofs.Common.{◌≡◌, ◌∙◌, sym, ap}
use Rattle.pure_text.proofs.AnswerLaws.{test_fails}
use Rattle.pure_theorem.proofs.AnswerLaws.{answer-along, answer-holds}
use Rattle.pure_theorem.specs.Answer.{IsJoined}
use Rattle.pure_logic.specs.Derivable.{Theorem, IsDerivable}
use Rattle.pure_logic.specs.Connectives.{eq}
use Rattle.pure_equal.specs.Propositions.{GivesEqualElim, RefusesEqualElim}
use Rattle.pure_equal.proofs.DerivedLaws.{equal_elim-derived}
use Rattle.pure_equal.proofs.propositions.equal_elim.Goals as goal

pub returns-then-not-are_same-clause-answer : goal.returns-then-not-are_same-clause-answer
returns-then-not-are_same-clause-answer g c =
    let is : c.args.eq.now.prop ≡ eq c.in-Some.field-0-0.now c.in-Some.left.now c.in-Some.right.now = sym (ap (λ (t : Theorem). t.prop) c.eq.view_is) ∙ c.in-Some.ensures in
    let differs = test_fails (c.in-Some.left.now ≡ c.th.inside.prop) c.are_same.result c.are_same.ensures c.if-not-are_same.true in
    (c.in-Some.field-0-0.now, c.in-Some.left.now, c.in-Some.right.now, is, λ e. differs (e ∙ sym (ap (λ (t : Theorem). t.prop) c.th.view_is)))

pub returns-clause-answer : goal.returns-clause-answer
returns-clause-answer g c =
    let is : c.args.eq.now.prop ≡ eq c.in-Some.field-0-0.now c.in-Some.left.now c.in-Some.right.now = sym (ap (λ (t : Theorem). t.prop) c.eq.view_is) ∙ c.in-Some.ensures in
    let same : c.in-Some.left.now ≡ c.args.th.now.prop = c.are_same.ensures.0 c.if-not-are_same.false ∙ ap (λ (t : Theorem). t.prop) c.th.view_is in
    let over : c.args.eq.now.prop ≡ eq c.in-Some.field-0-0.now c.args.th.now.prop c.in_ok-copy.field-0 = is ∙ (λ l. eq c.in-Some.field-0-0.now (same l) (sym c.in_ok-copy.ensures l)) in
    answer-along (IsJoined c.args.eq.now c.args.th.now c.in_ok-copy.field-0) (GivesEqualElim c.args.eq.now c.args.th.now) (RefusesEqualElim c.args.eq.now c.args.th.now)
    (λ th j. (c.in-Some.field-0-0.now, c.in_ok-copy.field-0, over, j)) c.from_two.result c.from_two.ensures

pub returns-clause-derivable : goal.returns-clause-derivable
returns-clause-derivable g c = λ q h k.
    answer-holds (GivesEqualElim c.args.eq.now c.args.th.now) (RefusesEqualElim c.args.eq.now c.args.th.now) (IsDerivable (g.B.Base.content c.args.thy.now))
    (equal_elim-derived (g.B.Base.content c.args.thy.now) q c.args.eq.now c.args.th.now h k) c.from_two.result (returns-clause-answer g c)
