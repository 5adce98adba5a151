use Rattle.std.proofs.Common.{◌≡◌, ◌∙◌, sym, ap, subst}
use Rattle.pure_text.proofs.AnswerLaws.{test_fails}
use Rattle.pure_theorem.proofs.AnswerLaws.{answer-along, answer-holds}
use Rattle.pure_theorem.specs.Answer.{IsJoined}
use Rattle.pure_logic.specs.Derivable.{Theorem, IsDerivable}
use Rattle.pure_logic.specs.Connectives.{imp, eq}
use Rattle.pure_definitions.specs.Types.Typ.{prop}
use Rattle.pure_equal.specs.Propositions.{GivesEqualIntr, RefusesEqualIntr}
use Rattle.pure_equal.proofs.DerivedLaws.{equal_intr-derived}
use Rattle.pure_equal.proofs.propositions.equal_intr.Goals as goal

pub returns-then-not-are_same-clause-answer : goal.returns-then-not-are_same-clause-answer
returns-then-not-are_same-clause-answer g c =
    let forth_is : c.args.ab.now.prop ≡ imp c.in-Some.left.now c.in-Some.right.now = sym (ap (λ (t : Theorem). t.prop) c.ab.view_is) ∙ c.in-Some.ensures in
    let back_is : c.args.ba.now.prop ≡ imp c.in-Some-as_implication.premise.now c.in-Some-as_implication.conclusion.now = sym (ap (λ (t : Theorem). t.prop) c.ba.view_is) ∙ c.in-Some-as_implication.ensures in
    let differs = test_fails (c.in-Some.right.now ≡ c.in-Some-as_implication.premise.now) c.are_same.result c.are_same.ensures c.if-not-are_same.true in
    (c.in-Some.left.now, c.in-Some.right.now, c.in-Some-as_implication.premise.now, c.in-Some-as_implication.conclusion.now, forth_is, back_is, λ both. differs both.0)

pub returns-then-not-are_same-2-clause-answer : goal.returns-then-not-are_same-2-clause-answer
returns-then-not-are_same-2-clause-answer g c =
    let forth_is : c.args.ab.now.prop ≡ imp c.in-Some.left.now c.in-Some.right.now = sym (ap (λ (t : Theorem). t.prop) c.ab.view_is) ∙ c.in-Some.ensures in
    let back_is : c.args.ba.now.prop ≡ imp c.in-Some-as_implication.premise.now c.in-Some-as_implication.conclusion.now = sym (ap (λ (t : Theorem). t.prop) c.ba.view_is) ∙ c.in-Some-as_implication.ensures in
    let differs = test_fails (c.in-Some.left.now ≡ c.in-Some-as_implication.conclusion.now) c.are_same-2.result c.are_same-2.ensures c.if-not-are_same-2.true in
    (c.in-Some.left.now, c.in-Some.right.now, c.in-Some-as_implication.premise.now, c.in-Some-as_implication.conclusion.now, forth_is, back_is, λ both. differs both.1)

pub returns-clause-answer : goal.returns-clause-answer
returns-clause-answer g c =
    let forth_is : c.args.ab.now.prop ≡ imp c.in-Some.left.now c.in-Some.right.now = sym (ap (λ (t : Theorem). t.prop) c.ab.view_is) ∙ c.in-Some.ensures in
    let back_is : c.args.ba.now.prop ≡ imp c.in-Some-as_implication.premise.now c.in-Some-as_implication.conclusion.now = sym (ap (λ (t : Theorem). t.prop) c.ba.view_is) ∙ c.in-Some-as_implication.ensures in
    let right_same : c.in-Some.right.now ≡ c.in-Some-as_implication.premise.now = c.are_same.ensures.0 c.if-not-are_same.false in
    let left_same : c.in-Some.left.now ≡ c.in-Some-as_implication.conclusion.now = c.are_same-2.ensures.0 c.if-not-are_same-2.false in
    let over : c.args.ba.now.prop ≡ imp c.in-Some.right.now c.in-Some.left.now = back_is ∙ (λ l. imp (sym right_same l) (sym left_same l)) in
    let B : c.in_ok-equation_of.field-0 ≡ eq prop c.in-Some.left.now c.in-Some.right.now = c.in_ok-equation_of.ensures ∙ ap (λ T. eq T c.in-Some.left.now c.in-Some.right.now) c.prop_typ.ensures in
    answer-along (IsJoined c.args.ab.now c.args.ba.now c.in_ok-equation_of.field-0) (GivesEqualIntr c.args.ab.now c.args.ba.now) (RefusesEqualIntr c.args.ab.now c.args.ba.now)
    (λ th j. record { left = c.in-Some.left.now; right = c.in-Some.right.now; forth_is = forth_is; back_is = over; joined = subst (λ A. IsJoined c.args.ab.now c.args.ba.now A th) B j }) c.from_two.result c.from_two.ensures

pub returns-clause-derivable : goal.returns-clause-derivable
returns-clause-derivable g c = λ q h k.
    answer-holds (GivesEqualIntr c.args.ab.now c.args.ba.now) (RefusesEqualIntr c.args.ab.now c.args.ba.now) (IsDerivable (g.B.Base.content c.args.thy.now))
    (equal_intr-derived (g.B.Base.content c.args.thy.now) q c.args.ab.now c.args.ba.now h k) c.from_two.result (returns-clause-answer g c)
