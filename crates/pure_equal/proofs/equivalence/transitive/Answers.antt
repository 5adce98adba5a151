use Rattle.std.proofs.Common.{◌≡◌, ◌∙◌, sym, ap, subst}
use Rattle.pure_text.proofs.AnswerLaws.{test_fails}
use Rattle.pure_theorem.proofs.AnswerLaws.{answer-along, answer-holds}
use Rattle.pure_theorem.specs.Answer.{IsJoined}
use Rattle.pure_logic.specs.Derivable.{Theorem, IsDerivable}
use Rattle.pure_logic.specs.Connectives.{eq}
use Rattle.pure_equal.specs.Equivalence.{GivesTransitive, RefusesTransitive}
use Rattle.pure_equal.proofs.DerivedLaws.{transitive-derived}
use Rattle.pure_equal.proofs.equivalence.transitive.Goals as goal

pub returns-then-not-are_same-clause-answer : goal.returns-then-not-are_same-clause-answer
returns-then-not-are_same-clause-answer g c =
    let left_is : c.args.a.now.prop ≡ eq c.in-Some.typ.now c.in-Some.first.now c.in-Some.middle.now = sym (ap (λ (t : Theorem). t.prop) c.a.view_is) ∙ c.in-Some.ensures in
    let right_is : c.args.b.now.prop ≡ eq c.in-Some-as_equation.field-0-0.now c.in-Some-as_equation.other.now c.in-Some-as_equation.last.now = sym (ap (λ (t : Theorem). t.prop) c.b.view_is) ∙ c.in-Some-as_equation.ensures in
    let differs = test_fails (c.in-Some.middle.now ≡ c.in-Some-as_equation.other.now) c.are_same.result c.are_same.ensures c.if-not-are_same.true in
    (c.in-Some.typ.now, c.in-Some-as_equation.field-0-0.now, c.in-Some.first.now, c.in-Some.middle.now, c.in-Some-as_equation.other.now, c.in-Some-as_equation.last.now, left_is, right_is, differs)

pub returns-clause-answer : goal.returns-clause-answer
returns-clause-answer g c =
    let left_is : c.args.a.now.prop ≡ eq c.in-Some.typ.now c.in-Some.first.now c.in-Some.middle.now = sym (ap (λ (t : Theorem). t.prop) c.a.view_is) ∙ c.in-Some.ensures in
    let right_is : c.args.b.now.prop ≡ eq c.in-Some-as_equation.field-0-0.now c.in-Some-as_equation.other.now c.in-Some-as_equation.last.now = sym (ap (λ (t : Theorem). t.prop) c.b.view_is) ∙ c.in-Some-as_equation.ensures in
    let same : c.in-Some.middle.now ≡ c.in-Some-as_equation.other.now = c.are_same.ensures.0 c.if-not-are_same.false in
    let over : c.args.b.now.prop ≡ eq c.in-Some-as_equation.field-0-0.now c.in-Some.middle.now c.in-Some-as_equation.last.now = right_is ∙ ap (λ t. eq c.in-Some-as_equation.field-0-0.now t c.in-Some-as_equation.last.now) (sym same) in
    answer-along (IsJoined c.args.a.now c.args.b.now c.in_ok-equation_of.field-0) (GivesTransitive c.args.a.now c.args.b.now) (RefusesTransitive c.args.a.now c.args.b.now)
    (λ th j. record {
      typ = c.in-Some.typ.now;
      other = c.in-Some-as_equation.field-0-0.now;
      first = c.in-Some.first.now;
      middle = c.in-Some.middle.now;
      last = c.in-Some-as_equation.last.now;
      left_is = left_is;
      right_is = over;
      joined = subst (λ B. IsJoined c.args.a.now c.args.b.now B th) c.in_ok-equation_of.ensures j;
    }) c.from_two.result c.from_two.ensures

pub returns-clause-derivable : goal.returns-clause-derivable
returns-clause-derivable g c = λ q h k.
    answer-holds (GivesTransitive c.args.a.now c.args.b.now) (RefusesTransitive c.args.a.now c.args.b.now) (IsDerivable (g.B.Base.content c.args.thy.now))
    (transitive-derived (g.B.Base.content c.args.thy.now) q c.args.a.now c.args.b.now h k) c.from_two.result (returns-clause-answer g c)
