use Rattle.std.proofs.Common.{◌≡◌, ◌∙◌, sym, ap, subst}
use Rattle.pure_theorem.proofs.AnswerLaws.{answer-along, answer-holds}
use Rattle.pure_theorem.specs.Answer.{IsJoined}
use Rattle.pure_logic.specs.Derivable.{Theorem, IsDerivable}
use Rattle.pure_logic.specs.Connectives.{eq}
use Rattle.pure_definitions.specs.Types.Typ.{arrow}
use Rattle.pure_equal.specs.Congruence.{GivesCombination, RefusesCombination}
use Rattle.pure_equal.proofs.DerivedLaws.{combination-derived}
use Rattle.pure_equal.proofs.congruence.combination.Goals as goal

pub returns-in_default-range_for-clause-answer : goal.returns-in_default-range_for-clause-answer
returns-in_default-range_for-clause-answer g c =
    let functions_are : c.args.f.now.prop ≡ eq c.in-Some.function_typ.now c.in-Some.first.now c.in-Some.second.now = sym (ap (λ (t : Theorem). t.prop) c.f.view_is) ∙ c.in-Some.ensures in
    let arguments_are : c.args.x.now.prop ≡ eq c.in-Some-as_equation.typ.now c.in-Some-as_equation.left.now c.in-Some-as_equation.right.now = sym (ap (λ (t : Theorem). t.prop) c.x.view_is) ∙ c.in-Some-as_equation.ensures in
    (c.in-Some.function_typ.now, c.in-Some-as_equation.typ.now, c.in-Some.first.now, c.in-Some.second.now, c.in-Some-as_equation.left.now, c.in-Some-as_equation.right.now, functions_are, arguments_are, c.in_default-range_for.ensures)

pub returns-clause-answer : goal.returns-clause-answer
returns-clause-answer g c =
    let functions_are : c.args.f.now.prop ≡ eq c.in-Some.function_typ.now c.in-Some.first.now c.in-Some.second.now = sym (ap (λ (t : Theorem). t.prop) c.f.view_is) ∙ c.in-Some.ensures in
    let arguments_are : c.args.x.now.prop ≡ eq c.in-Some-as_equation.typ.now c.in-Some-as_equation.left.now c.in-Some-as_equation.right.now = sym (ap (λ (t : Theorem). t.prop) c.x.view_is) ∙ c.in-Some-as_equation.ensures in
    let over : c.args.f.now.prop ≡ eq (arrow c.in-Some-as_equation.typ.now c.in-Some-range_for.range.now) c.in-Some.first.now c.in-Some.second.now = functions_are ∙ ap (λ T. eq T c.in-Some.first.now c.in-Some.second.now) c.in-Some-range_for.ensures in
    answer-along (IsJoined c.args.f.now c.args.x.now c.in_ok-applications.applications) (GivesCombination c.args.f.now c.args.x.now) (RefusesCombination c.args.f.now c.args.x.now)
    (λ th j. record {
      domain = c.in-Some-as_equation.typ.now;
      range = c.in-Some-range_for.range.now;
      f = c.in-Some.first.now;
      g = c.in-Some.second.now;
      x = c.in-Some-as_equation.left.now;
      y = c.in-Some-as_equation.right.now;
      functions_are = over;
      arguments_are = arguments_are;
      joined = subst (λ B. IsJoined c.args.f.now c.args.x.now B th) c.in_ok-applications.ensures j;
    }) c.from_two.result c.from_two.ensures

pub returns-clause-derivable : goal.returns-clause-derivable
returns-clause-derivable g c = λ q h k.
    answer-holds (GivesCombination c.args.f.now c.args.x.now) (RefusesCombination c.args.f.now c.args.x.now) (IsDerivable (g.B.Base.content c.args.thy.now))
    (combination-derived (g.B.Base.content c.args.thy.now) q c.args.f.now c.args.x.now h k) c.from_two.result (returns-clause-answer g c)
