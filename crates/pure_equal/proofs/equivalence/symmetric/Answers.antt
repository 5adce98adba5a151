use Rattle.std.proofs.Common.{◌≡◌, ◌∙◌, refl, sym, ap}
use Rattle.pure_theorem.proofs.AnswerLaws.{answer-along, answer-holds}
use Rattle.pure_logic.specs.Derivable.{Theorem, IsDerivable}
use Rattle.pure_logic.specs.Connectives.{eq}
use Rattle.pure_equal.specs.Equivalence.{GivesSymmetric, RefusesNoEquation}
use Rattle.pure_equal.proofs.DerivedLaws.{symmetric-derived}
use Rattle.pure_equal.proofs.equivalence.symmetric.Goals as goal

pub returns-clause-answer : goal.returns-clause-answer
returns-clause-answer g c =
    let is : c.args.th.now.prop ≡ eq c.in-Some.typ.now c.in-Some.left.now c.in-Some.right.now = sym (ap (λ (t : Theorem). t.prop) c.th.view_is) ∙ c.in-Some.ensures in
    let B = c.in_ok-equation_of.field-0 in
    answer-along (λ (new : Theorem). new ≡ record c.args.th.now { prop = B }) (GivesSymmetric c.args.th.now) (RefusesNoEquation c.args.th.now)
    (λ new e. (c.in-Some.typ.now, c.in-Some.left.now, c.in-Some.right.now, is, e ∙ (λ l. record c.args.th.now { prop = c.in_ok-equation_of.ensures l }))) c.from_one.result (c.from_one.ensures B refl)

pub returns-clause-derivable : goal.returns-clause-derivable
returns-clause-derivable g c = λ q h.
    answer-holds (GivesSymmetric c.args.th.now) (RefusesNoEquation c.args.th.now) (IsDerivable (g.B.Base.content c.args.thy.now))
    (symmetric-derived (g.B.Base.content c.args.thy.now) q c.args.th.now h) c.from_one.result (returns-clause-answer g c)
