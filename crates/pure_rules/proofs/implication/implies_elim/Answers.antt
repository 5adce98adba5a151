use Rattle.std.proofs.Common.{◌≡◌, ◌∙◌, [], ◌∷◌, refl, sym, ap, subst}
use Rattle.pure_theorem.proofs.AnswerLaws.{answer-along, answer-holds}
use Rattle.pure_logic.specs.Derivable.{Theorem, IsDerivable}
use Rattle.pure_text.proofs.AnswerLaws.{test_fails}
use Rattle.pure_logic.specs.Connectives.{imp}
use Rattle.pure_theorem.specs.Answer.{IsJoined}
use Rattle.pure_rules.specs.Implication.{GivesImpliesElim, RefusesImpliesElim}
use Rattle.pure_rules.proofs.DerivedLaws.{implies_elim-derived}
use Rattle.pure_rules.proofs.implication.implies_elim.Goals as goal

pub returns-then-not-are_same-clause-answer : goal.returns-then-not-are_same-clause-answer
returns-then-not-are_same-clause-answer g c =
    let differs = test_fails (c.in-Some.premise.now ≡ c.prem.inside.prop) c.are_same.result c.are_same.ensures c.if-not-are_same.true in
    (c.in-Some.premise.now, c.in-Some.conclusion.now, sym (ap (λ (t : Theorem). t.prop) c.imp.view_is) ∙ c.in-Some.ensures, λ e. differs (e ∙ sym (ap (λ (t : Theorem). t.prop) c.prem.view_is)))

pub returns-clause-answer : goal.returns-clause-answer
returns-clause-answer g c =
    let same : c.in-Some.premise.now ≡ c.args.prem.now.prop = c.are_same.ensures.0 c.if-not-are_same.false ∙ ap (λ (t : Theorem). t.prop) c.prem.view_is in
    let is : c.args.imp.now.prop ≡ imp c.args.prem.now.prop c.in_ok-copy.field-0 = (sym (ap (λ (t : Theorem). t.prop) c.imp.view_is) ∙ c.in-Some.ensures) ∙ (λ l. imp (same l) (sym c.in_ok-copy.ensures l)) in
    answer-along (IsJoined c.args.imp.now c.args.prem.now c.in_ok-copy.field-0) (GivesImpliesElim c.args.imp.now c.args.prem.now) (RefusesImpliesElim c.args.imp.now c.args.prem.now)
    (λ th j. (c.in_ok-copy.field-0, is, j)) c.from_two.result c.from_two.ensures

pub returns-clause-derivable : goal.returns-clause-derivable
returns-clause-derivable g c = λ q h k.
    let same : c.in-Some.premise.now ≡ c.args.prem.now.prop = c.are_same.ensures.0 c.if-not-are_same.false ∙ ap (λ (t : Theorem). t.prop) c.prem.view_is in
    let is : c.args.imp.now.prop ≡ imp c.args.prem.now.prop c.in_ok-copy.field-0 = (sym (ap (λ (t : Theorem). t.prop) c.imp.view_is) ∙ c.in-Some.ensures) ∙ (λ l. imp (same l) (sym c.in_ok-copy.ensures l)) in
    answer-holds (GivesImpliesElim c.args.imp.now c.args.prem.now) (RefusesImpliesElim c.args.imp.now c.args.prem.now) (IsDerivable (g.B.Base.content c.args.thy.now))
    (implies_elim-derived (g.B.Base.content c.args.thy.now) q c.args.imp.now c.args.prem.now h k) c.from_two.result
    (answer-along (IsJoined c.args.imp.now c.args.prem.now c.in_ok-copy.field-0) (GivesImpliesElim c.args.imp.now c.args.prem.now) (RefusesImpliesElim c.args.imp.now c.args.prem.now)
    (λ th j. (c.in_ok-copy.field-0, is, j)) c.from_two.result c.from_two.ensures)
