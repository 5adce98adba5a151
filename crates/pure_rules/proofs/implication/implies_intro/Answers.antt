use Rattle.pure_definitions.specs.Terms.Typing.{HasType}
use Rattle.std.proofs.Common.{◌≡◌, ◌∙◌, [], ◌∷◌, refl, sym, ap, subst}
use Rattle.pure_theorem.proofs.AnswerLaws.{answer-along, answer-holds}
use Rattle.pure_logic.specs.Derivable.{Theorem, IsDerivable}
use Rattle.pure_rules.specs.Implication.{GivesImpliesIntro, RefusesNoProposition}
use Rattle.pure_rules.proofs.DerivedLaws.{implies_intro-derived}
use Rattle.pure_rules.proofs.implication.implies_intro.Goals as goal

pub returns-clause-answer : goal.returns-clause-answer
returns-clause-answer g c =
    answer-along (λ (th : Theorem). th ≡ c.in_ok-discharged.field-0) (GivesImpliesIntro c.args.a.now c.args.th.now) (RefusesNoProposition c.args.a.now)
    (λ th e. (subst (HasType [] c.args.a.now) c.prop_typ.ensures (c.in_ok-has_typ.ensures.0 c.if-not-branch.false), e ∙ c.in_ok-discharged.ensures)) c.within_limits.result c.within_limits.ensures

pub returns-clause-derivable : goal.returns-clause-derivable
returns-clause-derivable g c = λ q certified h.
    answer-holds (GivesImpliesIntro c.args.a.now c.args.th.now) (RefusesNoProposition c.args.a.now) (IsDerivable (g.B.Base.content c.args.thy.now)) (implies_intro-derived (g.B.Base.content c.args.thy.now) q c.args.a.now c.args.th.now certified h) c.within_limits.result
    (answer-along (λ (th : Theorem). th ≡ c.in_ok-discharged.field-0) (GivesImpliesIntro c.args.a.now c.args.th.now) (RefusesNoProposition c.args.a.now)
    (λ th e. (subst (HasType [] c.args.a.now) c.prop_typ.ensures (c.in_ok-has_typ.ensures.0 c.if-not-branch.false), e ∙ c.in_ok-discharged.ensures)) c.within_limits.result c.within_limits.ensures)
