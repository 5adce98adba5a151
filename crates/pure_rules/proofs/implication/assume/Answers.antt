use Rattle.pure_definitions.specs.Terms.Typing.{HasType}
use Rattle.std.proofs.Common.{◌≡◌, ◌∙◌, [], ◌∷◌, refl, sym, ap, subst}
use Rattle.pure_theorem.proofs.AnswerLaws.{answer-along, answer-holds}
use Rattle.pure_logic.specs.Derivable.{Theorem, IsDerivable}
use Rattle.pure_rules.specs.Implication.{GivesAssume, RefusesNoProposition}
use Rattle.pure_rules.proofs.DerivedLaws.{assume-derived}
use Rattle.pure_rules.proofs.implication.assume.Goals as goal

pub returns-clause-answer : goal.returns-clause-answer
returns-clause-answer g c =
    answer-along (λ (th : Theorem). th ≡ c.in_ok-assumption.field-0) (GivesAssume c.args.a.now) (RefusesNoProposition c.args.a.now)
    (λ th e. (subst (HasType [] c.args.a.now) c.prop_typ.ensures (c.in_ok-has_typ.ensures.0 c.if-not-branch.false), e ∙ c.in_ok-assumption.ensures)) c.within_limits.result c.within_limits.ensures

pub returns-clause-derivable : goal.returns-clause-derivable
returns-clause-derivable g c = λ certified.
    answer-holds (GivesAssume c.args.a.now) (RefusesNoProposition c.args.a.now) (IsDerivable (g.B.Base.content c.args.thy.now)) (assume-derived (g.B.Base.content c.args.thy.now) c.args.a.now certified) c.within_limits.result
    (answer-along (λ (th : Theorem). th ≡ c.in_ok-assumption.field-0) (GivesAssume c.args.a.now) (RefusesNoProposition c.args.a.now)
    (λ th e. (subst (HasType [] c.args.a.now) c.prop_typ.ensures (c.in_ok-has_typ.ensures.0 c.if-not-branch.false), e ∙ c.in_ok-assumption.ensures)) c.within_limits.result c.within_limits.ensures)
