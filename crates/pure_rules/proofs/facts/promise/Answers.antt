use Rattle.std.proofs.Common.{◌≡◌, ◌∙◌, [], ◌∷◌, refl, sym, ap, subst}
use Rattle.pure_theorem.proofs.AnswerLaws.{answer-along, answer-holds}
use Rattle.pure_logic.specs.Derivable.{Theorem, IsDerivable}
use Rattle.pure_rules.specs.Facts.{GivesPromise, RefusesPromise}
use Rattle.pure_rules.proofs.DerivedLaws.{promise-derived}
use Rattle.pure_rules.proofs.facts.promise.Goals as goal

pub returns-clause-answer : goal.returns-clause-answer
returns-clause-answer g c =
    let Q = g.B.Base.content c.args.thy.now in
    answer-along (λ (th : Theorem). th ≡ c.in_ok-promised.field-0) (GivesPromise Q c.args.label) (RefusesPromise Q c.args.label)
    (λ th e. (c.in-Some.prop.now, c.in-Some.ensures, e ∙ c.in_ok-promised.ensures)) c.within_limits.result c.within_limits.ensures

pub returns-clause-derivable : goal.returns-clause-derivable
returns-clause-derivable g c =
    let Q = g.B.Base.content c.args.thy.now in
    answer-holds (GivesPromise Q c.args.label) (RefusesPromise Q c.args.label) (IsDerivable Q) (promise-derived Q c.args.label) c.within_limits.result
    (answer-along (λ (th : Theorem). th ≡ c.in_ok-promised.field-0) (GivesPromise Q c.args.label) (RefusesPromise Q c.args.label)
    (λ th e. (c.in-Some.prop.now, c.in-Some.ensures, e ∙ c.in_ok-promised.ensures)) c.within_limits.result c.within_limits.ensures)
