use Rattle.std.proofs.Common.{◌≡◌, ◌∙◌, [], ◌∷◌, refl, sym, ap, subst}
use Rattle.pure_theorem.proofs.AnswerLaws.{answer-along, answer-holds}
use Rattle.pure_logic.specs.Derivable.{Theorem, IsDerivable}
use Rattle.pure_theorem.specs.Answer.{NoRefusal}
use Rattle.pure_rules.specs.Facts.{GivesBuilt}
use Rattle.pure_rules.proofs.DerivedLaws.{built-derived}
use Rattle.pure_rules.proofs.facts.built.Goals as goal

pub returns-clause-answer : goal.returns-clause-answer
returns-clause-answer g c =
    answer-along (λ (th : Theorem). th ≡ record { hyps = []; pairs = []; prop = c.in_ok-built_term.field-0; rests = [] }) (GivesBuilt c.args.which) NoRefusal
    (λ th e. e ∙ ap (λ B. record { hyps = []; pairs = []; prop = B; rests = [] }) c.in_ok-built_term.ensures) c.alone.result (c.alone.ensures c.in_ok-built_term.field-0 refl)

pub returns-clause-derivable : goal.returns-clause-derivable
returns-clause-derivable g c = λ q.
    answer-holds (GivesBuilt c.args.which) NoRefusal (IsDerivable (g.B.Base.content c.args.thy.now)) (built-derived (g.B.Base.content c.args.thy.now) q c.args.which) c.alone.result
    (answer-along (λ (th : Theorem). th ≡ record { hyps = []; pairs = []; prop = c.in_ok-built_term.field-0; rests = [] }) (GivesBuilt c.args.which) NoRefusal
    (λ th e. e ∙ ap (λ B. record { hyps = []; pairs = []; prop = B; rests = [] }) c.in_ok-built_term.ensures) c.alone.result (c.alone.ensures c.in_ok-built_term.field-0 refl))
