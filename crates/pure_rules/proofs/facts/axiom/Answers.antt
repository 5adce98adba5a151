use Rattle.std.proofs.Common.{◌≡◌, ◌∙◌, [], ◌∷◌, refl, sym, ap, subst}
use Rattle.pure_theorem.proofs.AnswerLaws.{answer-along, answer-holds}
use Rattle.pure_logic.specs.Derivable.{Theorem, IsDerivable}
use Rattle.pure_theorem.specs.Facts.{IsAxiom}
use Rattle.pure_rules.specs.Facts.{GivesAxiom, RefusesAxiom}
use Rattle.pure_rules.proofs.DerivedLaws.{axiom-derived}
use Rattle.pure_rules.proofs.facts.axiom.Goals as goal

pub returns-clause-answer : goal.returns-clause-answer
returns-clause-answer g c =
    let Q = g.B.Base.content c.args.thy.now in
    answer-along (λ (th : Theorem). th ≡ record { hyps = []; pairs = []; prop = c.in_ok-copy.field-0; rests = [] }) (GivesAxiom Q c.args.name) (RefusesAxiom Q c.args.name)
    (λ th e. (c.in_ok-copy.field-0, subst (IsAxiom Q c.args.name) (sym c.in_ok-copy.ensures) c.in-Some.ensures, e)) c.alone.result (c.alone.ensures c.in_ok-copy.field-0 refl)

pub returns-clause-derivable : goal.returns-clause-derivable
returns-clause-derivable g c =
    let Q = g.B.Base.content c.args.thy.now in
    answer-holds (GivesAxiom Q c.args.name) (RefusesAxiom Q c.args.name) (IsDerivable Q) (axiom-derived Q c.args.name) c.alone.result
    (answer-along (λ (th : Theorem). th ≡ record { hyps = []; pairs = []; prop = c.in_ok-copy.field-0; rests = [] }) (GivesAxiom Q c.args.name) (RefusesAxiom Q c.args.name)
    (λ th e. (c.in_ok-copy.field-0, subst (IsAxiom Q c.args.name) (sym c.in_ok-copy.ensures) c.in-Some.ensures, e)) c.alone.result (c.alone.ensures c.in_ok-copy.field-0 refl))
