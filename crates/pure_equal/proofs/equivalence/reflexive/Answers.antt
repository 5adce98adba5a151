use Rattle.std.proofs.Common.{◌≡◌, ◌∙◌, [], refl}
use Rattle.pure_theorem.proofs.AnswerLaws.{answer-along, answer-holds}
use Rattle.pure_logic.specs.Derivable.{Theorem, IsDerivable}
use Rattle.pure_theorem.specs.Answer.{NoRefusal}
use Rattle.pure_equal.specs.Equivalence.{GivesReflexive}
use Rattle.pure_equal.proofs.DerivedLaws.{reflexive-derived}
use Rattle.pure_equal.proofs.equivalence.reflexive.Goals as goal

pub returns-clause-answer : goal.returns-clause-answer
returns-clause-answer g c =
    let B = c.in_ok-equation_of.field-0 in
    answer-along (λ (th : Theorem). th ≡ record { hyps = []; pairs = []; prop = B; rests = [] }) (GivesReflexive c.args.t.now) NoRefusal
    (λ th e. (c.in_ok-typ.typ, c.in_ok-typ.ensures, e ∙ (λ l. record { hyps = []; pairs = []; prop = c.in_ok-equation_of.ensures l; rests = [] }))) c.alone.result (c.alone.ensures B refl)

pub returns-clause-derivable : goal.returns-clause-derivable
returns-clause-derivable g c = λ q certified.
    answer-holds (GivesReflexive c.args.t.now) NoRefusal (IsDerivable (g.B.Base.content c.args.thy.now))
    (reflexive-derived (g.B.Base.content c.args.thy.now) q c.args.t.now certified) c.alone.result (returns-clause-answer g c)
