use Rattle.std.proofs.Common.{◌≡◌, ◌∙◌, [], refl}
use Rattle.pure_text.proofs.AnswerLaws.{test_fails}
use Rattle.pure_theorem.proofs.AnswerLaws.{answer-along, answer-holds}
use Rattle.pure_term_laws.proofs.TypingLaws.{typed-closed}
use Rattle.pure_logic.specs.Derivable.{Theorem, IsDerivable}
use Rattle.pure_definitions.specs.Terms.Bounds.{IsClosed}
use Rattle.pure_equal.specs.Reduction.{GivesEta, RefusesEta}
use Rattle.pure_equal.proofs.ReductionLaws.{is_expansion, is_no_expansion, not_applied-no_expansion}
use Rattle.pure_equal.proofs.DerivedLaws.{eta-derived}
use Rattle.pure_equal.proofs.reduction.eta.Goals as goal

pub returns-in_default-clause-answer : goal.returns-in_default-clause-answer
returns-in_default-clause-answer g c = not_applied-no_expansion c.args.t.now c.in_default.ensures

pub returns-then-not-is_closed_under-clause-answer : goal.returns-then-not-is_closed_under-clause-answer
returns-then-not-is_closed_under-clause-answer g c =
    let loose = test_fails (IsClosed c.in-Some.function.now) c.is_closed_under.result c.is_closed_under.ensures c.if-not-is_closed_under.true in
    is_no_expansion c.args.t.now c.in-Some.function.now (typed-closed c.args.t.now c.requires.0 c.requires.1) c.in-Some.ensures loose

pub returns-clause-answer : goal.returns-clause-answer
returns-clause-answer g c =
    let B = c.in_ok-equation_of.field-0 in
    let closed = c.is_closed_under.ensures.0 c.if-not-is_closed_under.false in
    answer-along (λ (th : Theorem). th ≡ record { hyps = []; pairs = []; prop = B; rests = [] }) (GivesEta c.args.t.now) (RefusesEta c.args.t.now)
    (λ th e. record {
      typ = c.in_ok-typ.typ;
      binder = c.in-Some.ensures.0;
      function = c.in-Some.function.now;
      redex = is_expansion c.args.t.now c.in-Some.function.now c.in-Some.ensures.0 c.in-Some.ensures.1 closed;
      typed = c.in_ok-typ.ensures;
      is = e ∙ (λ l. record { hyps = []; pairs = []; prop = c.in_ok-equation_of.ensures l; rests = [] });
    }) c.alone.result (c.alone.ensures B refl)

pub returns-clause-derivable : goal.returns-clause-derivable
returns-clause-derivable g c = λ q certified.
    answer-holds (GivesEta c.args.t.now) (RefusesEta c.args.t.now) (IsDerivable (g.B.Base.content c.args.thy.now))
    (eta-derived (g.B.Base.content c.args.thy.now) q c.args.t.now certified) c.alone.result (returns-clause-answer g c)
