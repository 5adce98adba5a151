use Rattle.std.proofs.Common.{◌≡◌, []}
use Rattle.pure_theorem.proofs.AnswerLaws.{answer-along, answer-holds}
use Rattle.pure_logic.specs.Derivable.{Theorem, IsDerivable}
use Rattle.pure_logic.specs.Connectives.{eq}
use Rattle.pure_definitions.specs.Terms.Bounds.{subst_bound}
use Rattle.pure_equal.specs.Reduction.{GivesBeta, RefusesBeta}
use Rattle.pure_equal.proofs.ClosedLaws.{closed-argument}
use Rattle.pure_equal.proofs.DerivedLaws.{beta-derived}
use Rattle.pure_equal.proofs.reduction.beta.Goals as goal

pub reduced-requires : goal.reduced-requires
reduced-requires g c = closed-argument c.args.t.now c.in-Some.body.now c.in-Some.argument.now c.requires c.in-Some.ensures

pub returns-clause-answer : goal.returns-clause-answer
returns-clause-answer g c =
    let B = eq c.in_ok-typ.typ c.args.t.now (subst_bound c.in-Some.body.now c.in-Some.argument.now) in
    answer-along (λ (th : Theorem). th ≡ record { hyps = []; pairs = []; prop = B; rests = [] }) (GivesBeta c.args.t.now) (RefusesBeta c.args.t.now)
    (λ th e. record { typ = c.in_ok-typ.typ; binder = c.in-Some.ensures.0; body = c.in-Some.body.now; argument = c.in-Some.argument.now; redex = c.in-Some.ensures.1; typed = c.in_ok-typ.ensures; is = e }) c.alone.result (c.alone.ensures B c.reduced.ensures)

pub returns-clause-derivable : goal.returns-clause-derivable
returns-clause-derivable g c = λ q certified.
    answer-holds (GivesBeta c.args.t.now) (RefusesBeta c.args.t.now) (IsDerivable (g.B.Base.content c.args.thy.now))
    (beta-derived (g.B.Base.content c.args.thy.now) q c.args.t.now certified) c.alone.result (returns-clause-answer g c)
