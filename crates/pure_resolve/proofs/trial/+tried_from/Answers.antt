use Rattle.std.proofs.Common.{◌≡◌, List, Ok, Err, ap, arith}
use Rattle.pure_definitions.specs.Names.{Label}
use Rattle.pure_definitions.specs.Declarations.Decl.{algebra_of}
use Rattle.pure_goal_rules.specs.Shown.{seen}
use Rattle.pure_resolve.specs.Uses.{attempted}
use Rattle.pure_resolve.proofs.UseLaws.{spot_in, spot_same, spot_stands, past_all, past_parameter, past_hypothesis, at_hypothesis, made_other, fault_other}
use Rattle.pure_resolve.proofs.trial.+tried_from.Goals as goal

pub returns-then-from-trial : goal.returns-then-from-trial
returns-then-from-trial g t c = λ s first others is stand.
    past_all (algebra_of (g.B.Base.content c.args.thy.now).declarations) c.args.trial.now.maxidx s others (λ (all : List Label). all ≡ c.args.trial.now.rests.now) (attempted c.args.used.now c.args.trial.now.conclusion.now) c.args.trial.now.items.now c.args.from (omega (arith, c.if-from-trial.true))

pub tried_at-requires-clause-stands : goal.tried_at-requires-clause-stands
tried_at-requires-clause-stands g t c = spot_stands c.args.trial.now.items.now c.args.from c.item_at.result c.in-Hypothesis.hypothesis.now (omega (arith, c.if-from-trial.false)) c.item_at.ensures (ap seen c.in-Hypothesis.is) (spot_in c.args.trial.now.items.now c.args.from c.in-Hypothesis.hypothesis.now) (spot_same c.args.trial.now.items.now c.args.from c.in-Hypothesis.hypothesis.now)

pub tried_at-requires-clause-may : goal.tried_at-requires-clause-may
tried_at-requires-clause-may g t c = c.requires.may (spot_in c.args.trial.now.items.now c.args.from c.in-Hypothesis.hypothesis.now) (spot_stands c.args.trial.now.items.now c.args.from c.item_at.result c.in-Hypothesis.hypothesis.now (omega (arith, c.if-from-trial.false)) c.item_at.ensures (ap seen c.in-Hypothesis.is) (spot_in c.args.trial.now.items.now c.args.from c.in-Hypothesis.hypothesis.now) (spot_same c.args.trial.now.items.now c.args.from c.in-Hypothesis.hypothesis.now))

pub returns-in-Parameter : goal.returns-in-Parameter
returns-in-Parameter g t c = λ s first others is stand.
    past_parameter (algebra_of (g.B.Base.content c.args.thy.now).declarations) c.args.trial.now.maxidx s others (λ (all : List Label). all ≡ c.args.trial.now.rests.now) (attempted c.args.used.now c.args.trial.now.conclusion.now) c.args.trial.now.items.now c.args.from c.item_at.result c.in-Parameter.field-0.now (omega (arith, c.if-from-trial.false)) c.item_at.ensures (ap seen c.in-Parameter.is) c.tried_from.result (c.tried_from.ensures s first others is stand)

pub returns-then-is_no_unifier : goal.returns-then-is_no_unifier
returns-then-is_no_unifier g t c = λ s first others is stand.
    past_hypothesis (algebra_of (g.B.Base.content c.args.thy.now).declarations) c.args.trial.now.maxidx s others (λ (all : List Label). all ≡ c.args.trial.now.rests.now) (attempted c.args.used.now c.args.trial.now.conclusion.now) c.args.trial.now.items.now c.args.from c.item_at.result c.in-Hypothesis.hypothesis.now (omega (arith, c.if-from-trial.false)) c.item_at.ensures (ap seen c.in-Hypothesis.is) (spot_in c.args.trial.now.items.now c.args.from c.in-Hypothesis.hypothesis.now) (spot_same c.args.trial.now.items.now c.args.from c.in-Hypothesis.hypothesis.now)
    ((rw c.if-is_no_unifier.ensures at c.in-Err.ensures) s first others is stand) c.tried_from-then-is_no_unifier.result (c.tried_from-then-is_no_unifier.ensures s first others is stand)

pub returns-in-Ok : goal.returns-in-Ok
returns-in-Ok g t c = λ s first others is stand.
    at_hypothesis (algebra_of (g.B.Base.content c.args.thy.now).declarations) c.args.trial.now.maxidx s others (λ (all : List Label). all ≡ c.args.trial.now.rests.now) (attempted c.args.used.now c.args.trial.now.conclusion.now) c.args.trial.now.items.now c.args.from c.item_at.result c.in-Hypothesis.hypothesis.now (omega (arith, c.if-from-trial.false)) c.item_at.ensures (ap seen c.in-Hypothesis.is) (spot_in c.args.trial.now.items.now c.args.from c.in-Hypothesis.hypothesis.now) (spot_same c.args.trial.now.items.now c.args.from c.in-Hypothesis.hypothesis.now) (Ok c.in-Ok.goal) (made_other c.in-Ok.goal) (c.in-Ok.ensures s first others is stand)

pub returns-else-is_no_unifier : goal.returns-else-is_no_unifier
returns-else-is_no_unifier g t c = λ s first others is stand.
    at_hypothesis (algebra_of (g.B.Base.content c.args.thy.now).declarations) c.args.trial.now.maxidx s others (λ (all : List Label). all ≡ c.args.trial.now.rests.now) (attempted c.args.used.now c.args.trial.now.conclusion.now) c.args.trial.now.items.now c.args.from c.item_at.result c.in-Hypothesis.hypothesis.now (omega (arith, c.if-from-trial.false)) c.item_at.ensures (ap seen c.in-Hypothesis.is) (spot_in c.args.trial.now.items.now c.args.from c.in-Hypothesis.hypothesis.now) (spot_same c.args.trial.now.items.now c.args.from c.in-Hypothesis.hypothesis.now) (Err c.in-Err.fault) (fault_other c.in-Err.fault c.if-is_no_unifier.ensures) (c.in-Err.ensures s first others is stand)
