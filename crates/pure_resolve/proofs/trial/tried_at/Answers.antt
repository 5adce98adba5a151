use Rattle.std.proofs.Common.{◌≡◌, List, ◌++◌, sym, subst}
use Rattle.pure_text.specs.Lists.{Each}
use Rattle.pure_definitions.specs.Names.{Label}
use Rattle.pure_definitions.specs.Declarations.Decl.{algebra_of}
use Rattle.pure_logic.specs.Derivable.{Pair}
use Rattle.pure_unify_nodes.specs.SideAnswer.{AreSidesTyped}
use Rattle.pure_goal_rules.specs.Shown.{seen_place}
use Rattle.pure_resolve.specs.Uses.{attempted}
use Rattle.pure_resolve.proofs.FollowLaws.{followed_ok, followed_err}
use Rattle.pure_resolve.proofs.trial.tried_at.Goals as goal

pub unified-requires : goal.unified-requires
unified-requires g c = subst (λ (ps : List Pair). Each AreSidesTyped (ps ++ c.args.trial.now.goal.now.pairs)) (sym c.in_ok-matched.ensures) c.requires.may.pairs

pub returns-in-Ok : goal.returns-in-Ok
returns-in-Ok g c = λ s first others is stand.
    followed_ok (algebra_of (g.B.Base.content c.args.thy.now).declarations) c.args.trial.now.maxidx c.args.trial.now.goal.now s others (attempted c.args.used.now c.args.trial.now.conclusion.now (seen_place c.args.spot.now)) c.in_ok-matched.matched.items c.in-Ok.unifier is c.in_ok-matched.ensures c.in-Ok.ensures.answer
    (λ (all : List Label). all ≡ c.args.trial.now.rests.now) c.made_at.result (c.made_at.ensures s first others is stand)

pub returns-in-Err : goal.returns-in-Err
returns-in-Err g c = λ s first others is stand.
    followed_err (algebra_of (g.B.Base.content c.args.thy.now).declarations) c.args.trial.now.maxidx c.args.trial.now.goal.now s others (attempted c.args.used.now c.args.trial.now.conclusion.now (seen_place c.args.spot.now)) c.in_ok-matched.matched.items c.in-Err.fault is c.in_ok-matched.ensures c.in-Err.ensures.answer
    (λ (all : List Label). all ≡ c.args.trial.now.rests.now) c.step_fault.result c.step_fault.ensures
