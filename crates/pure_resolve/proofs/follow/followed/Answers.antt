use Rattle.std.proofs.Common.{◌≡◌, List, refl}
use Rattle.pure_definitions.specs.Names.{Label}
use Rattle.pure_definitions.specs.Declarations.Decl.{algebra_of}
use Rattle.pure_goal_rules.specs.Attempts.{seen_attempt}
use Rattle.pure_resolve.proofs.FollowLaws.{followed_ok, followed_err}
use Rattle.pure_resolve.proofs.follow.followed.Goals as goal

pub returns-in-Ok : goal.returns-in-Ok
returns-in-Ok g c = λ s first others is stand.
    followed_ok (algebra_of (g.B.Base.content c.args.thy.now).declarations) c.args.maxidx c.args.goal.now s others (seen_attempt c.args.attempt) (seen_attempt c.args.attempt).matched c.in-Ok.unifier is refl c.in-Ok.ensures.answer
    (λ (all : List Label). all ≡ c.args.rests.items) c.with_unifier.result (c.with_unifier.ensures s first others (seen_attempt c.args.attempt) is stand refl)

pub returns-in-Err : goal.returns-in-Err
returns-in-Err g c = λ s first others is stand.
    followed_err (algebra_of (g.B.Base.content c.args.thy.now).declarations) c.args.maxidx c.args.goal.now s others (seen_attempt c.args.attempt) (seen_attempt c.args.attempt).matched c.in-Err.fault is refl c.in-Err.ensures.answer
    (λ (all : List Label). all ≡ c.args.rests.items) c.step_fault.result c.step_fault.ensures
