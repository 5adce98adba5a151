use Rattle.std.proofs.Common.{◌≡◌, List, sym, subst}
use Rattle.pure_text.specs.Lists.{Each}
use Rattle.pure_definitions.specs.Names.{Label}
use Rattle.pure_definitions.specs.Terms.Term.{Term}
use Rattle.pure_theorem.specs.Shapes.{IsTyped}
use Rattle.pure_unify.specs.Unified.{seen}
use Rattle.pure_goal_steps.specs.Follows.{Becomes, with_unifier}
use Rattle.pure_goal_rules.specs.Shown.{seen_place}
use Rattle.pure_resolve.specs.Goals.{IsOutcome}
use Rattle.pure_resolve.specs.Uses.{attempted}
use Rattle.pure_resolve.proofs.trial.made_at.Goals as goal

pub with_unifier-requires-clause-typed : goal.with_unifier-requires-clause-typed
with_unifier-requires-clause-typed g c = subst (λ (As : List Term). Each IsTyped As) (sym c.in_ok-premises.ensures) c.requires.typed

pub returns : goal.returns
returns g c = λ s first others is stand.
    let a = attempted c.args.used.now c.args.trial.now.conclusion.now (seen_place c.args.spot.now) in
    subst (λ (rests : List Label). IsOutcome (Becomes (with_unifier s others a (seen c.args.unifier))) (λ (all : List Label). all ≡ rests) c.with_unifier.result) c.in_ok-rests.ensures.items
    (c.with_unifier.ensures s first others a is stand (sym c.in_ok-premises.ensures))
