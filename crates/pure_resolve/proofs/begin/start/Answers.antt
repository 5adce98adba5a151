use Rattle.std.proofs.Common.{◌≡◌, List, [], ◌∷◌, ap, sym, subst}
use Rattle.pure_definitions.specs.Names.{Label}
use Rattle.pure_definitions.specs.Terms.Term.{Term}
use Rattle.pure_logic.specs.Connectives.{chain}
use Rattle.pure_theorem.specs.Sets.{IsLabelSet}
use Rattle.pure_theorem.proofs.SetLaws.{no_labels}
use Rattle.pure_goal_steps.specs.Steps.{BeginsAs}
use Rattle.pure_goal_steps.specs.Derivability.{IsSound}
use Rattle.pure_goal_steps.proofs.SoundLaws.{begins_sound}
use Rattle.pure_resolve.proofs.AnswerLaws.{outcome_derivable}
use Rattle.pure_resolve.proofs.StepLaws.{concluded-at, start_answer, start_stopped}
use Rattle.pure_resolve.proofs.begin.start.Goals as goal

pub returns-in-Err-clause-answer : goal.returns-in-Err-clause-answer
returns-in-Err-clause-answer g c = start_stopped c.args.c.now (λ rests. rests ≡ []) c.in-Err.fault c.in-Err.ensures

pub concluded-requires-clause-set : goal.concluded-requires-clause-set
concluded-requires-clause-set g c = subst IsLabelSet (sym c.new-2.ensures.items) no_labels

pub returns-clause-answer : goal.returns-clause-answer
returns-clause-answer g c =
    start_answer c.args.c.now c.in-Ok.long c.in_ok-statement.statement c.in-Ok.ensures c.in_ok-statement.ensures c.concluded.result
    (concluded-at c.new.result.items [] (chain c.in_ok-subgoals.subgoals.items c.in_ok-statement.statement) (chain (c.in-Ok.long ∷ []) c.in_ok-statement.statement) c.new-2.result.items [] c.concluded.result
    c.new.ensures.items (ap (λ (As : List Term). chain As c.in_ok-statement.statement) c.in_ok-subgoals.ensures) c.new-2.ensures.items c.concluded.ensures)

pub returns-clause-derivable : goal.returns-clause-derivable
returns-clause-derivable g c = λ q h.
    let Q = g.B.Base.content c.args._thy.now in
    outcome_derivable Q (BeginsAs c.args.c.now) (λ (all : List Label). all ≡ [])
    (λ s rests b e. subst (λ (r : List Label). IsSound Q r s) (sym e) (begins_sound Q q.content q.above_pure c.args.c.now s h b)) c.concluded.result
    (start_answer c.args.c.now c.in-Ok.long c.in_ok-statement.statement c.in-Ok.ensures c.in_ok-statement.ensures c.concluded.result
    (concluded-at c.new.result.items [] (chain c.in_ok-subgoals.subgoals.items c.in_ok-statement.statement) (chain (c.in-Ok.long ∷ []) c.in_ok-statement.statement) c.new-2.result.items [] c.concluded.result
    c.new.ensures.items (ap (λ (As : List Term). chain As c.in_ok-statement.statement) c.in_ok-subgoals.ensures) c.new-2.ensures.items c.concluded.ensures))
