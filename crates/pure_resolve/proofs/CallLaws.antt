-- What calls on goals ask of each other.
use Rattle.std.proofs.Common.{◌≡◌, ◌≢◌, ℕ, ◌+◌, ◌-◌, ◌<◌, ◌≤◌, List, [], ◌∷◌, ◌++◌, length, Bool, true, false, MatchBool, Result, Err, IfOk, ap, sym, subst, ◌∙◌, arith}
use Rattle.pure_text.specs.Lists.{IsIn, Each}
use Rattle.pure_text.proofs.ListLaws.{in-append_left, in-append_right}
use Rattle.pure_definitions.specs.Names.{Label}
use Rattle.pure_definitions.specs.Types.Typ.{Typ}
use Rattle.pure_definitions.specs.Terms.Term.{Term}
use Rattle.pure_logic.specs.Connectives.{imp, eq, protect, chain}
use Rattle.pure_logic.specs.Content.{Content}
use Rattle.pure_logic.specs.Derivable.{Pair, Theorem, IsDerivable}
use Rattle.pure_theorem.specs.Facts.{IsTheoryContent}
use Rattle.pure_theorem.specs.Sets.{label_cmp, IsSetOf}
use Rattle.pure_unify_definitions.specs.LongSides.{Long, ComesTo}
use Rattle.pure_goal_steps.specs.Steps.{PreferStep, DeferStep, ConversionStep}
use Rattle.pure_goal_steps.specs.Derivability.{IsSound}
use Rattle.pure_goal_steps.specs.declared.fault.StepFault.{StepFault}
use Rattle.pure_goal_steps.specs.declared.fault.StepFault.TheVariants.{NoSubgoal, Memory}
use Rattle.pure_goal_steps.proofs.SoundLaws.{preferred_is_sound, deferred_is_sound, converted_is_sound}
use Rattle.pure_resolve.specs.Goals.{IsGoalTheorem, IsLeftTyped, IsConcluded, IsUnited, IsStep, IsEquationFor}
use Rattle.pure_resolve.specs.Premises.{implied_by, IsFirstPremise}
use Rattle.pure_resolve.specs.declared.state.Goal.{Goal}
use Rattle.pure_resolve.proofs.AnswerLaws.{left-typed, step_derivable}
use Rattle.pure_resolve.proofs.ChainLaws.{IsCut}
use Rattle.pure_resolve.proofs.StepLaws.{prefer_answer, defer_answer, convert_answer, equated-first}

pub goal_left_typed : (th : Theorem) → IsGoalTheorem th → Each IsLeftTyped th.pairs
goal_left_typed th g = subst (λ (ps : List Pair). Each IsLeftTyped ps) (sym g.is.same_pairs) (left-typed g.state.pairs g.goal.left_pairs)

pub defer_none : (th : Theorem) (g : IsGoalTheorem th) → g.state.subgoals ≡ [] → IsStep DeferStep th (λ rests. rests ≡ th.rests) (Err NoSubgoal)
defer_none th g none = (g.state, g.is, g.goal, DeferStep.no_subgoal none)

-- The first subgoal behind the others, where these are given by their parts.
pub defer_moved : (th : Theorem) (g : IsGoalTheorem th) (first rest : Term) → IsFirstPremise g.state.subgoals g.state.statement first rest → (moved : Term)
    → ((A : Term) (others : List Term) (C : Term) → first ≡ implied_by A → rest ≡ chain others (protect C) → moved ≡ chain (others ++ A ∷ []) (protect C))
    → (result : Result Goal StepFault) → IsConcluded th.pairs moved th.rests result → IsStep DeferStep th (λ rests. rests ≡ th.rests) result
defer_moved th g first rest p moved m result h = defer_answer th g p.premise p.others p.stand moved (m p.premise p.others g.state.statement p.applied p.behind) result h

-- What the calls derive.
pub prefer_derivable : (Q : Content) (th : Theorem) (n : ℕ) (result : Result Goal StepFault) → IsStep (λ s. PreferStep s n) th (λ rests. rests ≡ th.rests) result → IsTheoryContent Q → IsDerivable Q th → IfOk result (λ goal. IsDerivable Q goal.thm)
prefer_derivable Q th n result h q d =
    step_derivable Q (λ s. PreferStep s n) (λ rests. rests ≡ th.rests) th
    (λ s t rests sound f e. subst (λ (r : List Label). IsSound Q r t) (sym e) (preferred_is_sound Q q.content q.above_pure s t n th.rests sound f)) result h d

pub defer_derivable : (Q : Content) (th : Theorem) (result : Result Goal StepFault) → IsStep DeferStep th (λ rests. rests ≡ th.rests) result → IsTheoryContent Q → IsDerivable Q th → IfOk result (λ goal. IsDerivable Q goal.thm)
defer_derivable Q th result h q d =
    step_derivable Q DeferStep (λ rests. rests ≡ th.rests) th
    (λ s t rests sound f e. subst (λ (r : List Label). IsSound Q r t) (sym e) (deferred_is_sound Q q.content q.above_pure s t th.rests sound f)) result h d

in-left : (l : Label) (xs ys all : List Label) → IsSetOf label_cmp (xs ++ ys) all → IsIn l xs → IsIn l all
in-left l xs ys all s m = (s.members l).1 (in-append_left l xs ys m)

in-right : (l : Label) (xs ys all : List Label) → IsSetOf label_cmp (xs ++ ys) all → IsIn l ys → IsIn l all
in-right l xs ys all s m = (s.members l).1 (in-append_right l xs ys m)

pub convert_derivable : (Q : Content) (th equation : Theorem) → IsEquationFor th equation → (result : Result Goal StepFault) → IsStep (λ s. ConversionStep s equation) th (IsSetOf label_cmp (th.rests ++ equation.rests)) result
    → IsTheoryContent Q → IsDerivable Q th → IsDerivable Q equation → IfOk result (λ goal. IsDerivable Q goal.thm)
convert_derivable Q th equation e result h q d k =
    step_derivable Q (λ s. ConversionStep s equation) (IsSetOf label_cmp (th.rests ++ equation.rests)) th
    (λ s t rests sound f u. converted_is_sound Q q.content q.above_pure s t equation th.rests rests sound e.no_hyps e.no_pairs k
    (λ l m. in-left l th.rests equation.rests rests u m) (λ l m. in-right l th.rests equation.rests rests u m) f) result h d

-- The converted goal, which rests on what both rest on.
pub convert_united : (th equation : Theorem) (g : IsGoalTheorem th) (e : IsEquationFor th equation) (T : Typ) (l r : Term) → equation.prop ≡ eq T l r → (S : Term) → ComesTo r (Long S)
    → (made : Term) → ((A B : Term) → th.prop ≡ imp A B → made ≡ imp S B)
    → (result : Result Goal StepFault) → IsUnited th equation made result → IsStep (λ s. ConversionStep s equation) th (IsSetOf label_cmp (th.rests ++ equation.rests)) result
convert_united th equation g e T l r is S comes made m (Err Memory) h = (g.state, g.is, g.goal, tt)
convert_united th equation g e T l r is S comes made m result (rests, union, h) =
    let behind : Term = chain e.others (protect g.state.statement) in
    let stands : th.prop ≡ imp e.left behind = g.is.prop ∙ ap (λ (As : List Term). chain As (protect g.state.statement)) (equated-first th equation g e) in
    convert_answer th equation g e T l r is S comes made (m e.left behind stands) rests (IsSetOf label_cmp (th.rests ++ equation.rests)) union result h

-- Whether there is the subgoal that is asked for.
pub enough_more : (count rest all : ℕ) (b : Bool) → count ≢ 0 → all ≡ rest + 1 → MatchBool b (count - 1 ≤ rest) (rest < count - 1) → MatchBool b (count ≤ all) (all < count)
enough_more count rest all true some e h = omega (arith, some, e, h)
enough_more count rest all false some e h = omega (arith, some, e, h)

pub too_few : (As : List Term) (n : ℕ) (b : Bool) → MatchBool b (n ≤ length As) (length As < n) → b ≡ false → length As < n
too_few As n true h e = absurd (cc)
too_few As n false h e = h

pub enough : (As : List Term) (n : ℕ) (b : Bool) → MatchBool b (n ≤ length As) (length As < n) → b ≡ true → n ≢ 0 → n - 1 < length As
enough As n true h e some = omega (arith, h, some)
enough As n false h e some = absurd (cc)

-- The subgoal that is asked for, before the others.
pub prefer_moved : (th : Theorem) (g : IsGoalTheorem th) (prop : Term) → prop ≡ th.prop → (n : ℕ) (cut : IsCut g.state.subgoals (n - 1)) → n ≢ 0 → (moved : Term)
    → ((front : List Term) (A : Term) (others : List Term) (C : Term) → prop ≡ chain (front ++ A ∷ others) (protect C) → n - 1 ≡ length front → moved ≡ chain (A ∷ (front ++ others)) (protect C))
    → (result : Result Goal StepFault) → IsConcluded th.pairs moved th.rests result → IsStep (λ s. PreferStep s n) th (λ rests. rests ≡ th.rests) result
prefer_moved th g prop p n cut some moved m result h =
    let stands : prop ≡ chain (cut.before ++ cut.at ∷ cut.after) (protect g.state.statement) = p ∙ (g.is.prop ∙ ap (λ (As : List Term). chain As (protect g.state.statement)) cut.stands) in
    prefer_answer th g n (n - 1) (omega (arith, some)) cut moved (m cut.before cut.at cut.after g.state.statement stands cut.count) result h
