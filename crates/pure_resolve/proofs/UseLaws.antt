-- Steps by unification, from what their parts ensure.
use Rattle.std.proofs.Common.{◌≡◌, ◌≢◌, ℕ, zero, suc, ◌+◌, ◌-◌, ◌<◌, ◌≤◌, List, [], ◌∷◌, ◌++◌, map, length, take, drop, take_all, get_or, Result, Ok, Err, IfOk, refl, ap, sym, subst, ◌∙◌, arith}
use Rattle.pure_text.proofs.ListLaws.{in-append_left, in-append_right}
use Rattle.pure_definitions.specs.Names.{Label}
use Rattle.pure_definitions.specs.Types.Typ.{Typ, prop}
use Rattle.pure_definitions.specs.Types.Order.{Algebra}
use Rattle.pure_definitions.specs.Terms.Term.{Term}
use Rattle.pure_definitions.specs.Declarations.Decl.{algebra_of}
use Rattle.pure_logic.specs.Content.{Content, IsProposition}
use Rattle.pure_logic.specs.Derivable.{Theorem, IsDerivable}
use Rattle.pure_logic.proofs.PropositionLaws.{derivable_is_proposition}
use Rattle.pure_theorem.specs.Sets.{label_cmp, IsSetOf}
use Rattle.pure_theorem.specs.Shapes.{IsNoImplication}
use Rattle.pure_unify_definitions.specs.LongSides as sides
use Rattle.pure_unify_definitions.specs.LongSides.{Stop}
use Rattle.pure_unify_definitions.specs.Search as search
use Rattle.pure_unify_definitions.specs.Search.{Answer, Unified, Stopped, IsUnifyAnswer}
use Rattle.pure_unify_laws.specs.Condition.{IsUnifyContent}
use Rattle.pure_goal_step_laws.proofs.UnifyAnswers.SolveLaws.{unifier_solves}
use Rattle.pure_goal_steps.specs.Pairs.Smash.{theorem_index_above}
use Rattle.pure_goal_laws.specs.Prefix as prefix
use Rattle.pure_goal_laws.specs.Prefix.{behind}
use Rattle.pure_goal_steps.specs.State.{State, IsTheoremOf, greatest_index}
use Rattle.pure_goal_steps.specs.Reading.{IsRead, IsRuleOf, Place, places, around}
use Rattle.pure_goal_steps.specs.Follows.{Outcome, Attempt, unified_pairs, Follows, Becomes, halted, large, small, stop_fault, FollowsBy, FollowsByFirst, none, passed, decided}
use Rattle.pure_goal_steps.specs.Steps.{IsFirst, indexed, elimination_attempt, destruction_attempt, assumption_attempt, RuleStep, EliminationStep, DestructionStep, AssumptionStep}
use Rattle.pure_goal_steps.specs.Derivability.{IsSound}
use Rattle.pure_goal_steps.specs.declared.fault.StepFault.{StepFault}
use Rattle.pure_goal_steps.specs.declared.fault.StepFault.TheVariants as fault
use Rattle.pure_goal_step_laws.specs.Laws.{IsUsed}
use Rattle.pure_goal_step_laws.proofs.UnifiedLaws.{rule_is_sound, assumption_is_sound, elimination_is_sound, destruction_is_sound}
use Rattle.pure_goal_rules.specs.Rules.{IsFactProposition}
use Rattle.pure_goal_rules.specs.Shown.{seen, shown}
use Rattle.pure_goal_rules.specs.declared.item.Item.{Item}
use Rattle.pure_resolve.specs.Goals.{IsGoalTheorem, IsOutcome, IsStep}
use Rattle.pure_resolve.specs.Settled.{HasFirst, MayAttempt}
use Rattle.pure_resolve.specs.Uses.{MayStep, MayUse, IsFirstSubgoal, IsResolver, IsRuleAttempt, IsFactAttempt, places_from}
use Rattle.pure_resolve.specs.declared.state.Goal.{Goal}
use Rattle.pure_resolve.specs.declared.resolve.Resolver.{Resolver}
use Rattle.pure_resolve.specs.declared.resolve.Trying.{Trying}
use Rattle.pure_goal_rules.specs.declared.read.Parts.{Parts}
use Rattle.pure_goal_rules.specs.Attempts.{seen_attempt}
use Rattle.pure_resolve.proofs.ChainLaws.{no-premise, first-premise}
use Rattle.pure_resolve.proofs.AnswerLaws.{outcome_map, step_derivable}
use Rattle.pure_resolve.proofs.TypedLaws.{first-of, has_first, assumption_typed, rule_typed, elimination_typed, destruction_typed}

-- The goal's first subgoal, and the others.
pub record IsBefore (s : State) (A : Term) : Type 0 where
  pub others : List Term
  pub stand : s.subgoals ≡ A ∷ others

pub before_others : (goal : Theorem) (g : IsGoalTheorem goal) (A : Term) → IsFirstSubgoal goal A → IsBefore g.state A
before_others goal g A (B, e) = let first = first-premise goal.prop A B g.state.subgoals g.state.statement e g.is.prop in record { others = first.rest; stand = first.is }

pub no_first : (goal : Theorem) (g : IsGoalTheorem goal) → IsNoImplication goal.prop → g.state.subgoals ≡ []
no_first goal g n = no-premise goal.prop g.state.subgoals g.state.statement n g.is.prop

pub first_of_goal : (Q : Content) (goal : Theorem) (m : MayStep Q goal) (A : Term) → IsFirstSubgoal goal A → HasFirst goal
first_of_goal Q goal m A f = let b = before_others goal m.is A f in has_first Q goal m A b.others b.stand

read-proposition : (Q : Content) (goal : Theorem) (m : MayStep Q goal) (A : Term) → IsFirstSubgoal goal A → (ps : List prefix.Item) (C : Term) → IsRead A ps C → IsProposition Q (behind ps C)
read-proposition Q goal m A f ps C r =
    let b = before_others goal m.is A f in
    subst (IsProposition Q) r.stands (first-of Q goal m A b.others b.stand).0

is-first : (s : State) (A : Term) (ps : List prefix.Item) (C : Term) (b : IsBefore s A) → IsRead A ps C → IsFirst s ps C b.others
is-first s A ps C b r = record { subgoal = A; stand = b.stand; read = r }

-- A fact that may be used as a rule.
pub fact_proposition : (Q : Content) (goal fact : Theorem) → MayUse Q goal fact → IsFactProposition fact.prop
fact_proposition Q goal fact m =
    let is = derivable_is_proposition Q m.step.content.content m.step.content.above_pure fact m.derivable in
    record { typ = prop; typed = is.typed; normal = m.normal }

-- The indexes of a goal are those of its state.
pub same_index : (s : State) (goal : Theorem) → IsTheoremOf s goal → greatest_index goal ≡ greatest_index (indexed s)
same_index s goal is = λ i. theorem_index_above (record { hyps = is.hyps i; pairs = is.same_pairs i; prop = is.prop i; rests = [] }) - 1

-- Resolution.
pub fact_attempt : (s fact : Theorem) (parts : Parts) (r : Resolver) → IsResolver s fact r → (t : Trying) → IsRuleAttempt parts r t → IsFactAttempt s fact parts t
fact_attempt s fact parts r is t a = record { premises = r.rule.premises.items; conclusion = r.rule.conclusion; rule = is.rule; attempt = a.attempt; maxidx = a.maxidx ∙ is.maxidx }

pub resolved_may : (Q : Content) (goal fact : Theorem) (m : MayUse Q goal fact) (A : Term) → IsFirstSubgoal goal A → (parts : Parts) → IsRead A (shown parts.prefix.items) parts.conclusion.now → (s : Theorem) (t : Trying) → IsFactAttempt s fact parts t → MayAttempt goal (seen_attempt t.attempt)
resolved_may Q goal fact m A f parts read s t is =
    subst (MayAttempt goal) (sym is.attempt)
    (rule_typed Q goal fact m s is.premises is.conclusion is.rule (shown parts.prefix.items) parts.conclusion.now (read-proposition Q goal m.step A f (shown parts.prefix.items) parts.conclusion.now read))

pub resolved_answer : (A : Algebra) (goal fact : Theorem) (g : IsGoalTheorem goal) (t : Term) → IsFirstSubgoal goal t → (parts : Parts) → IsRead t (shown parts.prefix.items) parts.conclusion.now → (k : Trying) → IsFactAttempt (indexed g.state) fact parts k
    → (rests : List Label) → IsSetOf label_cmp (goal.rests ++ fact.rests) rests → (result : Result Goal StepFault)
    → ((s : State) (first : Term) (others : List Term) → IsTheoremOf s goal → s.subgoals ≡ first ∷ others → IsOutcome (FollowsBy A k.maxidx s others (seen_attempt k.attempt)) (λ all. all ≡ rests) result)
    → IsStep (λ s. RuleStep A s fact) goal (IsSetOf label_cmp (goal.rests ++ fact.rests)) result
resolved_answer A goal fact g t f parts read k is rests union result h =
    let b = before_others goal g t f in (
      g.state,
      g.is,
      g.goal,
      outcome_map (FollowsBy A k.maxidx g.state b.others (seen_attempt k.attempt)) (RuleStep A g.state fact) (λ all. all ≡ rests) (IsSetOf label_cmp (goal.rests ++ fact.rests))
          (λ outcome j. RuleStep.tried (is-first g.state t (shown parts.prefix.items) parts.conclusion.now b read) is.rule
          (subst (λ (n : ℕ × Attempt). FollowsBy A n.0 g.state b.others n.1 outcome) (λ i. (is.maxidx i, is.attempt i)) j))
          (λ all d. subst (IsSetOf label_cmp (goal.rests ++ fact.rests)) (sym d) union) result (h g.state t b.others g.is b.stand),
    )

pub rule_none : (A : Algebra) (goal fact : Theorem) (g : IsGoalTheorem goal) → IsNoImplication goal.prop → (R : List Label → Type 0) → IsStep (λ s. RuleStep A s fact) goal R (Err fault.NoSubgoal)
rule_none A goal fact g n R = (g.state, g.is, g.goal, RuleStep.no_subgoal (no_first goal g n))

used-by : (Q : Content) (goal fact : Theorem) → MayUse Q goal fact → (rests : List Label) → IsSetOf label_cmp (goal.rests ++ fact.rests) rests → IsUsed Q fact goal.rests rests
used-by Q goal fact m rests u = record {
  no_hyps = m.no_hyps;
  no_pairs = m.no_pairs;
  derivable = m.derivable;
  goal_rests = λ l i. (u.members l).1 (in-append_left l goal.rests fact.rests i);
  fact_rests = λ l i. (u.members l).1 (in-append_right l goal.rests fact.rests i);
}

pub rule_derivable : (Q : Content) (goal fact : Theorem) → MayUse Q goal fact → IsUnifyContent Q → (result : Result Goal StepFault) → IsStep (λ s. RuleStep (algebra_of Q.declarations) s fact) goal (IsSetOf label_cmp (goal.rests ++ fact.rests)) result → IfOk result (λ new. IsDerivable Q new.thm)
rule_derivable Q goal fact m k result h =
    step_derivable Q (λ s. RuleStep (algebra_of Q.declarations) s fact) (IsSetOf label_cmp (goal.rests ++ fact.rests)) goal
    (λ s t rests sound f u. rule_is_sound Q k unifier_solves s t fact goal.rests rests sound (used-by Q goal fact m rests u) f) result h m.step.derivable

-- Attempts from a place on.
record Cut (items : List Item) (from : ℕ) (item : Item) : Type 0 where
  left : drop from items ≡ item ∷ drop (from + 1) items
  passed : take (from + 1) items ≡ take from items ++ item ∷ []
  whole : items ≡ take from items ++ item ∷ drop (from + 1) items

cut : (items : List Item) (from : ℕ) (item : Item) → from < length items → item ≡ get_or items from item → Cut items from item
cut [] from item l e = absurd (omega arith)
cut (x ∷ xs) zero item l e = record { left = ap (λ (y : Item). y ∷ xs) (sym e); passed = ap (λ (y : Item). y ∷ []) (sym e); whole = ap (λ (y : Item). y ∷ xs) (sym e) }
cut (x ∷ xs) (suc from) item l e =
    let inner = cut xs from item (omega arith) e in
    let next : suc from + 1 ≡ suc (from + 1) = omega arith in
    record {
      left = rw next inner.left;
      passed = rw next (ap (λ (ys : List Item). x ∷ ys) inner.passed);
      whole = rw next (ap (λ (ys : List Item). x ∷ ys) inner.whole);
    }

shown-append : (xs ys : List Item) → shown (xs ++ ys) ≡ shown xs ++ shown ys
shown-append [] ys = refl
shown-append (x ∷ xs) ys = ap (λ (ps : List prefix.Item). seen x ∷ ps) (shown-append xs ys)

ended : (items : List Item) (from : ℕ) → length items ≤ from → drop from items ≡ []
ended [] zero l = refl
ended [] (suc from) l = refl
ended (x ∷ xs) zero l = absurd (omega arith)
ended (x ∷ xs) (suc from) l = ended xs from (omega arith)

pub no_places : (items : List Item) (from : ℕ) → length items ≤ from → places_from items from ≡ []
no_places items from l = ap (λ (xs : List Item). places (shown (take from items)) (shown xs)) (ended items from l)

pub places_past : (items : List Item) (from : ℕ) (item : Item) (T : Typ) → from < length items → item ≡ get_or items from item → seen item ≡ prefix.Parameter T → places_from items from ≡ places_from items (from + 1)
places_past items from item T l e is =
    let c = cut items from item l e in
    let here : shown (drop from items) ≡ prefix.Parameter T ∷ shown (drop (from + 1) items) = ap shown c.left ∙ ap (λ (p : prefix.Item). p ∷ shown (drop (from + 1) items)) is in
    let more : shown (take (from + 1) items) ≡ shown (take from items) ++ prefix.Parameter T ∷ [] = ap shown c.passed ∙ (shown-append (take from items) (item ∷ []) ∙ ap (λ (p : prefix.Item). shown (take from items) ++ p ∷ []) is) in
    ap (places (shown (take from items))) here ∙ ap (λ (ps : List prefix.Item). places ps (shown (drop (from + 1) items))) (sym more)

-- the hypothesis at a place of the list
abbrev pub place_in : List Item → ℕ → Term → Place
place_in items from H = record { before = shown (take from items); hypothesis = H; after = shown (drop (from + 1) items) }

pub places_at : (items : List Item) (from : ℕ) (item : Item) (H : Term) → from < length items → item ≡ get_or items from item → seen item ≡ prefix.Hypothesis H → places_from items from ≡ place_in items from H ∷ places_from items (from + 1)
places_at items from item H l e is =
    let c = cut items from item l e in
    let here : shown (drop from items) ≡ prefix.Hypothesis H ∷ shown (drop (from + 1) items) = ap shown c.left ∙ ap (λ (p : prefix.Item). p ∷ shown (drop (from + 1) items)) is in
    let more : shown (take (from + 1) items) ≡ shown (take from items) ++ prefix.Hypothesis H ∷ [] = ap shown c.passed ∙ (shown-append (take from items) (item ∷ []) ∙ ap (λ (p : prefix.Item). shown (take from items) ++ p ∷ []) is) in
    ap (places (shown (take from items))) here ∙ ap (λ (ps : List prefix.Item). place_in items from H ∷ places ps (shown (drop (from + 1) items))) (sym more)

pub stands_around : (items : List Item) (from : ℕ) (item : Item) (H : Term) → from < length items → item ≡ get_or items from item → seen item ≡ prefix.Hypothesis H → shown items ≡ around (place_in items from H)
stands_around items from item H l e is =
    let c = cut items from item l e in
    ap shown c.whole ∙ (shown-append (take from items) (item ∷ drop (from + 1) items) ∙ ap (λ (p : prefix.Item). shown (take from items) ++ p ∷ shown (drop (from + 1) items)) is)

-- What follows from the first that serves.
no-stop : (s : Stop) → ◌≡◌ {A = Outcome} (Err fault.NoUnifier) (Err (stop_fault s)) → ⊥
no-stop sides.Steps e = absurd (cc)
no-stop sides.Big e = absurd (cc)

becomes-other : (made : State) (outcome : Outcome) → Becomes made outcome → Err fault.NoUnifier ≡ outcome → ⊥
becomes-other made outcome (halted {s = s} c) e = no-stop s e
becomes-other made outcome (large c w) e = absurd (cc)
becomes-other made outcome (small c w) e = absurd (cc)

no-becomes : (made : State) → Becomes made (Err fault.NoUnifier) → ⊥
no-becomes made b = becomes-other made (Err fault.NoUnifier) b refl

no-unifier : (A : Algebra) (maxidx : ℕ) (s : State) (others : List Term) (a : Attempt) (answer : Answer) → IsUnifyAnswer A maxidx (unified_pairs s a) answer → Follows s others a answer (Err fault.NoUnifier) → IsUnifyAnswer A maxidx (unified_pairs s a) search.NoUnifier
no-unifier A maxidx s others a (Unified u) is f = absurd (no-becomes _ f)
no-unifier A maxidx s others a search.NoUnifier is f = is
no-unifier A maxidx s others a search.SearchBound is f = absurd (cc)
no-unifier A maxidx s others a (Stopped stop) is f = absurd (no-stop stop f)

module _ (A : Algebra) (maxidx : ℕ) (s : State) (others : List Term) (a : Attempt) (rest : List Attempt) (R : List Label → Type 0) where
  pub passed_on : IsOutcome (FollowsBy A maxidx s others a) R (Err fault.NoUnifier) → (result : Result Goal StepFault) → IsOutcome (FollowsByFirst A maxidx s others rest) R result → IsOutcome (FollowsByFirst A maxidx s others (a ∷ rest)) R result
  passed_on f result h =
      outcome_map (FollowsByFirst A maxidx s others rest) (FollowsByFirst A maxidx s others (a ∷ rest)) R R
      (λ outcome g. passed (no-unifier A maxidx s others a f.answer f.unified f.follows) g) (λ all r. r) result h

  first-decides : (outcome : Outcome) → outcome ≢ Err fault.NoUnifier → FollowsBy A maxidx s others a outcome → FollowsByFirst A maxidx s others (a ∷ rest) outcome
  first-decides outcome n f = decided f.unified (λ e. n (subst (λ (answer : Answer). Follows s others a answer outcome) e f.follows)) f.follows

  pub decided_by : (result : Result Goal StepFault) → result ≢ Err fault.NoUnifier → IsOutcome (FollowsBy A maxidx s others a) R result → IsOutcome (FollowsByFirst A maxidx s others (a ∷ rest)) R result
  decided_by (Ok goal) n (t, f, is, kept, r) = (t, first-decides (Ok t) (λ e. absurd (cc)) f, is, kept, r)
  decided_by (Err fault.Memory) n h = tt
  decided_by (Err fault.NoUnifier) n h = absurd (n refl)
  decided_by (Err fault.Big) n h = first-decides (Err fault.Big) (λ e. absurd (cc)) h
  decided_by (Err fault.Steps) n h = first-decides (Err fault.Steps) (λ e. absurd (cc)) h
  decided_by (Err fault.SearchBound) n h = first-decides (Err fault.SearchBound) (λ e. absurd (cc)) h
  decided_by (Err fault.UnknownFact) n h = first-decides (Err fault.UnknownFact) (λ e. absurd (cc)) h
  decided_by (Err fault.NoSubgoal) n h = first-decides (Err fault.NoSubgoal) (λ e. absurd (cc)) h
  decided_by (Err fault.NoPremise) n h = first-decides (Err fault.NoPremise) (λ e. absurd (cc)) h
  decided_by (Err fault.NotDefinition) n h = first-decides (Err fault.NotDefinition) (λ e. absurd (cc)) h
  decided_by (Err fault.NothingToUnfold) n h = first-decides (Err fault.NothingToUnfold) (λ e. absurd (cc)) h
  decided_by (Err fault.NoHypothesis) n h = first-decides (Err fault.NoHypothesis) (λ e. absurd (cc)) h
  decided_by (Err fault.SubgoalsLeft) n h = first-decides (Err fault.SubgoalsLeft) (λ e. absurd (cc)) h

-- The attempts from a place on.
pub from_along : (A : Algebra) (maxidx : ℕ) (s : State) (others : List Term) (R : List Label → Type 0) (attempt : Place → Attempt) (here there : List Place) → here ≡ there → (result : Result Goal StepFault)
    → IsOutcome (FollowsByFirst A maxidx s others (map attempt there)) R result → IsOutcome (FollowsByFirst A maxidx s others (map attempt here)) R result
from_along A maxidx s others R attempt here there e result h = subst (λ (ps : List Place). IsOutcome (FollowsByFirst A maxidx s others (map attempt ps)) R result) (sym e) h

pub from_none : (A : Algebra) (maxidx : ℕ) (s : State) (others : List Term) (R : List Label → Type 0) (attempt : Place → Attempt) (here : List Place) → here ≡ [] → IsOutcome (FollowsByFirst A maxidx s others (map attempt here)) R (Err fault.NoHypothesis)
from_none A maxidx s others R attempt here e = from_along A maxidx s others R attempt here [] e (Err fault.NoHypothesis) none

-- One place after the other.
rest-taken : (items : List Item) (n : ℕ) → take (length items - n) (drop n items) ≡ drop n items
rest-taken [] zero = refl
rest-taken [] (suc n) = take_all (length {A = Item} [] - suc n) [] (omega arith)
rest-taken (x ∷ xs) zero = take_all (length (x ∷ xs) - 0) (x ∷ xs) (omega arith)
rest-taken (x ∷ xs) (suc n) = let e : length (x ∷ xs) - suc n ≡ length xs - n = omega arith in rw e (rest-taken xs n)

-- the same place, with slices of the list
abbrev pub spot_in : List Item → ℕ → Term → Place
spot_in items from H = record { before = shown (take from items); hypothesis = H; after = shown (take (length items - (from + 1)) (drop (from + 1) items)) }

pub spot_same : (items : List Item) (from : ℕ) (H : Term) → spot_in items from H ≡ place_in items from H
spot_same items from H = ap (λ (after : List Item). record { before = shown (take from items); hypothesis = H; after = shown after }) (rest-taken items (from + 1))

pub spot_stands : (items : List Item) (from : ℕ) (item : Item) (H : Term) → from < length items → item ≡ get_or items from item → seen item ≡ prefix.Hypothesis H → (p : Place) → p ≡ place_in items from H → shown items ≡ around p
spot_stands items from item H l e is p same = stands_around items from item H l e is ∙ ap around (sym same)

module _ (A : Algebra) (maxidx : ℕ) (s : State) (others : List Term) (R : List Label → Type 0) (attempt : Place → Attempt) (items : List Item) (from : ℕ) where
  pub past_all : length items ≤ from → IsOutcome (FollowsByFirst A maxidx s others (map attempt (places_from items from))) R (Err fault.NoHypothesis)
  past_all l = from_none A maxidx s others R attempt (places_from items from) (no_places items from l)

  pub past_parameter : (item : Item) (T : Typ) → from < length items → item ≡ get_or items from item → seen item ≡ prefix.Parameter T → (result : Result Goal StepFault) → IsOutcome (FollowsByFirst A maxidx s others (map attempt (places_from items (from + 1)))) R result
      → IsOutcome (FollowsByFirst A maxidx s others (map attempt (places_from items from))) R result
  past_parameter item T l e is result h = from_along A maxidx s others R attempt (places_from items from) (places_from items (from + 1)) (places_past items from item T l e is) result h

  pub past_hypothesis : (item : Item) (H : Term) → from < length items → item ≡ get_or items from item → seen item ≡ prefix.Hypothesis H → (p : Place) → p ≡ place_in items from H → IsOutcome (FollowsBy A maxidx s others (attempt p)) R (Err fault.NoUnifier) → (result : Result Goal StepFault)
      → IsOutcome (FollowsByFirst A maxidx s others (map attempt (places_from items (from + 1)))) R result → IsOutcome (FollowsByFirst A maxidx s others (map attempt (places_from items from))) R result
  past_hypothesis item H l e is p same f result h =
      from_along A maxidx s others R attempt (places_from items from) (place_in items from H ∷ places_from items (from + 1)) (places_at items from item H l e is) result
      (passed_on A maxidx s others (attempt (place_in items from H)) (map attempt (places_from items (from + 1))) R (subst (λ (q : Place). IsOutcome (FollowsBy A maxidx s others (attempt q)) R (Err fault.NoUnifier)) same f) result h)

  pub at_hypothesis : (item : Item) (H : Term) → from < length items → item ≡ get_or items from item → seen item ≡ prefix.Hypothesis H → (p : Place) → p ≡ place_in items from H → (result : Result Goal StepFault) → result ≢ Err fault.NoUnifier
      → IsOutcome (FollowsBy A maxidx s others (attempt p)) R result → IsOutcome (FollowsByFirst A maxidx s others (map attempt (places_from items from))) R result
  at_hypothesis item H l e is p same result n f =
      from_along A maxidx s others R attempt (places_from items from) (place_in items from H ∷ places_from items (from + 1)) (places_at items from item H l e is) result
      (decided_by A maxidx s others (attempt (place_in items from H)) (map attempt (places_from items (from + 1))) R result n (subst (λ (q : Place). IsOutcome (FollowsBy A maxidx s others (attempt q)) R result) same f))

pub start_places : (items : List Item) → places_from items 0 ≡ places [] (shown items)
start_places [] = refl
start_places (x ∷ xs) = refl

pub rests_along : (F : Outcome → Type 0) (here there : List Label) → here ≡ there → (result : Result Goal StepFault) → IsOutcome F (λ all. all ≡ here) result → IsOutcome F (λ all. all ≡ there) result
rests_along F here there e result h = subst (λ (rests : List Label). IsOutcome F (λ all. all ≡ rests) result) e h

heads-same : (P Q : Term) (As Bs : List Term) → P ∷ As ≡ Q ∷ Bs → P ≡ Q
heads-same P Q As Bs e = cc

tails-same : (P Q : Term) (As Bs : List Term) → P ∷ As ≡ Q ∷ Bs → As ≡ Bs
tails-same P Q As Bs e = cc

-- The same attempts, with the first premise and the others, and the items, named otherwise.
pub tried_with : (A : Algebra) (maxidx : ℕ) (s : State) (others : List Term) (R : List Label → Type 0) (attempt : Term → List Term → Place → Attempt) (here there : List Item) → here ≡ there → (all : List Term) (P Q : Term) (As Bs : List Term) → all ≡ P ∷ As → all ≡ Q ∷ Bs
    → (result : Result Goal StepFault) → IsOutcome (FollowsByFirst A maxidx s others (map (attempt Q Bs) (places_from here 0))) R result → IsOutcome (FollowsByFirst A maxidx s others (map (attempt P As) (places_from there 0))) R result
tried_with A maxidx s others R attempt here there e all P Q As Bs d f result h =
    let whole : Q ∷ Bs ≡ P ∷ As = sym f ∙ d in
    subst (λ (k : (Term × List Term) × List Item). IsOutcome (FollowsByFirst A maxidx s others (map (attempt k.0.0 k.0.1) (places_from k.1 0))) R result) (λ i. ((heads-same Q P Bs As whole i, tails-same Q P Bs As whole i), e i)) h

pub made_other : (goal : Goal) → ◌≡◌ {A = Result Goal StepFault} (Ok goal) (Err fault.NoUnifier) → ⊥
made_other goal e = absurd (cc)

pub fault_other : (f : StepFault) → f ≢ fault.NoUnifier → ◌≡◌ {A = Result Goal StepFault} (Err f) (Err fault.NoUnifier) → ⊥
fault_other f n e = n (cc)

-- Assumption.
pub assumed_may : (Q : Content) (goal : Theorem) (m : MayStep Q goal) (A : Term) → IsFirstSubgoal goal A → (ps : List prefix.Item) (C : Term) → IsRead A ps C → (p : Place) → ps ≡ around p → MayAttempt goal (assumption_attempt C p)
assumed_may Q goal m A f ps C read p e = assumption_typed Q goal m C p (subst (λ (qs : List prefix.Item). IsProposition Q (behind qs C)) e (read-proposition Q goal m A f ps C read))

pub assumed_answer : (A : Algebra) (goal : Theorem) (g : IsGoalTheorem goal) (t : Term) → IsFirstSubgoal goal t → (items : List Item) (C : Term) → IsRead t (shown items) C → (maxidx : ℕ) → maxidx ≡ greatest_index goal → (result : Result Goal StepFault)
    → ((s : State) (first : Term) (others : List Term) → IsTheoremOf s goal → s.subgoals ≡ first ∷ others → IsOutcome (FollowsByFirst A maxidx s others (map (assumption_attempt C) (places_from items 0))) (λ all. all ≡ goal.rests) result)
    → IsStep (AssumptionStep A) goal (λ all. all ≡ goal.rests) result
assumed_answer A goal g t f items C read maxidx m result h =
    let b = before_others goal g t f in
    let top : maxidx ≡ greatest_index (indexed g.state) = m ∙ same_index g.state goal g.is in (
      g.state,
      g.is,
      g.goal,
      outcome_map (FollowsByFirst A maxidx g.state b.others (map (assumption_attempt C) (places_from items 0))) (AssumptionStep A g.state) (λ all. all ≡ goal.rests) (λ all. all ≡ goal.rests)
          (λ outcome k. AssumptionStep.tried (is-first g.state t (shown items) C b read)
          (subst (λ (n : ℕ × List Place). FollowsByFirst A n.0 g.state b.others (map (assumption_attempt C) n.1) outcome) (λ i. (top i, start_places items i)) k)) (λ all r. r) result (h g.state t b.others g.is b.stand),
    )

pub assumption_none : (A : Algebra) (goal : Theorem) (g : IsGoalTheorem goal) → IsNoImplication goal.prop → (R : List Label → Type 0) → IsStep (AssumptionStep A) goal R (Err fault.NoSubgoal)
assumption_none A goal g n R = (g.state, g.is, g.goal, AssumptionStep.no_subgoal (no_first goal g n))

pub assumption_derivable : (Q : Content) (goal : Theorem) → MayStep Q goal → IsUnifyContent Q → (result : Result Goal StepFault) → IsStep (AssumptionStep (algebra_of Q.declarations)) goal (λ all. all ≡ goal.rests) result → IfOk result (λ new. IsDerivable Q new.thm)
assumption_derivable Q goal m k result h =
    step_derivable Q (AssumptionStep (algebra_of Q.declarations)) (λ all. all ≡ goal.rests) goal
    (λ s t rests sound f e. subst (λ (r : List Label). IsSound Q r t) (sym e) (assumption_is_sound Q k unifier_solves s t goal.rests sound f)) result h m.derivable

-- Elimination and destruction.
rule-with : (s fact : Theorem) (r : Resolver) → IsResolver s fact r → (P : Term) (As : List Term) → r.rule.premises.items ≡ P ∷ As → IsRuleOf s fact (P ∷ As) r.rule.conclusion
rule-with s fact r is P As e = subst (λ (Bs : List Term). IsRuleOf s fact Bs r.rule.conclusion) e is.rule

module _ (Q : Content) (goal fact : Theorem) (m : MayUse Q goal fact) (A : Term) (f : IsFirstSubgoal goal A) (ps : List prefix.Item) (C : Term) (read : IsRead A ps C) (s : Theorem) (r : Resolver) (is : IsResolver s fact r) (P : Term) (As : List Term) (e : r.rule.premises.items ≡ P ∷ As) where
  pub eliminated_may : (p : Place) → ps ≡ around p → MayAttempt goal (elimination_attempt C P As r.rule.conclusion p)
  eliminated_may p d =
      elimination_typed Q goal fact m s P As r.rule.conclusion (rule-with s fact r is P As e) C p (subst (λ (qs : List prefix.Item). IsProposition Q (behind qs C)) d (read-proposition Q goal m.step A f ps C read))

  pub destructed_may : (p : Place) → ps ≡ around p → MayAttempt goal (destruction_attempt C P As r.rule.conclusion p)
  destructed_may p d =
      destruction_typed Q goal fact m s P As r.rule.conclusion (rule-with s fact r is P As e) C p (subst (λ (qs : List prefix.Item). IsProposition Q (behind qs C)) d (read-proposition Q goal m.step A f ps C read))

module _ (A : Algebra) (goal fact : Theorem) (g : IsGoalTheorem goal) (t : Term) (f : IsFirstSubgoal goal t) (items : List Item) (C : Term) (read : IsRead t (shown items) C) (r : Resolver) (is : IsResolver (indexed g.state) fact r) where
  abbrev Union : List Label → Type 0
  Union = IsSetOf label_cmp (goal.rests ++ fact.rests)

  pub elimination_no_premise : r.rule.premises.items ≡ [] → IsStep (λ s. EliminationStep A s fact) goal Union (Err fault.NoPremise)
  elimination_no_premise e =
      let b = before_others goal g t f in
      (g.state, g.is, g.goal, EliminationStep.no_premise (is-first g.state t (shown items) C b read) (subst (λ (Bs : List Term). IsRuleOf (indexed g.state) fact Bs r.rule.conclusion) e is.rule))

  pub destruction_no_premise : r.rule.premises.items ≡ [] → IsStep (λ s. DestructionStep A s fact) goal Union (Err fault.NoPremise)
  destruction_no_premise e =
      let b = before_others goal g t f in
      (g.state, g.is, g.goal, DestructionStep.no_premise (is-first g.state t (shown items) C b read) (subst (λ (Bs : List Term). IsRuleOf (indexed g.state) fact Bs r.rule.conclusion) e is.rule))

  module _ (P : Term) (As : List Term) (e : r.rule.premises.items ≡ P ∷ As) (rests : List Label) (union : Union rests) (result : Result Goal StepFault) where
    pub eliminated_answer : ((s : State) (first : Term) (others : List Term) → IsTheoremOf s goal → s.subgoals ≡ first ∷ others
        → IsOutcome (FollowsByFirst A r.maxidx s others (map (elimination_attempt C P As r.rule.conclusion) (places_from items 0))) (λ all. all ≡ rests) result) → IsStep (λ s. EliminationStep A s fact) goal Union result
    eliminated_answer h =
        let b = before_others goal g t f in (
          g.state,
          g.is,
          g.goal,
          outcome_map (FollowsByFirst A r.maxidx g.state b.others (map (elimination_attempt C P As r.rule.conclusion) (places_from items 0))) (EliminationStep A g.state fact) (λ all. all ≡ rests) Union
              (λ outcome k. EliminationStep.tried (is-first g.state t (shown items) C b read) (rule-with (indexed g.state) fact r is P As e)
              (subst (λ (n : ℕ × List Place). FollowsByFirst A n.0 g.state b.others (map (elimination_attempt C P As r.rule.conclusion) n.1) outcome) (λ i. (is.maxidx i, start_places items i)) k))
              (λ all d. subst Union (sym d) union) result (h g.state t b.others g.is b.stand),
        )

    pub destructed_answer : ((s : State) (first : Term) (others : List Term) → IsTheoremOf s goal → s.subgoals ≡ first ∷ others
        → IsOutcome (FollowsByFirst A r.maxidx s others (map (destruction_attempt C P As r.rule.conclusion) (places_from items 0))) (λ all. all ≡ rests) result) → IsStep (λ s. DestructionStep A s fact) goal Union result
    destructed_answer h =
        let b = before_others goal g t f in (
          g.state,
          g.is,
          g.goal,
          outcome_map (FollowsByFirst A r.maxidx g.state b.others (map (destruction_attempt C P As r.rule.conclusion) (places_from items 0))) (DestructionStep A g.state fact) (λ all. all ≡ rests) Union
              (λ outcome k. DestructionStep.tried (is-first g.state t (shown items) C b read) (rule-with (indexed g.state) fact r is P As e)
              (subst (λ (n : ℕ × List Place). FollowsByFirst A n.0 g.state b.others (map (destruction_attempt C P As r.rule.conclusion) n.1) outcome) (λ i. (is.maxidx i, start_places items i)) k))
              (λ all d. subst Union (sym d) union) result (h g.state t b.others g.is b.stand),
        )

module _ (A : Algebra) (goal fact : Theorem) (g : IsGoalTheorem goal) (t : Term) (f : IsFirstSubgoal goal t) (parts : Parts) (read : IsRead t (shown parts.prefix.items) parts.conclusion.now) (r : Resolver) (is : IsResolver (indexed g.state) fact r) (rests : List Label) (union : IsSetOf label_cmp (goal.rests ++ fact.rests) rests) (result : Result Goal StepFault) where
  pub eliminated_all : (r.rule.premises.items ≡ [] → result ≡ Err fault.NoPremise) → ((P : Term) (As : List Term) → r.rule.premises.items ≡ P ∷ As → (s : State) (first : Term) (others : List Term) → IsTheoremOf s goal → s.subgoals ≡ first ∷ others
      → IsOutcome (FollowsByFirst A r.maxidx s others (map (elimination_attempt parts.conclusion.now P As r.rule.conclusion) (places_from parts.prefix.items 0))) (λ all. all ≡ rests) result)
      → IsStep (λ s. EliminationStep A s fact) goal (IsSetOf label_cmp (goal.rests ++ fact.rests)) result
  eliminated_all empty some = by r.rule.premises.items refl
    where
      by : (Bs : List Term) → r.rule.premises.items ≡ Bs → IsStep (λ s. EliminationStep A s fact) goal (IsSetOf label_cmp (goal.rests ++ fact.rests)) result
      by [] e = subst (λ (out : Result Goal StepFault). IsStep (λ s. EliminationStep A s fact) goal (IsSetOf label_cmp (goal.rests ++ fact.rests)) out) (sym (empty e)) (elimination_no_premise A goal fact g t f parts.prefix.items parts.conclusion.now read r is e)
      by (P ∷ As) e = eliminated_answer A goal fact g t f parts.prefix.items parts.conclusion.now read r is P As e rests union result (some P As e)

  pub destructed_all : (r.rule.premises.items ≡ [] → result ≡ Err fault.NoPremise) → ((P : Term) (As : List Term) → r.rule.premises.items ≡ P ∷ As → (s : State) (first : Term) (others : List Term) → IsTheoremOf s goal → s.subgoals ≡ first ∷ others
      → IsOutcome (FollowsByFirst A r.maxidx s others (map (destruction_attempt parts.conclusion.now P As r.rule.conclusion) (places_from parts.prefix.items 0))) (λ all. all ≡ rests) result)
      → IsStep (λ s. DestructionStep A s fact) goal (IsSetOf label_cmp (goal.rests ++ fact.rests)) result
  destructed_all empty some = by r.rule.premises.items refl
    where
      by : (Bs : List Term) → r.rule.premises.items ≡ Bs → IsStep (λ s. DestructionStep A s fact) goal (IsSetOf label_cmp (goal.rests ++ fact.rests)) result
      by [] e = subst (λ (out : Result Goal StepFault). IsStep (λ s. DestructionStep A s fact) goal (IsSetOf label_cmp (goal.rests ++ fact.rests)) out) (sym (empty e)) (destruction_no_premise A goal fact g t f parts.prefix.items parts.conclusion.now read r is e)
      by (P ∷ As) e = destructed_answer A goal fact g t f parts.prefix.items parts.conclusion.now read r is P As e rests union result (some P As e)

pub elimination_none : (A : Algebra) (goal fact : Theorem) (g : IsGoalTheorem goal) → IsNoImplication goal.prop → (R : List Label → Type 0) → IsStep (λ s. EliminationStep A s fact) goal R (Err fault.NoSubgoal)
elimination_none A goal fact g n R = (g.state, g.is, g.goal, EliminationStep.no_subgoal (no_first goal g n))

pub destruction_none : (A : Algebra) (goal fact : Theorem) (g : IsGoalTheorem goal) → IsNoImplication goal.prop → (R : List Label → Type 0) → IsStep (λ s. DestructionStep A s fact) goal R (Err fault.NoSubgoal)
destruction_none A goal fact g n R = (g.state, g.is, g.goal, DestructionStep.no_subgoal (no_first goal g n))

pub elimination_derivable : (Q : Content) (goal fact : Theorem) → MayUse Q goal fact → IsUnifyContent Q → (result : Result Goal StepFault) → IsStep (λ s. EliminationStep (algebra_of Q.declarations) s fact) goal (IsSetOf label_cmp (goal.rests ++ fact.rests)) result → IfOk result (λ new. IsDerivable Q new.thm)
elimination_derivable Q goal fact m k result h =
    step_derivable Q (λ s. EliminationStep (algebra_of Q.declarations) s fact) (IsSetOf label_cmp (goal.rests ++ fact.rests)) goal
    (λ s t rests sound f u. elimination_is_sound Q k unifier_solves s t fact goal.rests rests sound (used-by Q goal fact m rests u) f) result h m.step.derivable

pub destruction_derivable : (Q : Content) (goal fact : Theorem) → MayUse Q goal fact → IsUnifyContent Q → (result : Result Goal StepFault) → IsStep (λ s. DestructionStep (algebra_of Q.declarations) s fact) goal (IsSetOf label_cmp (goal.rests ++ fact.rests)) result → IfOk result (λ new. IsDerivable Q new.thm)
destruction_derivable Q goal fact m k result h =
    step_derivable Q (λ s. DestructionStep (algebra_of Q.declarations) s fact) (IsSetOf label_cmp (goal.rests ++ fact.rests)) goal
    (λ s t rests sound f u. destruction_is_sound Q k unifier_solves s t fact goal.rests rests sound (used-by Q goal fact m rests u) f) result h m.step.derivable
