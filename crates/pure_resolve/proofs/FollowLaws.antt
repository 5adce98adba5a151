-- What follows from an attempt to make a step.
use Rattle.std.proofs.Common.{◌≡◌, ℕ, List, [], ◌∷◌, ◌++◌, map, Result, Err, refl, ap, sym, subst, ◌∙◌}
use Rattle.pure_text.specs.Lists.{Each}
use Rattle.pure_text.proofs.ListLaws.{each_imply}
use Rattle.pure_definitions.specs.Names.{Label}
use Rattle.pure_definitions.specs.Types.Order.{Algebra}
use Rattle.pure_definitions.specs.Terms.Term.{Term, IsWithin}
use Rattle.pure_definitions.specs.Terms.Subst.{TypBind, TermBind}
use Rattle.pure_logic.specs.Connectives.{imp, eq, protect, chain}
use Rattle.pure_logic.specs.Derivable.{Pair, Theorem, IsUnderPairs}
use Rattle.pure_logic.specs.Laws.Maps.{instantiated}
use Rattle.pure_theorem.specs.Shapes.{IsNoImplication}
use Rattle.pure_unify_definitions.specs.LongSides as sides
use Rattle.pure_unify_definitions.specs.Search as search
use Rattle.pure_unify_definitions.specs.Search.{IsUnifyAnswer}
use Rattle.pure_unify.specs.declared.unifier.Unifier.{Unifier}
use Rattle.pure_unify.specs.declared.fault.UnifyFault.{UnifyFault}
use Rattle.pure_unify.specs.declared.fault.UnifyFault.TheVariants as unify
use Rattle.pure_unify.specs.Unified.{seen, IsUnified, IsLeftOver}
use Rattle.pure_goal_steps.specs.State.{State, IsTheoremOf, IsLeftPair}
use Rattle.pure_goal_steps.specs.Follows.{AllLong, Come, Becomes, halted, Attempt, unified_pairs, with_unifier, FollowsBy}
use Rattle.pure_goal_steps.specs.declared.fault.StepFault.{StepFault}
use Rattle.pure_goal_steps.specs.declared.fault.StepFault.TheVariants.{UnknownFact, NoSubgoal, NoPremise, NotDefinition, NothingToUnfold, NoUnifier, SearchBound, Steps, Big, NoHypothesis, SubgoalsLeft, Memory}
use Rattle.pure_goal_steps.proofs.MeasuredLaws.{under-within, imp-within}
use Rattle.pure_goal_steps.proofs.SoundLaws.{all-long}
use Rattle.pure_resolve.specs.Goals.{IsLeftTyped, IsConcluded, IsOutcome}
use Rattle.pure_resolve.specs.Settled.{IsInstanceAnswer, IsComeAnswer, step_fault, HasFirst}
use Rattle.pure_resolve.specs.declared.state.Goal.{Goal}
use Rattle.pure_resolve.proofs.ChainLaws.{imp-premise, chain_once, nothing-more}
use Rattle.pure_resolve.proofs.AnswerLaws.{made_outcome, outcome_map}
use Rattle.pure_resolve.proofs.StepLaws.{concluded-at}

-- Pairs that a unifier left.
pub left_typed : (ps : List Pair) → Each IsLeftOver ps → Each IsLeftTyped ps
left_typed ps h = each_imply IsLeftOver IsLeftTyped ps (λ p l. (l.typ, l.left_typed)) h

pub left-pairs : (ps : List Pair) → Each IsLeftOver ps → Each IsLeftPair ps
left-pairs ps h = each_imply IsLeftOver IsLeftPair ps (λ p l. record { flexible = l.flexible; left_long = l.left_long; right_long = l.right_long; typ = l.typ; left_typed = l.left_typed; right_typed = l.right_typed }) h

-- A statement that isn't within the limits makes the whole large.
under-some : (ps : List Pair) → Each IsLeftTyped ps → (A : Term) → (q : Term) × IsUnderPairs ps A q
under-some [] h A = (A, refl)
under-some (p ∷ ps) ((T, t), h) A = let rest = under-some ps h A in (imp (eq T p.left p.right) rest.0, (T, rest.0, t, rest.1, refl))

end-within : (As : List Term) (G : Term) → IsWithin (chain As G) → IsWithin G
end-within [] G w = w
end-within (A ∷ As) G w = end-within As G (imp-within A (chain As G) w).1

large-whole : (ps : List Pair) → Each IsLeftTyped ps → (As : List Term) (G : Term) → (¬ IsWithin G) → (q : Term) × IsUnderPairs ps (chain As G) q × (¬ IsWithin q)
large-whole ps h As G wide = let whole = under-some ps h (chain As G) in (whole.0, whole.1, λ w. wide (end-within As G (under-within ps (chain As G) whole.0 whole.1 w)))

pub statement_stopped : (typs : List TypBind) (terms : List TermBind) (ps : List Pair) → Each IsLeftOver ps → (As : List Term) (marked : Term) (rests : List Label) (fault : StepFault) → IsInstanceAnswer typs terms marked (Err fault)
    → IsConcluded ps (chain As (instantiated typs terms marked)) rests (Err fault)
statement_stopped typs terms ps left As marked rests Big h = large-whole ps (left_typed ps left) As (instantiated typs terms marked) h
statement_stopped typs terms ps left As marked rests Memory h = tt
statement_stopped typs terms ps left As marked rests Steps h = absurd h
statement_stopped typs terms ps left As marked rests UnknownFact h = absurd h
statement_stopped typs terms ps left As marked rests NoSubgoal h = absurd h
statement_stopped typs terms ps left As marked rests NoPremise h = absurd h
statement_stopped typs terms ps left As marked rests NotDefinition h = absurd h
statement_stopped typs terms ps left As marked rests NothingToUnfold h = absurd h
statement_stopped typs terms ps left As marked rests NoUnifier h = absurd h
statement_stopped typs terms ps left As marked rests SearchBound h = absurd h
statement_stopped typs terms ps left As marked rests NoHypothesis h = absurd h
statement_stopped typs terms ps left As marked rests SubgoalsLeft h = absurd h

pub statement_concluded : (ps : List Pair) (As : List Term) (statement marked : Term) (rests : List Label) (result : Result Goal StepFault) → statement ≡ marked → IsConcluded ps (chain As statement) rests result → IsConcluded ps (chain As marked) rests result
statement_concluded ps As statement marked rests result e h = concluded-at ps ps (chain As statement) (chain As marked) rests rests result refl (ap (chain As) e) refl h

-- The parts of the goal, opened behind its first subgoal.
pub behind_first : (goal : Theorem) (h : HasFirst goal) (A rest : Term) → goal.prop ≡ imp A rest → rest ≡ chain h.others (protect h.state.statement)
behind_first goal h A rest e =
    (imp-premise A rest h.first (chain h.others (protect h.state.statement)) (sym e ∙ (h.is.prop ∙ ap (λ (As : List Term). chain As (protect h.state.statement)) h.stand))).1

pub is_implication : (goal : Theorem) (h : HasFirst goal) → goal.prop ≡ imp h.first (chain h.others (protect h.state.statement))
is_implication goal h = h.is.prop ∙ ap (λ (As : List Term). chain As (protect h.state.statement)) h.stand

pub opened_others : (goal : Theorem) (h : HasFirst goal) (A rest : Term) → goal.prop ≡ imp A rest → (old new : List Term) (marked : Term) → old ≡ []
    → ((As : List Term) (C : Term) → rest ≡ chain As (protect C) → (new ≡ old ++ As) × (marked ≡ protect C)) → (new ≡ h.others) × (marked ≡ protect h.state.statement)
opened_others goal h A rest e old new marked n o = let parts = o h.others h.state.statement (behind_first goal h A rest e) in (parts.0 ∙ ap (λ (Bs : List Term). Bs ++ h.others) n, parts.1)

-- The same state, and the same others.
pub record Same (s t : State) (others rest : List Term) : Type 0 where
  pub statement : s.statement ≡ t.statement
  pub others_same : others ≡ rest

tails : (A B : Term) (As Bs : List Term) → A ∷ As ≡ B ∷ Bs → As ≡ Bs
tails A B As Bs e = cc

pub same-state : (goal : Theorem) (h : HasFirst goal) (s : State) (first : Term) (others : List Term) → IsTheoremOf s goal → s.subgoals ≡ first ∷ others → Same h.state s h.others others
same-state goal h s first others is stand =
    let parts = chain_once h.state.subgoals s.subgoals h.state.statement s.statement (sym h.is.prop ∙ is.prop) in
    record { statement = parts.1; others_same = tails h.first first h.others others (sym h.stand ∙ (parts.0 ∙ stand)) }

-- The new state, whose subgoals come to their long forms.
pub unifier_outcome : (goal : Theorem) (h : HasFirst goal) (u : Unifier) → Each IsLeftOver u.flexflex.items → (premises all : List Term) (marked : Term) → all ≡ premises ++ h.others → marked ≡ protect h.state.statement
    → (Ss : List Term) → Come (map (instantiated u.typs u.terms) all) (AllLong Ss) → (rests : List Label) (result : Result Goal StepFault) → IsConcluded u.flexflex.items (chain Ss (instantiated u.typs u.terms marked)) rests result
    → (s : State) (first : Term) (others : List Term) (a : Attempt) → IsTheoremOf s goal → s.subgoals ≡ first ∷ others → a.premises ≡ premises → IsOutcome (Becomes (with_unifier s others a (seen u))) (λ all. all ≡ rests) result
unifier_outcome goal h u left premises all marked e m Ss comes rests result c s first others a is stand p =
    let f = instantiated u.typs u.terms in
    let same = same-state goal h s first others is stand in
    let made : State = with_unifier s others a (seen u) in
    let terms : all ≡ a.premises ++ others = e ∙ (λ i. sym p i ++ same.others_same i) in
    let marks : f marked ≡ protect made.statement = ap f (m ∙ ap protect same.statement) in
    made_outcome made made.subgoals Ss [] (nothing-more made.subgoals) (subst (λ (As : List Term). Come (map f As) (AllLong Ss)) terms comes) (all-long (map f all) Ss comes) tt (left-pairs u.flexflex.items left) rests result
    (concluded-at u.flexflex.items made.pairs (chain Ss (f marked)) (chain (Ss ++ []) (protect made.statement)) rests rests result refl (λ i. chain (nothing-more Ss i) (marks i)) refl c)

pub come_stopped : (made : State) (fault : StepFault) → IsComeAnswer made.subgoals (Err fault) → (R : List Label → Type 0) → IsOutcome (Becomes made) R (Err fault)
come_stopped made Steps c R = halted {s = sides.Steps} c
come_stopped made Big c R = halted {s = sides.Big} c
come_stopped made Memory c R = tt
come_stopped made UnknownFact c R = absurd c
come_stopped made NoSubgoal c R = absurd c
come_stopped made NoPremise c R = absurd c
come_stopped made NotDefinition c R = absurd c
come_stopped made NothingToUnfold c R = absurd c
come_stopped made NoUnifier c R = absurd c
come_stopped made SearchBound c R = absurd c
come_stopped made NoHypothesis c R = absurd c
come_stopped made SubgoalsLeft c R = absurd c

pub unifier_stopped : (goal : Theorem) (h : HasFirst goal) (u : Unifier) (premises all : List Term) → all ≡ premises ++ h.others → (fault : StepFault) → IsComeAnswer (map (instantiated u.typs u.terms) all) (Err fault)
    → (s : State) (first : Term) (others : List Term) (a : Attempt) → IsTheoremOf s goal → s.subgoals ≡ first ∷ others → a.premises ≡ premises → (R : List Label → Type 0) → IsOutcome (Becomes (with_unifier s others a (seen u))) R (Err fault)
unifier_stopped goal h u premises all e fault c s first others a is stand p R =
    let f = instantiated u.typs u.terms in
    let same = same-state goal h s first others is stand in
    let made : State = with_unifier s others a (seen u) in
    let terms : all ≡ a.premises ++ others = e ∙ (λ i. sym p i ++ same.others_same i) in
    come_stopped made fault (subst (λ (As : List Term). IsComeAnswer (map f As) (Err fault)) terms c) R

-- What follows from the unifier's answer.
pub followed_unified : (A : Algebra) (maxidx : ℕ) (s : State) (others : List Term) (a : Attempt) (u : Unifier) → IsUnifyAnswer A maxidx (unified_pairs s a) (search.Unified (seen u)) → (R : List Label → Type 0) (result : Result Goal StepFault)
    → IsOutcome (Becomes (with_unifier s others a (seen u))) R result → IsOutcome (FollowsBy A maxidx s others a) R result
followed_unified A maxidx s others a u answer R result h =
    outcome_map (Becomes (with_unifier s others a (seen u))) (FollowsBy A maxidx s others a) R R (λ outcome b. record { answer = search.Unified (seen u); unified = answer; follows = b }) (λ all r. r) result h

pub followed_fault : (A : Algebra) (maxidx : ℕ) (s : State) (others : List Term) (a : Attempt) (fault : UnifyFault) → IsUnified A maxidx (unified_pairs s a) (Err fault) → (R : List Label → Type 0) → IsOutcome (FollowsBy A maxidx s others a) R (Err (step_fault fault))
followed_fault A maxidx s others a unify.NoUnifier h R = record { answer = search.NoUnifier; unified = h; follows = refl }
followed_fault A maxidx s others a unify.SearchBound h R = record { answer = search.SearchBound; unified = h; follows = refl }
followed_fault A maxidx s others a unify.Steps h R = record { answer = search.Stopped sides.Steps; unified = h; follows = refl }
followed_fault A maxidx s others a unify.Big h R = record { answer = search.Stopped sides.Big; unified = h; follows = refl }
followed_fault A maxidx s others a unify.Memory h R = tt

-- What is unified is the same where the goal's pairs are.
pub pairs_of : (goal : Theorem) (s : State) (matched : List Pair) (a : Attempt) → IsTheoremOf s goal → matched ≡ a.matched → matched ++ goal.pairs ≡ unified_pairs s a
pairs_of goal s matched a is e = λ i. e i ++ is.same_pairs i

pub followed_ok : (A : Algebra) (maxidx : ℕ) (goal : Theorem) (s : State) (others : List Term) (a : Attempt) (matched : List Pair) (u : Unifier) → IsTheoremOf s goal → matched ≡ a.matched → IsUnifyAnswer A maxidx (matched ++ goal.pairs) (search.Unified (seen u)) → (R : List Label → Type 0) (result : Result Goal StepFault)
    → IsOutcome (Becomes (with_unifier s others a (seen u))) R result → IsOutcome (FollowsBy A maxidx s others a) R result
followed_ok A maxidx goal s others a matched u is e answer R result h =
    followed_unified A maxidx s others a u (subst (λ (ps : List Pair). IsUnifyAnswer A maxidx ps (search.Unified (seen u))) (pairs_of goal s matched a is e) answer) R result h

pub followed_err : (A : Algebra) (maxidx : ℕ) (goal : Theorem) (s : State) (others : List Term) (a : Attempt) (matched : List Pair) (fault : UnifyFault) → IsTheoremOf s goal → matched ≡ a.matched → IsUnified A maxidx (matched ++ goal.pairs) (Err fault) → (R : List Label → Type 0)
    → (own : StepFault) → own ≡ step_fault fault → IsOutcome (FollowsBy A maxidx s others a) R (Err own)
followed_err A maxidx goal s others a matched fault is e answer R own d =
    let there = followed_fault A maxidx s others a fault (subst (λ (ps : List Pair). IsUnified A maxidx ps (Err fault)) (pairs_of goal s matched a is e) answer) R in
    subst (λ (f : StepFault). IsOutcome (FollowsBy A maxidx s others a) R (Err f)) (sym d) there

pub first_is_implication : (goal : Theorem) (h : HasFirst goal) (A : Term) → A ≡ goal.prop → IsNoImplication A → ⊥
first_is_implication goal h A e n = n h.first (chain h.others (protect h.state.statement)) (e ∙ is_implication goal h)
