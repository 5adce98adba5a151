-- Each step has an outcome on each goal that is derivable.
use Rattle.std.proofs.Common.{◌≡◌, ◌⊎◌, ℕ, zero, suc, ◌+◌, ◌<◌, ◌≤◌, List, [], ◌∷◌, ◌++◌, map, length, inl, inr, refl, ap, sym, subst, ◌∙◌, arith}
use Rattle.std.specs.Prelude.{Ok, Err}
use Rattle.pure_text.specs.Lists.{IsIn, Each}
use Rattle.pure_text.proofs.ListLaws.{each-append, each-left, each-right, each_imply}
use Rattle.pure_definitions.specs.Names.{Label}
use Rattle.pure_definitions.specs.Types.Typ.{prop}
use Rattle.pure_definitions.specs.Types.Order.{Algebra}
use Rattle.pure_definitions.specs.Terms.Term.{Term, IsWithin}
use Rattle.pure_definitions.specs.Reduction.Beta.{IsBetaNormal}
use Rattle.pure_definitions.specs.Declarations.Decl.{algebra_of}
use Rattle.pure_logic.specs.Connectives.{imp, eq, protect}
use Rattle.pure_logic.specs.Content.{Content, IsProposition}
use Rattle.pure_logic.specs.Derivable.{Pair, Theorem, IsUnderPairs}
use Rattle.pure_logic.specs.Laws.Maps.{instantiated}
use Rattle.pure_logic.proofs.SubstitutionLaws.{certified_of-instance}
use Rattle.pure_logic.proofs.PropositionLaws.{derivable_is_proposition}
use Rattle.pure_unify_definitions.specs.Fronts.{pair}
use Rattle.pure_unify_definitions.specs.LongSides.{Side, Sides, Long, Ends, ComesTo, AreLong}
use Rattle.pure_unify_definitions.specs.Search.{Unifier, Answer, Unified, NoUnifier, SearchBound, Stopped, IsUnifyAnswer}
use Rattle.pure_unify_laws.specs.Reached.{AreSidesCertified}
use Rattle.pure_unify_laws.specs.Condition.{AreIndexesUpTo, IsUnifyContent, AreUnifiable}
use Rattle.pure_resolve.specs.UnifyAnswers.Maps.{unifier_typs, unifier_terms, Solves}
use Rattle.pure_resolve.proofs.UnifyAnswers.AnswerLaws.{search_has_an_answer}
use Rattle.pure_resolve.proofs.UnifyAnswers.MapLaws.{maps_one_after_the_other}
use Rattle.pure_resolve.proofs.UnifyAnswers.SolveLaws.{unifier_solves}
use Rattle.pure_resolve.proofs.UnifyAnswers.TreatmentLaws.{term_within_or_not, some_sides}
use Rattle.pure_goal_laws.specs.Prefix.{Item, behind}
use Rattle.pure_goal_laws.specs.Lifting.{lifted_behind}
use Rattle.pure_goal_laws.specs.GoalStep.{closed_pair}
use Rattle.pure_goal_laws.proofs.StateLaws.{subgoals_are_propositions}
use Rattle.pure_resolve.specs.GoalSteps.State.{State, proposition, theorem_of, IsLeftPair, greatest_index}
use Rattle.pure_resolve.specs.GoalSteps.Reading.{IsRead, Place, places, around, without, standing, IsRuleOf, rule_maxidx}
use Rattle.pure_resolve.specs.GoalSteps.Follows.{stop_fault, Forms, AllLong, Halted, Come, no_more, first_stops, later_stops, all_long, Becomes, halted, large, small, Attempt, unified_pairs, with_unifier, Follows, FollowsBy, FollowsByFirst}
use Rattle.pure_resolve.specs.GoalSteps.Steps.{IsFirst, indexed, premises_behind, rule_attempt, elimination_attempt, destruction_attempt, assumption_attempt, BeginsAs, RuleStep, EliminationStep, DestructionStep, AssumptionStep, PreferStep, DeferStep, ConversionStep}
use Rattle.pure_resolve.specs.GoalSteps.Derivability.{IsSound}
use Rattle.pure_resolve.specs.GoalSteps.declared.fault.StepFault.TheVariants as fault
use Rattle.pure_resolve.specs.GoalStepLaws.Laws.{IsUsed}
use Rattle.pure_resolve.proofs.GoalStepLaws.AttemptLaws.{left_pairs}
use Rattle.pure_resolve.proofs.GoalStepLaws.IndexLaws.{IsUpTo, parameters-up_to, up_to-below, up_to-lifted_behind, standing-up_to, rule_up_to}
use Rattle.pure_resolve.proofs.GoalStepLaws.ClosedLaws.{closed_typed, lifted_propositions}
use Rattle.pure_resolve.proofs.GoalStepLaws.UnifiedLaws.{has-indexes, places-around, first-up_to, own-certified, own-indexes, proved, hypothesis-proposition, whole-proposition, up-to, its-proof, without-proposition, eliminated-certified, conclusion-certified, eliminated-indexes, conclusion-indexes, last-proposition}
use Rattle.pure_method.specs.Outcomes.{HasOutcome}
use Rattle.pure_method.proofs.FrontLaws.{some_reading, some_rule}

side-of : (p : Pair) (ps : List Pair) (sides : Sides) → AreLong (p ∷ ps) sides → (side : Side) × ComesTo p.left side
side-of p ps sides (AreLong.left_stops {s = s} f) = (Ends s, f)
side-of p ps sides (AreLong.right_stops {l = l} f g) = (Long l, f)
side-of p ps sides (AreLong.later_stops {l = l} f g h) = (Long l, f)
side-of p ps sides (AreLong.both_long {l = l} f g h) = (Long l, f)

each-map : {A B : Type 0} (P : B → Type 0) (f : A → B) (xs : List A) → Each (λ x. P (f x)) xs → Each P (map f xs)
each-map P f [] h = tt
each-map P f (x ∷ xs) h = (h.0, each-map P f xs h.1)

-- The pairs and a proposition are one proposition.
some_under : (ps : List Pair) (A : Term) → Each IsLeftPair ps → (q : Term) × IsUnderPairs ps A q
some_under [] A h = (A, refl)
some_under (p ∷ ps) A h = let rest = some_under ps A h.1 in (imp (eq h.0.typ p.left p.right) rest.0, (h.0.typ, rest.0, h.0.left_typed, rest.1, refl))

-- Subgoal n stands somewhere, or there is none.
abbrev StandsAt : List Term → ℕ → Type 0
StandsAt As n = (before : List Term) × (A : Term) × (after : List Term) × (As ≡ before ++ A ∷ after) × (n ≡ length before + 1)

one-more : (n m : ℕ) → suc n ≡ m + 1 → suc (suc n) ≡ suc m + 1
one-more n m e = omega arith

stands_or_not : (As : List Term) (n : ℕ) → ((n ≡ 0) ⊎ (length As < n)) ⊎ StandsAt As n
stands_or_not As zero = inl (inl refl)
stands_or_not [] (suc n) = inl (inr (omega arith))
stands_or_not (A ∷ As) (suc zero) = inr ([], A, As, refl, refl)
stands_or_not (A ∷ As) (suc (suc n)) = by (stands_or_not As (suc n))
  where
    by : ((suc n ≡ 0) ⊎ (length As < suc n)) ⊎ StandsAt As (suc n) → ((suc (suc n) ≡ 0) ⊎ (length (A ∷ As) < suc (suc n))) ⊎ StandsAt (A ∷ As) (suc (suc n))
    by (inl (inl e)) = let no : ⊥ = cc in absurd no
    by (inl (inr l)) = inl (inr (omega arith))
    by (inr (before, B, after, e, c)) = inr (A ∷ before, B, after, ap (λ (Bs : List Term). A ∷ Bs) e, one-more n (length before) c)

module _ (Q : Content) (k : IsUnifyContent Q) where
  abbrev A : Algebra
  A = algebra_of Q.declarations

  some_side : (C : Term) → IsProposition Q C → (side : Side) × ComesTo C side
  some_side C h =
      let certified : AreSidesCertified Q.declarations (pair C C) = ((prop, record { parts = h.certified.parts; typed = h.typed }), (prop, record { parts = h.certified.parts; typed = h.typed })) in
      let sides = some_sides Q.declarations (pair C C ∷ []) (certified, tt) in
      side-of (pair C C) [] sides.0 sides.1

  some_forms : (As : List Term) → Each (IsProposition Q) As → (forms : Forms) × Come As forms
  some_forms [] h = (AllLong [], no_more)
  some_forms (C ∷ As) h = by (some_side C h.0).0 (some_side C h.0).1 (some_forms As h.1).0 (some_forms As h.1).1
    where
      by : (side : Side) → ComesTo C side → (rest : Forms) → Come As rest → (forms : Forms) × Come (C ∷ As) forms
      by (Ends s) f rest g = (Halted s, first_stops f)
      by (Long S) f (Halted s) g = (Halted s, later_stops f g)
      by (Long S) f (AllLong Ss) g = (AllLong (S ∷ Ss), all_long f g)

  -- A state of propositions becomes a state, or is refused.
  pub some_becoming : (made : State) → Each (IsProposition Q) made.subgoals → Each IsLeftPair made.pairs → HasOutcome (Becomes made)
  some_becoming made h pairs = by (some_forms made.subgoals h).0 (some_forms made.subgoals h).1
    where
      measured : (Ss : List Term) → Come made.subgoals (AllLong Ss) → (q : Term) → IsUnderPairs made.pairs (proposition (record made { subgoals = Ss })) q → IsWithin q ⊎ ¬ IsWithin q → HasOutcome (Becomes made)
      measured Ss f q under (inl w) = (Ok (record made { subgoals = Ss }), small f (q, under, w))
      measured Ss f q under (inr w) = (Err fault.Big, large f (q, under, w))

      by : (forms : Forms) → Come made.subgoals forms → HasOutcome (Becomes made)
      by (Halted s) f = (Err (stop_fault s), halted f)
      by (AllLong Ss) f =
          let under = some_under made.pairs (proposition (record made { subgoals = Ss })) pairs in
          measured Ss f under.0 under.1 (term_within_or_not under.0)

  pub begins_somehow : (C : Term) → IsProposition Q C → HasOutcome (BeginsAs C)
  begins_somehow C h = some_becoming (record { statement = C; subgoals = C ∷ []; pairs = [] }) (h, tt) tt

  instance-proposition : (ps : List Pair) (u : Unifier) → Solves Q ps u → (C : Term) → IsProposition Q C → IsProposition Q (instantiated u.typs u.terms C)
  instance-proposition ps u solves C h =
      subst (IsProposition Q) (sym (maps_one_after_the_other u C)) (certified_of-instance Q k.content (unifier_typs u) (unifier_terms u) solves.respecting C prop h)

  instance-propositions : (ps : List Pair) (u : Unifier) → Solves Q ps u → (As : List Term) → Each (IsProposition Q) As → Each (IsProposition Q) (map (instantiated u.typs u.terms) As)
  instance-propositions ps u solves [] h = tt
  instance-propositions ps u solves (C ∷ As) h = (instance-proposition ps u solves C h.0, instance-propositions ps u solves As h.1)

  module _ (s : State) (rests : List Label) (h : IsSound Q rests s) where
    propositions : (As : List Term) → s.subgoals ≡ As → Each (IsProposition Q) As
    propositions As e =
        subst (λ (Bs : List Term). Each (IsProposition Q) Bs) e (subgoals_are_propositions Q k.content k.above (theorem_of s rests) s.subgoals (protect s.statement) refl h.derivable)

    pub prefer_somehow : (n : ℕ) → HasOutcome (PreferStep s n)
    prefer_somehow n = elim (stands_or_not s.subgoals n) [
      | inl none ↦ (Err fault.NoSubgoal, PreferStep.no_subgoal none)
      | inr found ↦ put found.0 found.1 found.2 found.3 found.4
    ]
      where
        put : (before : List Term) (C : Term) (after : List Term) → s.subgoals ≡ before ++ C ∷ after → n ≡ length before + 1 → HasOutcome (PreferStep s n)
        put before C after e c =
            let all = propositions (before ++ C ∷ after) e in
            let behind = each-right (IsProposition Q) before (C ∷ after) all in
            let become = some_becoming (record s { subgoals = C ∷ (before ++ after) }) (behind.0, each-append (IsProposition Q) before after (each-left (IsProposition Q) before (C ∷ after) all) behind.1) h.goal.left_pairs in
            (become.0, PreferStep.preferred before C after e c become.1)

    pub defer_somehow : HasOutcome (DeferStep s)
    defer_somehow = by s.subgoals refl
      where
        by : (As : List Term) → s.subgoals ≡ As → HasOutcome (DeferStep s)
        by [] e = (Err fault.NoSubgoal, DeferStep.no_subgoal e)
        by (C ∷ As) e =
            let all = propositions (C ∷ As) e in
            let become = some_becoming (record s { subgoals = As ++ C ∷ [] }) (each-append (IsProposition Q) As (C ∷ []) all.1 (all.0, tt)) h.goal.left_pairs in
            (become.0, DeferStep.deferred C As e become.1)

    pub conversion_somehow : (equation : Theorem) (left right : Term) (others : List Term) → s.subgoals ≡ left ∷ others → equation.prop ≡ eq prop left right → IsProposition Q right → HasOutcome (ConversionStep s equation)
    conversion_somehow equation left right others e d is =
        let all = propositions (left ∷ others) e in
        let become = some_becoming (record s { subgoals = right ∷ others }) (is, all.1) h.goal.left_pairs in
        (become.0, record { left = left; right = right; others = others; stand = e; equates = d; becomes = become.1 })

    module _ (all : List Label) (kept : (l : Label) → IsIn l rests → IsIn l all) (first : Term) (others : List Term) (stand : s.subgoals ≡ first ∷ others) where
      subgoals : Each (IsProposition Q) (first ∷ others)
      subgoals = propositions (first ∷ others) stand

      -- What an attempt hands to the unifier may be handed to it, and its new subgoals are propositions.
      record IsFit (maxidx : ℕ) (a : Attempt) : Type 0 where
        certified : Each (AreSidesCertified Q.declarations) a.matched
        indexes : Each (AreIndexesUpTo maxidx) a.matched
        premises : Each (IsProposition Q) a.premises

      given : (maxidx : ℕ) (a : Attempt) → greatest_index (indexed s) ≤ maxidx → IsFit maxidx a → AreUnifiable Q maxidx (unified_pairs s a)
      given maxidx a l fit = record {
        certified = each-append (AreSidesCertified Q.declarations) a.matched s.pairs fit.certified (own-certified Q k unifier_solves s rests all h kept first others stand);
        indexes = each-append (AreIndexesUpTo maxidx) a.matched s.pairs fit.indexes (own-indexes Q k unifier_solves s rests all h kept first others stand maxidx l);
      }

      followed : (maxidx : ℕ) (a : Attempt) → greatest_index (indexed s) ≤ maxidx → IsFit maxidx a → (answer : Answer) → IsUnifyAnswer A maxidx (unified_pairs s a) answer → HasOutcome (Follows s others a answer)
      followed maxidx a l fit (Unified u) f =
          let solves = unifier_solves Q k maxidx (unified_pairs s a) (given maxidx a l fit) u f in
          let all_propositions = each-append (IsProposition Q) a.premises others fit.premises subgoals.1 in
          some_becoming (with_unifier s others a u) (instance-propositions (unified_pairs s a) u solves (a.premises ++ others) all_propositions) (left_pairs Q (unified_pairs s a) u solves)
      followed maxidx a l fit NoUnifier f = (Err fault.NoUnifier, refl)
      followed maxidx a l fit SearchBound f = (Err fault.SearchBound, refl)
      followed maxidx a l fit (Stopped stop) f = (Err (stop_fault stop), refl)

      follows-by : (maxidx : ℕ) (a : Attempt) → greatest_index (indexed s) ≤ maxidx → IsFit maxidx a → HasOutcome (FollowsBy A maxidx s others a)
      follows-by maxidx a l fit =
          let found = search_has_an_answer Q k maxidx (unified_pairs s a) (given maxidx a l fit) in
          let next = followed maxidx a l fit found.0 found.1 in
          (next.0, record { answer = found.0; unified = found.1; follows = next.1 })

      follows-by_first : (maxidx : ℕ) → greatest_index (indexed s) ≤ maxidx → (attempts : List Attempt) → Each (IsFit maxidx) attempts → HasOutcome (FollowsByFirst A maxidx s others attempts)
      follows-by_first maxidx l [] fits = (Err fault.NoHypothesis, FollowsByFirst.none)
      follows-by_first maxidx l (a ∷ rest) fits =
          let found = search_has_an_answer Q k maxidx (unified_pairs s a) (given maxidx a l fits.0) in
          by found.0 found.1 (followed maxidx a l fits.0 found.0 found.1) (follows-by_first maxidx l rest fits.1)
        where
          by : (answer : Answer) → IsUnifyAnswer A maxidx (unified_pairs s a) answer → HasOutcome (Follows s others a answer) → HasOutcome (FollowsByFirst A maxidx s others rest) → HasOutcome (FollowsByFirst A maxidx s others (a ∷ rest))
          by NoUnifier f here later = (later.0, FollowsByFirst.passed f later.1)
          by (Unified u) f here later = (here.0, FollowsByFirst.decided f (λ e. let no : ⊥ = cc in no) here.1)
          by SearchBound f here later = (here.0, FollowsByFirst.decided f (λ e. let no : ⊥ = cc in no) here.1)
          by (Stopped stop) f here later = (here.0, FollowsByFirst.decided f (λ e. let no : ⊥ = cc in no) here.1)

      module _ (ps : List Item) (C : Term) (read : IsRead first ps C) where
        is-at : (place : Place) → around place ≡ ps → first ≡ behind (around place) C
        is-at place e = read.stands ∙ ap (λ (qs : List Item). behind qs C) (sym e)

        is-first : IsFirst s ps C others
        is-first = record { subgoal = first; stand = stand; read = read }

        at-places : (maxidx : ℕ) (attempt : Place → Attempt) → ((place : Place) → around place ≡ ps → IsFit maxidx (attempt place)) → Each (IsFit maxidx) (map attempt (places [] ps))
        at-places maxidx attempt fit =
            each-map (IsFit maxidx) attempt (places [] ps)
            (each_imply (λ (p : Place). around p ≡ ps) (λ (p : Place). IsFit maxidx (attempt p)) (places [] ps) fit (places-around [] ps))

        assumption-fit : (place : Place) → around place ≡ ps → IsFit (greatest_index (indexed s)) (assumption_attempt C place)
        assumption-fit place e =
            let n : ℕ = greatest_index (indexed s) in
            let qs : List Item = around place in
            let is = is-at place e in
            let whole = up-to Q k unifier_solves s rests all h kept first others stand place C is n (omega arith) in
            let parts = parameters-up_to n qs C whole in
            let hypothesis = standing-up_to n place.before place.hypothesis place.after C whole in
            record {
              certified = (
                (
                  closed_typed Q qs (standing place) (hypothesis-proposition Q k unifier_solves s rests all h kept first others stand place C is),
                  closed_typed Q qs C (whole-proposition Q k unifier_solves s rests all h kept first others stand place C is),
                ),
                tt,
              );
              indexes = (
                (
                  has-indexes n (closed_pair qs (standing place) C).left (up_to-below n qs (standing place) parts.0 hypothesis),
                  has-indexes n (closed_pair qs (standing place) C).right (up_to-below n qs C parts.0 parts.1),
                ),
                tt,
              );
              premises = tt;
            }

        assumed : HasOutcome (AssumptionStep A s)
        assumed =
            let next = follows-by_first (greatest_index (indexed s)) (omega arith) (map (assumption_attempt C) (places [] ps)) (at-places (greatest_index (indexed s)) (assumption_attempt C) assumption-fit) in
            (next.0, AssumptionStep.tried is-first next.1)

        module _ (fact : Theorem) (used : IsUsed Q fact rests all) where
          index-above : greatest_index (indexed s) ≤ rule_maxidx (indexed s) fact
          index-above = omega arith

          rule-fit : (As : List Term) (B : Term) → IsRuleOf (indexed s) fact As B → IsFit (rule_maxidx (indexed s) fact) (rule_attempt ps C As B)
          rule-fit As B r =
              let n : ℕ = rule_maxidx (indexed s) fact in
              let proposition = subst (IsProposition Q) read.stands subgoals.0 in
              let up_to = parameters-up_to n ps C (subst (IsUpTo n) read.stands (first-up_to Q k unifier_solves s rests all h kept first others stand n index-above)) in
              let rule = rule_up_to (indexed s) fact As B r in
              let lifted = lifted_propositions Q k.content k.above all ps C As B proposition (proved Q k unifier_solves s rests all h kept first others stand fact used As B r) in
              record {
                certified = ((closed_typed Q ps (lifted_behind ps B) lifted.conclusion, closed_typed Q ps C proposition), tt);
                indexes = (
                  (
                    has-indexes n (closed_pair ps (lifted_behind ps B) C).left (up_to-below n ps (lifted_behind ps B) up_to.0 (up_to-lifted_behind n ps B up_to.0 rule.conclusion)),
                    has-indexes n (closed_pair ps (lifted_behind ps B) C).right (up_to-below n ps C up_to.0 up_to.1),
                  ),
                  tt,
                );
                premises = lifted.premises;
              }

          resolved : (As : List Term) (B : Term) → IsRuleOf (indexed s) fact As B → HasOutcome (RuleStep A s fact)
          resolved As B r =
              let next = follows-by (rule_maxidx (indexed s) fact) (rule_attempt ps C As B) index-above (rule-fit As B r) in
              (next.0, RuleStep.tried is-first r next.1)

          module _ (P : Term) (As : List Term) (B : Term) (r : IsRuleOf (indexed s) fact (P ∷ As) B) (place : Place) (e : around place ≡ ps) where
            is : first ≡ behind (around place) C
            is = is-at place e

            premises : Each (IsProposition Q) (premises_behind (without place) As)
            premises = (lifted_propositions Q k.content k.above all (without place) C (P ∷ As) B (without-proposition Q k unifier_solves s rests all h kept first others stand place C is fact used P As B r)
                (its-proof Q k unifier_solves s rests all h kept first others stand place C is fact used P As B r)).premises.1

            elimination-fit : IsFit (rule_maxidx (indexed s) fact) (elimination_attempt C P As B place)
            elimination-fit = record {
              certified = (conclusion-certified Q k unifier_solves s rests all h kept first others stand place C is fact used P As B r, (eliminated-certified Q k unifier_solves s rests all h kept first others stand place C is fact used P As B r, tt));
              indexes = (conclusion-indexes Q k unifier_solves s rests all h kept first others stand place C is fact used P As B r, (eliminated-indexes Q k unifier_solves s rests all h kept first others stand place C is fact used P As B r, tt));
              premises = premises;
            }

            destruction-fit : IsFit (rule_maxidx (indexed s) fact) (destruction_attempt C P As B place)
            destruction-fit = record {
              certified = (eliminated-certified Q k unifier_solves s rests all h kept first others stand place C is fact used P As B r, tt);
              indexes = (eliminated-indexes Q k unifier_solves s rests all h kept first others stand place C is fact used P As B r, tt);
              premises = each-append (IsProposition Q) (premises_behind (without place) As) (_ ∷ []) premises (last-proposition Q k unifier_solves s rests all h kept first others stand place C is fact used P As B r, tt);
            }

          eliminated : (As : List Term) (B : Term) → IsRuleOf (indexed s) fact As B → HasOutcome (EliminationStep A s fact)
          eliminated [] B r = (Err fault.NoPremise, EliminationStep.no_premise is-first r)
          eliminated (P ∷ As) B r =
              let next = follows-by_first (rule_maxidx (indexed s) fact) index-above (map (elimination_attempt C P As B) (places [] ps)) (at-places (rule_maxidx (indexed s) fact) (elimination_attempt C P As B) (elimination-fit P As B r)) in
              (next.0, EliminationStep.tried is-first r next.1)

          destructed : (As : List Term) (B : Term) → IsRuleOf (indexed s) fact As B → HasOutcome (DestructionStep A s fact)
          destructed [] B r = (Err fault.NoPremise, DestructionStep.no_premise is-first r)
          destructed (P ∷ As) B r =
              let next = follows-by_first (rule_maxidx (indexed s) fact) index-above (map (destruction_attempt C P As B) (places [] ps)) (at-places (rule_maxidx (indexed s) fact) (destruction_attempt C P As B) (destruction-fit P As B r)) in
              (next.0, DestructionStep.tried is-first r next.1)

    pub assumption_somehow : HasOutcome (AssumptionStep A s)
    assumption_somehow = by s.subgoals refl
      where
        by : (As : List Term) → s.subgoals ≡ As → HasOutcome (AssumptionStep A s)
        by [] e = (Err fault.NoSubgoal, AssumptionStep.no_subgoal e)
        by (first ∷ others) e = let read = some_reading first in assumed rests (λ l m. m) first others e read.0 read.1 read.2

    module _ (fact : Theorem) (all : List Label) (used : IsUsed Q fact rests all) (normal : IsBetaNormal fact.prop) where
      rule : (As : List Term) × (B : Term) × IsRuleOf (indexed s) fact As B
      rule = some_rule Q (indexed s) fact (derivable_is_proposition Q k.content k.above fact used.derivable) normal

      pub rule_somehow : HasOutcome (RuleStep A s fact)
      rule_somehow = by s.subgoals refl
        where
          by : (As : List Term) → s.subgoals ≡ As → HasOutcome (RuleStep A s fact)
          by [] e = (Err fault.NoSubgoal, RuleStep.no_subgoal e)
          by (first ∷ others) e = let read = some_reading first in resolved all used.goal_rests first others e read.0 read.1 read.2 fact used rule.0 rule.1 rule.2

      pub elimination_somehow : HasOutcome (EliminationStep A s fact)
      elimination_somehow = by s.subgoals refl
        where
          by : (As : List Term) → s.subgoals ≡ As → HasOutcome (EliminationStep A s fact)
          by [] e = (Err fault.NoSubgoal, EliminationStep.no_subgoal e)
          by (first ∷ others) e = let read = some_reading first in eliminated all used.goal_rests first others e read.0 read.1 read.2 fact used rule.0 rule.1 rule.2

      pub destruction_somehow : HasOutcome (DestructionStep A s fact)
      destruction_somehow = by s.subgoals refl
        where
          by : (As : List Term) → s.subgoals ≡ As → HasOutcome (DestructionStep A s fact)
          by [] e = (Err fault.NoSubgoal, DestructionStep.no_subgoal e)
          by (first ∷ others) e = let read = some_reading first in destructed all used.goal_rests first others e read.0 read.1 read.2 fact used rule.0 rule.1 rule.2
