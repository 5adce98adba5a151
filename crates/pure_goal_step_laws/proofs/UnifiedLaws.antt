-- Steps by unification are sound where each unifier solves the pairs that it is asked for.
use Rattle.std.proofs.Common.{◌≡◌, ℕ, ◌+◌, ◌≤◌, List, [], ◌∷◌, ◌++◌, map, Ok, refl, ap, sym, subst, ◌∙◌, arith, append_assoc}
use Rattle.std.proofs.lemmas.List.{map-append}
use Rattle.pure_text.specs.Lists.{IsIn, Each}
use Rattle.pure_text.proofs.ListLaws.{each-append, each_imply}
use Rattle.pure_definitions.specs.Names.{Label}
use Rattle.pure_definitions.specs.Types.Typ.{prop}
use Rattle.pure_definitions.specs.Types.Order.{Algebra}
use Rattle.pure_definitions.specs.Terms.Term.{Term}
use Rattle.pure_definitions.specs.Terms.Subst.{term_instance}
use Rattle.pure_definitions.specs.Declarations.Decl.{algebra_of}
use Rattle.pure_logic.specs.Connectives.{protect, chain}
use Rattle.pure_logic.specs.Content.{Content, IsProposition}
use Rattle.pure_logic.specs.Derivable.{Theorem, IsDerivable}
use Rattle.pure_logic.specs.Proves.{Proves}
use Rattle.pure_logic.proofs.PropositionLaws.{derivable_is_proposition}
use Rattle.pure_logic.proofs.ProvesLaws.{proved_is_proposition}
use Rattle.pure_equation_laws.specs.Laws.Proved.{IsCertifiedPair}
use Rattle.pure_equation_laws.proofs.ReductionLaws.{long_form_is_equated}
use Rattle.pure_unify_definitions.specs.Search as search
use Rattle.pure_unify_definitions.specs.Search.{Unifier, Answer, Unified, IsUnifyAnswer}
use Rattle.pure_unify_laws.specs.Reached.{AreSidesCertified}
use Rattle.pure_unify_laws.specs.Condition.{HasIndexesUpTo, AreIndexesUpTo, IsUnifyContent, AreUnifiable}
use Rattle.pure_unify_answers.specs.Maps.{unifier_typs, unifier_terms, Solves}
use Rattle.pure_unify_answers.specs.Laws.{UnifierSolves}
use Rattle.pure_goal_laws.specs.Prefix.{Item, Parameter, Hypothesis, behind}
use Rattle.pure_goal_laws.specs.Lifting.{IsStripped, lifted_behind}
use Rattle.pure_goal_laws.specs.GoalStep.{IsGoalStep, IsRuleFor, closed_pair, destructed_premises}
use Rattle.pure_goal_laws.proofs.PrefixLaws.{behind-append, implication_behind, hypothesis_is_proved}
use Rattle.pure_goal_laws.proofs.StateLaws.{subgoals_are_propositions, pairs_are_certified}
use Rattle.pure_goal_laws.proofs.FactLaws.{rule-proved, assumption_step, rule_step, elimination_step, destruction_step}
use Rattle.pure_goal_laws.proofs.EliminationLaws.{hypothesis-there}
use Rattle.pure_goal_steps.specs.State.{State, theorem_of, greatest_index}
use Rattle.pure_goal_steps.specs.Reading.{Place, places, around, without, standing, Strips, bare, quantified, supposed, IsRuleOf, rule_maxidx}
use Rattle.pure_goal_steps.specs.Follows.{Becomes, Attempt, unified_pairs, with_unifier, Follows, FollowsByFirst, passed, decided}
use Rattle.pure_goal_steps.specs.Steps.{indexed, premises_behind, rule_attempt, elimination_attempt, destruction_attempt, assumption_attempt, RuleStep, EliminationStep, DestructionStep, AssumptionStep}
use Rattle.pure_goal_steps.specs.Derivability.{IsSound}
use Rattle.pure_goal_steps.proofs.SoundLaws.{becomes_sound}
use Rattle.pure_goal_step_laws.specs.Laws.{IsUsed}
use Rattle.pure_goal_step_laws.proofs.IndexLaws.{IsUpTo, term-more, typs_up_to, terms_up_to, parameters-up_to, up_to-below, up_to-lifted_behind, standing-up_to, goal_up_to, pairs_up_to, rule_up_to}
use Rattle.pure_goal_step_laws.proofs.ClosedLaws.{closed_typed, lifted_propositions, without_hypothesis}
use Rattle.pure_goal_step_laws.proofs.AttemptLaws.{left_pairs, attempt_step, matched_pairs}

pub has-indexes : (n : ℕ) (t : Term) → IsUpTo n t → HasIndexesUpTo n t
has-indexes n t h = record { typs = λ x i s o. typs_up_to n x i s t h o; terms = λ x i T o. terms_up_to n x i T t h o }

pub is-stripped : {index name : ℕ} {t C : Term} {As : List Term} → Strips index name t As C → IsStripped t As C
is-stripped {C = C} (bare c) = IsStripped.bare C
is-stripped {index = index} {name = name} {C = C} {As = As} (quantified {T = T} {B = B} s) = IsStripped.quantified T B name index As C (is-stripped s)
is-stripped (supposed {A = A} {B = B} {As = As} {C = C} s) = IsStripped.supposed A B As C (is-stripped s)

-- An attempt that ends well: it has a unifier, and the state becomes the new one.
record EndsWell (A : Algebra) (maxidx : ℕ) (s : State) (others : List Term) (a : Attempt) (new : State) : Type 0 where
  unifier : Unifier
  unified : IsUnifyAnswer A maxidx (unified_pairs s a) (Unified unifier)
  becomes : Becomes (with_unifier s others a unifier) (Ok new)

ends-well : (A : Algebra) (maxidx : ℕ) (s : State) (others : List Term) (a : Attempt) (answer : Answer) (new : State) → IsUnifyAnswer A maxidx (unified_pairs s a) answer → Follows s others a answer (Ok new) → EndsWell A maxidx s others a new
ends-well A maxidx s others a (Unified u) new f h = record { unifier = u; unified = f; becomes = h }
ends-well A maxidx s others a search.NoUnifier new f h = absurd (cc)
ends-well A maxidx s others a search.SearchBound new f h = absurd (cc)
ends-well A maxidx s others a (search.Stopped stop) new f h = absurd (cc)

-- Of the attempts at the places of hypotheses one ends well.
record EndsWellAt (A : Algebra) (maxidx : ℕ) (s : State) (others : List Term) (attempt : Place → Attempt) (ps : List Item) (new : State) : Type 0 where
  place : Place
  stands : around place ≡ ps
  ends : EndsWell A maxidx s others (attempt place) new

some-ends-well : (A : Algebra) (maxidx : ℕ) (s : State) (others : List Term) (attempt : Place → Attempt) (new : State) (ps : List Item) (at : List Place) → Each (λ p. around p ≡ ps) at
    → FollowsByFirst A maxidx s others (map attempt at) (Ok new) → EndsWellAt A maxidx s others attempt ps new
some-ends-well A maxidx s others attempt new ps [] h f = elim f [ ]
some-ends-well A maxidx s others attempt new ps (p ∷ rest) h (passed u f) = some-ends-well A maxidx s others attempt new ps rest h.1 f
some-ends-well A maxidx s others attempt new ps (p ∷ rest) h (decided {answer = answer} u n f) = record { place = p; stands = h.0; ends = ends-well A maxidx s others (attempt p) answer new u f }

pub places-around : (before ps : List Item) → Each (λ p. around p ≡ before ++ ps) (places before ps)
places-around before [] = tt
places-around before (Parameter T ∷ after) =
    let same : (before ++ Parameter T ∷ []) ++ after ≡ before ++ Parameter T ∷ after = append_assoc before (Parameter T ∷ []) after in
    subst (λ (qs : List Item). Each (λ p. around p ≡ qs) (places (before ++ Parameter T ∷ []) after)) same (places-around (before ++ Parameter T ∷ []) after)
places-around before (Hypothesis H ∷ after) =
    let same : (before ++ Hypothesis H ∷ []) ++ after ≡ before ++ Hypothesis H ∷ after = append_assoc before (Hypothesis H ∷ []) after in
    (refl, subst (λ (qs : List Item). Each (λ p. around p ≡ qs) (places (before ++ Hypothesis H ∷ []) after)) same (places-around (before ++ Hypothesis H ∷ []) after))

module _ (Q : Content) (k : IsUnifyContent Q) (solver : UnifierSolves) where
  module _ (s : State) (rests all : List Label) (h : IsSound Q rests s) (kept : (l : Label) → IsIn l rests → IsIn l all) (first : Term) (others : List Term) (stand : s.subgoals ≡ first ∷ others) where
    pub subgoals : Each (IsProposition Q) (first ∷ others)
    subgoals = subgoals_are_propositions Q k.content k.above (theorem_of s rests) (first ∷ others) (protect s.statement) (ap (λ (As : List Term). chain As (protect s.statement)) stand) h.derivable

    pub first-up_to : (n : ℕ) → greatest_index (indexed s) ≤ n → IsUpTo n first
    first-up_to n l = term-more (greatest_index (indexed s)) n first l (subst (λ (As : List Term). Each (IsUpTo (greatest_index (indexed s))) As) stand (goal_up_to s)).0

    pub own-certified : Each (AreSidesCertified Q.declarations) s.pairs
    own-certified = each_imply (IsCertifiedPair Q) (AreSidesCertified Q.declarations) s.pairs
        (λ p c. ((c.0, record { parts = c.1.certified.parts; typed = c.1.typed }), (c.0, record { parts = c.2.certified.parts; typed = c.2.typed })))
        (pairs_are_certified Q k.content k.above (theorem_of s rests) h.derivable)

    pub own-indexes : (n : ℕ) → greatest_index (indexed s) ≤ n → Each (AreIndexesUpTo n) s.pairs
    own-indexes n l = each_imply (λ p. IsUpTo (greatest_index (indexed s)) p.left × IsUpTo (greatest_index (indexed s)) p.right) (AreIndexesUpTo n) s.pairs
        (λ p c. (has-indexes n p.left (term-more (greatest_index (indexed s)) n p.left l c.0), has-indexes n p.right (term-more (greatest_index (indexed s)) n p.right l c.1)))
        (pairs_up_to s)

    -- An attempt that ends well is sound, where what it hands to the unifier may be handed to it, and what it makes is derivable.
    attempt-sound : (maxidx : ℕ) (a : Attempt) (new : State) → greatest_index (indexed s) ≤ maxidx → Each (AreSidesCertified Q.declarations) a.matched → Each (AreIndexesUpTo maxidx) a.matched
        → ((u : Unifier) → Solves Q (unified_pairs s a) u → IsDerivable Q (theorem_of (with_unifier s others a u) all)) → EndsWell (algebra_of Q.declarations) maxidx s others a new → IsSound Q all new
    attempt-sound maxidx a new l certified indexes made e =
        let given : AreUnifiable Q maxidx (unified_pairs s a) = record {
          certified = each-append (AreSidesCertified Q.declarations) a.matched s.pairs certified own-certified;
          indexes = each-append (AreIndexesUpTo maxidx) a.matched s.pairs indexes (own-indexes maxidx l);
        } in
        let solves = solver Q k maxidx (unified_pairs s a) given e.unifier e.unified in
        becomes_sound Q k.content k.above (with_unifier s others a e.unifier) new all (left_pairs Q (unified_pairs s a) e.unifier solves) (made e.unifier solves) e.becomes

    module _ (fact : Theorem) (used : IsUsed Q fact rests all) (As : List Term) (B : Term) (r : IsRuleOf (indexed s) fact As B) where
      pub is-rule : (made : State) → IsRuleFor Q (theorem_of made all) fact (greatest_index (indexed s) + 1) As B
      is-rule made =
          let is = derivable_is_proposition Q k.content k.above fact used.derivable in
          record {
            used = record { no_hyps = used.no_hyps; no_pairs = used.no_pairs; rests = used.fact_rests };
            form = r.form;
            is_form = long_form_is_equated Q k.above [] prop fact.prop r.form (record { parts = is.certified.parts; typed = is.typed }) r.long;
            stripped = is-stripped r.strips;
          }

      pub proved : Proves Q [] all (chain As B)
      proved = rule-proved Q k.content k.above (theorem_of s all) fact (greatest_index (indexed s) + 1) As B (is-rule s) used.derivable

      pub index-above : greatest_index (indexed s) ≤ rule_maxidx (indexed s) fact
      index-above = omega arith

      rule-sound : (ps : List Item) (C : Term) → first ≡ behind ps C → (new : State) → EndsWell (algebra_of Q.declarations) (rule_maxidx (indexed s) fact) s others (rule_attempt ps C As B) new → IsSound Q all new
      rule-sound ps C is new e =
          let n : ℕ = rule_maxidx (indexed s) fact in
          let proposition = subst (IsProposition Q) is subgoals.0 in
          let up_to = parameters-up_to n ps C (subst (IsUpTo n) is (first-up_to n index-above)) in
          let rule = rule_up_to (indexed s) fact As B r in
          let lifted = lifted_propositions Q k.content k.above all ps C As B proposition proved in
          let a : Attempt = rule_attempt ps C As B in
          let stands : s.subgoals ≡ behind ps C ∷ others = stand ∙ ap (λ (A : Term). A ∷ others) is in
          attempt-sound n a new index-above
          ((closed_typed Q ps (lifted_behind ps B) lifted.conclusion, closed_typed Q ps C proposition), tt)
          ((has-indexes n (closed_pair ps (lifted_behind ps B) C).left (up_to-below n ps (lifted_behind ps B) up_to.0 (up_to-lifted_behind n ps B up_to.0 rule.conclusion)), has-indexes n (closed_pair ps (lifted_behind ps B) C).right (up_to-below n ps C up_to.0 up_to.1)), tt)
          (λ u solves.
          rule_step Q k.content k.above (theorem_of s rests) (theorem_of (with_unifier s others a u) all) others (protect s.statement) (unifier_typs u) (unifier_terms u) ps C fact (greatest_index (indexed s) + 1) As B
          (attempt_step Q k.content s (behind ps C) others a u rests all stands solves lifted.premises subgoals.1 kept)
          (is-rule (with_unifier s others a u)) (matched_pairs Q k.content s (behind ps C) others a u rests all solves).0 h.derivable used.derivable)
          e

  pub rule_is_sound : (s new : State) (fact : Theorem) (rests all : List Label) → IsSound Q rests s → IsUsed Q fact rests all → RuleStep (algebra_of Q.declarations) s fact (Ok new) → IsSound Q all new
  rule_is_sound s new fact rests all h used (RuleStep.tried {ps = ps} {C = C} {others = others} {As = As} {B = B} f r g) =
      rule-sound s rests all h used.goal_rests f.subgoal others f.stand fact used As B r ps C f.read.stands new
      (ends-well (algebra_of Q.declarations) (rule_maxidx (indexed s) fact) s others (rule_attempt ps C As B) g.answer new g.unified g.follows)

  module _ (s : State) (rests all : List Label) (h : IsSound Q rests s) (kept : (l : Label) → IsIn l rests → IsIn l all) (first : Term) (others : List Term) (stand : s.subgoals ≡ first ∷ others) (place : Place) (C : Term) (is : first ≡ behind (around place) C) where
    stands : s.subgoals ≡ behind (around place) C ∷ others
    stands = stand ∙ ap (λ (A : Term). A ∷ others) is

    pub whole-proposition : IsProposition Q (behind (around place) C)
    whole-proposition = subst (IsProposition Q) is (subgoals s rests all h kept first others stand).0

    pub up-to : (n : ℕ) → greatest_index (indexed s) ≤ n → IsUpTo n (behind (around place) C)
    up-to n l = subst (IsUpTo n) is (first-up_to s rests all h kept first others stand n l)

    -- The hypothesis behind the prefix.
    pub hypothesis-proposition : IsProposition Q (behind (around place) (standing place))
    hypothesis-proposition =
        proved_is_proposition Q k.content k.above [] rests (behind (around place) (standing place))
        (hypothesis_is_proved Q k.content k.above [] rests (around place) (standing place) C whole-proposition (hypothesis-there place.before place.hypothesis place.after))

    assumption-sound : (new : State) → EndsWell (algebra_of Q.declarations) (greatest_index (indexed s)) s others (assumption_attempt C place) new → IsSound Q all new
    assumption-sound new e =
        let n : ℕ = greatest_index (indexed s) in
        let ps : List Item = around place in
        let a : Attempt = assumption_attempt C place in
        let whole = up-to n (omega arith) in
        let parts = parameters-up_to n ps C whole in
        let hypothesis = standing-up_to n place.before place.hypothesis place.after C whole in
        attempt-sound s rests all h kept first others stand n a new (omega arith)
        ((closed_typed Q ps (standing place) hypothesis-proposition, closed_typed Q ps C whole-proposition), tt)
        ((has-indexes n (closed_pair ps (standing place) C).left (up_to-below n ps (standing place) parts.0 hypothesis), has-indexes n (closed_pair ps (standing place) C).right (up_to-below n ps C parts.0 parts.1)), tt)
        (λ u solves.
        assumption_step Q k.content k.above (theorem_of s rests) (theorem_of (with_unifier s others a u) all) others (protect s.statement) (unifier_typs u) (unifier_terms u) ps (standing place) C
        (attempt_step Q k.content s (behind ps C) others a u rests all stands solves tt (subgoals s rests all h kept first others stand).1 kept)
        (hypothesis-there place.before place.hypothesis place.after) (matched_pairs Q k.content s (behind ps C) others a u rests all solves).0 h.derivable)
        e

    module _ (fact : Theorem) (used : IsUsed Q fact rests all) (P : Term) (As : List Term) (B : Term) (r : IsRuleOf (indexed s) fact (P ∷ As) B) where
      pub its-proof : Proves Q [] all (chain (P ∷ As) B)
      its-proof = proved s rests all h kept first others stand fact used (P ∷ As) B r

      rule-for : (made : State) → IsRuleFor Q (theorem_of made all) fact (greatest_index (indexed s) + 1) (P ∷ As) B
      rule-for made = is-rule s rests all h kept first others stand fact used (P ∷ As) B r made

      pub without-proposition : IsProposition Q (behind (without place) C)
      without-proposition = without_hypothesis Q k.content k.above place.before place.hypothesis place.after C whole-proposition

      pub eliminated-certified : AreSidesCertified Q.declarations (closed_pair (around place) (lifted_behind (around place) P) (standing place))
      eliminated-certified =
          let lifted = lifted_propositions Q k.content k.above all (around place) C (P ∷ As) B whole-proposition its-proof in
          (closed_typed Q (around place) (lifted_behind (around place) P) lifted.premises.0, closed_typed Q (around place) (standing place) hypothesis-proposition)

      pub conclusion-certified : AreSidesCertified Q.declarations (closed_pair (around place) (lifted_behind (around place) B) C)
      conclusion-certified =
          let lifted = lifted_propositions Q k.content k.above all (around place) C (P ∷ As) B whole-proposition its-proof in
          (closed_typed Q (around place) (lifted_behind (around place) B) lifted.conclusion, closed_typed Q (around place) C whole-proposition)

      pub eliminated-indexes : AreIndexesUpTo (rule_maxidx (indexed s) fact) (closed_pair (around place) (lifted_behind (around place) P) (standing place))
      eliminated-indexes =
          let n : ℕ = rule_maxidx (indexed s) fact in
          let ps : List Item = around place in
          let whole = up-to n (omega arith) in
          let parts = parameters-up_to n ps C whole in
          let hypothesis = standing-up_to n place.before place.hypothesis place.after C whole in
          let rule = rule_up_to (indexed s) fact (P ∷ As) B r in (
            has-indexes n (closed_pair ps (lifted_behind ps P) (standing place)).left (up_to-below n ps (lifted_behind ps P) parts.0 (up_to-lifted_behind n ps P parts.0 rule.premises.0)),
            has-indexes n (closed_pair ps (lifted_behind ps P) (standing place)).right (up_to-below n ps (standing place) parts.0 hypothesis),
          )

      pub conclusion-indexes : AreIndexesUpTo (rule_maxidx (indexed s) fact) (closed_pair (around place) (lifted_behind (around place) B) C)
      conclusion-indexes =
          let n : ℕ = rule_maxidx (indexed s) fact in
          let ps : List Item = around place in
          let parts = parameters-up_to n ps C (up-to n (omega arith)) in
          let rule = rule_up_to (indexed s) fact (P ∷ As) B r in (
            has-indexes n (closed_pair ps (lifted_behind ps B) C).left (up_to-below n ps (lifted_behind ps B) parts.0 (up_to-lifted_behind n ps B parts.0 rule.conclusion)),
            has-indexes n (closed_pair ps (lifted_behind ps B) C).right (up_to-below n ps C parts.0 parts.1),
          )

      elimination-sound : (new : State) → EndsWell (algebra_of Q.declarations) (rule_maxidx (indexed s) fact) s others (elimination_attempt C P As B place) new → IsSound Q all new
      elimination-sound new e =
          let n : ℕ = rule_maxidx (indexed s) fact in
          let ps : List Item = around place in
          let a : Attempt = elimination_attempt C P As B place in
          let lifted = lifted_propositions Q k.content k.above all (without place) C (P ∷ As) B without-proposition its-proof in
          attempt-sound s rests all h kept first others stand n a new (omega arith) (conclusion-certified, (eliminated-certified, tt)) (conclusion-indexes, (eliminated-indexes, tt))
          (λ u solves.
          let matched = matched_pairs Q k.content s (behind ps C) others a u rests all solves in
          elimination_step Q k.content k.above (theorem_of s rests) (theorem_of (with_unifier s others a u) all) others (protect s.statement) (unifier_typs u) (unifier_terms u)
          place.before place.hypothesis place.after C fact (greatest_index (indexed s) + 1) P As B
          (attempt_step Q k.content s (behind ps C) others a u rests all stands solves lifted.premises.1 (subgoals s rests all h kept first others stand).1 kept)
          (rule-for (with_unifier s others a u)) matched.1.0 matched.0 h.derivable used.derivable)
          e

      -- The subgoal that destruction leaves.
      pub last-proposition : IsProposition Q (behind (without place ++ Hypothesis (lifted_behind (without place) B) ∷ []) C)
      last-proposition =
          let lifted = lifted_propositions Q k.content k.above all (without place) C (P ∷ As) B without-proposition its-proof in
          subst (IsProposition Q) (sym (behind-append (without place) (Hypothesis (lifted_behind (without place) B) ∷ []) C))
          (implication_behind Q k.above (without place) (lifted_behind (without place) B) C lifted.conclusion without-proposition)

      destruction-sound : (new : State) → EndsWell (algebra_of Q.declarations) (rule_maxidx (indexed s) fact) s others (destruction_attempt C P As B place) new → IsSound Q all new
      destruction-sound new e =
          let n : ℕ = rule_maxidx (indexed s) fact in
          let ps : List Item = around place in
          let a : Attempt = destruction_attempt C P As B place in
          let lifted = lifted_propositions Q k.content k.above all (without place) C (P ∷ As) B without-proposition its-proof in
          attempt-sound s rests all h kept first others stand n a new (omega arith) (eliminated-certified, tt) (eliminated-indexes, tt)
          (λ u solves.
          let matched = matched_pairs Q k.content s (behind ps C) others a u rests all solves in
          let f : Term → Term = term_instance (unifier_typs u) (unifier_terms u) in
          let last : Term = behind (without place ++ Hypothesis (lifted_behind (without place) B) ∷ []) C in
          let new_ones : map f (premises_behind (without place) As ++ last ∷ []) ≡ destructed_premises (unifier_typs u) (unifier_terms u) (without place) C As B = map-append f (premises_behind (without place) As) (last ∷ []) in
          let made : Theorem = theorem_of (with_unifier s others a u) all in
          let step = attempt_step Q k.content s (behind ps C) others a u rests all stands solves
          (each-append (IsProposition Q) (premises_behind (without place) As) (last ∷ []) lifted.premises.1 (last-proposition, tt)) (subgoals s rests all h kept first others stand).1 kept in
          destruction_step Q k.content k.above (theorem_of s rests) made others (protect s.statement) (unifier_typs u) (unifier_terms u)
          place.before place.hypothesis place.after C fact (greatest_index (indexed s) + 1) P As B
          (subst (λ (Ns : List Term). IsGoalStep Q (theorem_of s rests) made (behind ps C) others (protect s.statement) Ns (unifier_typs u) (unifier_terms u)) new_ones step)
          (rule-for (with_unifier s others a u)) matched.0 h.derivable used.derivable)
          e

  pub assumption_is_sound : (s new : State) (rests : List Label) → IsSound Q rests s → AssumptionStep (algebra_of Q.declarations) s (Ok new) → IsSound Q rests new
  assumption_is_sound s new rests h (AssumptionStep.tried {ps = ps} {C = C} {others = others} f g) =
      let found = some-ends-well (algebra_of Q.declarations) (greatest_index (indexed s)) s others (assumption_attempt C) new ps (places [] ps) (places-around [] ps) g in
      let is : f.subgoal ≡ behind (around found.place) C = f.read.stands ∙ ap (λ (qs : List Item). behind qs C) (sym found.stands) in
      assumption-sound s rests rests h (λ l m. m) f.subgoal others f.stand found.place C is new found.ends

  pub elimination_is_sound : (s new : State) (fact : Theorem) (rests all : List Label) → IsSound Q rests s → IsUsed Q fact rests all → EliminationStep (algebra_of Q.declarations) s fact (Ok new) → IsSound Q all new
  elimination_is_sound s new fact rests all h used (EliminationStep.tried {ps = ps} {C = C} {others = others} {P = P} {As = As} {B = B} f r g) =
      let found = some-ends-well (algebra_of Q.declarations) (rule_maxidx (indexed s) fact) s others (elimination_attempt C P As B) new ps (places [] ps) (places-around [] ps) g in
      let is : f.subgoal ≡ behind (around found.place) C = f.read.stands ∙ ap (λ (qs : List Item). behind qs C) (sym found.stands) in
      elimination-sound s rests all h used.goal_rests f.subgoal others f.stand found.place C is fact used P As B r new found.ends

  pub destruction_is_sound : (s new : State) (fact : Theorem) (rests all : List Label) → IsSound Q rests s → IsUsed Q fact rests all → DestructionStep (algebra_of Q.declarations) s fact (Ok new) → IsSound Q all new
  destruction_is_sound s new fact rests all h used (DestructionStep.tried {ps = ps} {C = C} {others = others} {P = P} {As = As} {B = B} f r g) =
      let found = some-ends-well (algebra_of Q.declarations) (rule_maxidx (indexed s) fact) s others (destruction_attempt C P As B) new ps (places [] ps) (places-around [] ps) g in
      let is : f.subgoal ≡ behind (around found.place) C = f.read.stands ∙ ap (λ (qs : List Item). behind qs C) (sym found.stands) in
      destruction-sound s rests all h used.goal_rests f.subgoal others f.stand found.place C is fact used P As B r new found.ends
