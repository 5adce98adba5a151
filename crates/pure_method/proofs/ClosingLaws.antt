-- Subgoals are closed up to some state, and a goal ends somehow.
use Rattle.std.proofs.Common.{◌≡◌, ◌⊎◌, ℕ, zero, suc, ◌<◌, List, [], ◌∷◌, map, length, inl, inr, refl, ap, sym, subst, ◌∙◌, arith}
use Rattle.std.proofs.lemmas.List.{length-map}
use Rattle.std.specs.Prelude.{Result, Ok, Err}
use Rattle.std.specs.List.Sorted.{IsStrictlySortedBy}
use Rattle.pure_text.proofs.ListLaws.{each_imply, each_decided}
use Rattle.pure_definitions.specs.Names.{Label}
use Rattle.pure_definitions.specs.Types.Order.{Algebra}
use Rattle.pure_definitions.specs.Terms.Term.{Term, IsWithin}
use Rattle.pure_definitions.specs.Models.Comparison.{term_cmp}
use Rattle.pure_definitions.specs.Declarations.Decl.{algebra_of}
use Rattle.pure_term_laws.specs.LawsOccurs.{HasNoSchematic}
use Rattle.pure_logic.specs.Connectives.{protect, chain}
use Rattle.pure_logic.specs.Content.{Content}
use Rattle.pure_logic.specs.Derivable.{Pair, Theorem}
use Rattle.pure_theorem.specs.Sets.{IsSetOf}
use Rattle.pure_theorem.specs.Within.{IsPairWithin, AreWithin}
use Rattle.pure_unify_definitions.specs.Children.{IsFlexFlex}
use Rattle.pure_unify_definitions.specs.Search.{Answer, Unified, NoUnifier, SearchBound, Stopped}
use Rattle.pure_unify_laws.specs.Condition.{IsUnifyContent}
use Rattle.pure_resolve.proofs.UnifyAnswers.SolveLaws.{unifier_solves}
use Rattle.pure_resolve.proofs.UnifyAnswers.TreatmentLaws.{terms_same_or_not, term_within_or_not}
use Rattle.pure_resolve.specs.Pairs.Smash.{with_constants, pair_with, fresh_variable, Smashes}
use Rattle.pure_resolve.specs.GoalSteps.State.{State, theorem_of, IsLeftPair}
use Rattle.pure_resolve.specs.GoalSteps.Reading.{Place, places}
use Rattle.pure_resolve.specs.GoalSteps.Follows.{Outcome, AllLong, Come, all_long, Becomes, small, Follows, FollowsByFirst}
use Rattle.pure_resolve.specs.GoalSteps.Steps.{assumption_attempt, AssumptionStep, EndsAs}
use Rattle.pure_resolve.specs.GoalSteps.Derivability.{IsSound}
use Rattle.pure_resolve.specs.GoalSteps.declared.fault.StepFault.{StepFault}
use Rattle.pure_resolve.specs.GoalSteps.declared.fault.StepFault.TheVariants as fault
use Rattle.pure_resolve.proofs.GoalStepLaws.UnifiedLaws.{assumption_is_sound}
use Rattle.pure_method.specs.Outcomes.{HasOutcome}
use Rattle.pure_method.specs.Proof.{Closes}
use Rattle.pure_method.proofs.EndLaws.{smashed-kept}
use Rattle.pure_method.proofs.OutcomeLaws.{assumption_somehow}

none_below : (m : ℕ) → m < zero → ⊥
none_below m h = absurd (omega arith)

next_above : (m : ℕ) → m < suc m
next_above m = omega arith

lower : (a b c n : ℕ) → a ≡ b → c ≡ suc b → c < suc n → a < n
lower a b c n e f h = omega (arith, e, f)

come-length : (As Ss : List Term) → Come As (AllLong Ss) → length Ss ≡ length As
come-length [] [] f = refl
come-length [] (S ∷ Ss) f = elim f [ ]
come-length (A ∷ As) [] f = elim f [ ]
come-length (A ∷ As) (S ∷ Ss) (all_long f g) = ap suc (come-length As Ss g)

becomes-length : (made new : State) → Becomes made (Ok new) → length new.subgoals ≡ length made.subgoals
becomes-length made new (small {Ss = Ss} f w) = come-length made.subgoals Ss f

no-ok : (s : State) (f : StepFault) → ◌≡◌ {A = Outcome} (Ok s) (Err f) → ⊥
no-ok s f e = cc

-- A success by assumption takes one subgoal away.
module _ (s new : State) (others : List Term) (C : Term) where
  follows-length : (place : Place) (answer : Answer) → Follows s others (assumption_attempt C place) answer (Ok new) → length new.subgoals ≡ length others
  follows-length place (Unified u) f = becomes-length _ new f ∙ length-map others _
  follows-length place NoUnifier f = absurd (no-ok new _ f)
  follows-length place SearchBound f = absurd (no-ok new _ f)
  follows-length place (Stopped stop) f = absurd (no-ok new _ f)

  first-length : (A : Algebra) (maxidx : ℕ) (ps : List Place) → FollowsByFirst A maxidx s others (map (assumption_attempt C) ps) (Ok new) → length new.subgoals ≡ length others
  first-length A maxidx [] f = elim f [ ]
  first-length A maxidx (p ∷ ps) (FollowsByFirst.passed u rest) = first-length A maxidx ps rest
  first-length A maxidx (p ∷ ps) (FollowsByFirst.decided {answer = answer} u n f) = follows-length p answer f

pub fewer-subgoals : (A : Algebra) (s new : State) (n : ℕ) → AssumptionStep A s (Ok new) → length s.subgoals < suc n → length new.subgoals < n
fewer-subgoals A s new n (AssumptionStep.tried {ps = ps} {C = C} {others = others} i f) h =
    lower (length new.subgoals) (length others) (length s.subgoals) n (first-length s new others C A _ (places [] ps) f) (ap length i.stand) h

module _ (Q : Content) (k : IsUnifyContent Q) (rests : List Label) where
  abbrev A : Algebra
  A = algebra_of Q.declarations

  abbrev ClosesSo : State → Type 0
  ClosesSo s = (last : State) × Closes A s last

  closes-further : (n : ℕ) → ((next : State) → IsSound Q rests next → length next.subgoals < n → ClosesSo next) → (s : State) → IsSound Q rests s → length s.subgoals < suc n → HasOutcome (AssumptionStep A s) → ClosesSo s
  closes-further n closes s h l (Err f, step) = (s, Closes.stops step)
  closes-further n closes s h l (Ok next, step) =
      let rest = closes next (assumption_is_sound Q k unifier_solves s next rests h step) (fewer-subgoals A s next n step l) in
      (rest.0, Closes.goes_on step rest.1)

  closes-within : (n : ℕ) (s : State) → IsSound Q rests s → length s.subgoals < n → ClosesSo s
  closes-within zero s h l = absurd (none_below (length s.subgoals) l)
  closes-within (suc n) s h l = closes-further n (closes-within n) s h l (assumption_somehow Q k s rests h)

  pub closes_somehow : (s : State) → IsSound Q rests s → (last : State) × Closes A s last
  closes_somehow s h = closes-within (suc (length s.subgoals)) s h (next_above (length s.subgoals))

-- The pairs of a theorem without hypotheses are smashed.
abbrev SmashesSo : Theorem → Type 0
SmashesSo th = (smashed : Theorem) × Smashes th smashed

empty-set : (f : Term → Term) (hyps : List Term) → hyps ≡ [] → IsSetOf term_cmp (map f hyps) []
unfolding IsStrictlySortedBy
empty-set f hyps e = subst (λ (As : List Term). IsSetOf term_cmp (map f As) []) (sym e) (record { ascends = tt; members = λ x. (λ m. m, λ m. m) })

fewer-pairs : (n : ℕ) (p : Pair) (ps qs rs : List Pair) → qs ≡ p ∷ ps → length rs ≡ length ps → length qs < suc n → length rs < n
fewer-pairs n p ps qs rs e f h = lower (length rs) (length ps) (length qs) n f (ap length e) h

smash-further : (n : ℕ) → ((next : Theorem) → next.hyps ≡ [] → length next.pairs < n → SmashesSo next) → (th : Theorem) → th.hyps ≡ [] → length th.pairs < suc n → (ps : List Pair) → th.pairs ≡ ps → SmashesSo th
smash-further n smash th none l [] e = (th, Smashes.no_pair e)
smash-further n smash th none l (p ∷ ps) e = elim (terms_same_or_not p.left p.right) [
  | inl same ↦
      let rest = smash (record th { pairs = ps }) none (fewer-pairs n p ps th.pairs ps e refl l) in
      (rest.0, Smashes.trivial {p = p} {ps = ps} e same rest.1)
  | inr differ ↦
      let c : Term = fresh_variable th p in
      let next : Theorem = record { hyps = []; pairs = map (pair_with p c) ps; prop = with_constants p c th.prop; rests = th.rests } in
      let rest = smash next refl (fewer-pairs n p ps th.pairs (map (pair_with p c) ps) e (length-map ps (pair_with p c)) l) in
      (rest.0, Smashes.constants {next = next} {p = p} {ps = ps} e differ (record { hyps = empty-set (with_constants p c) th.hyps none; are_pairs = refl; prop = refl; rests = refl }) rest.1)
]

smash-within : (n : ℕ) (th : Theorem) → th.hyps ≡ [] → length th.pairs < n → SmashesSo th
smash-within zero th none l = absurd (none_below (length th.pairs) l)
smash-within (suc n) th none l = smash-further n (smash-within n) th none l th.pairs refl

some_smash : (th : Theorem) → th.hyps ≡ [] → SmashesSo th
some_smash th none = smash-within (suc (length th.pairs)) th none (next_above (length th.pairs))

pair_within_or_not : (p : Pair) → IsPairWithin p ⊎ ¬ IsPairWithin p
pair_within_or_not p = elim (term_within_or_not p.left) [
  | inr n ↦ inr (λ h. n h.0)
  | inl w ↦ elim (term_within_or_not p.right) [ inl v ↦ inl (w, v) | inr n ↦ inr (λ h. n h.1) ]
]

theorem_within_or_not : (th : Theorem) → AreWithin th ⊎ ¬ AreWithin th
theorem_within_or_not th = elim (each_decided IsWithin term_within_or_not th.hyps) [
  | inr n ↦ inr (λ h. n h.hyps)
  | inl hyps ↦ elim (each_decided IsPairWithin pair_within_or_not th.pairs) [
    | inr n ↦ inr (λ h. n h.pairs)
    | inl pairs ↦ elim (term_within_or_not th.prop) [ inr n ↦ inr (λ h. n h.prop) | inl prop ↦ inl (record { hyps = hyps; pairs = pairs; prop = prop }) ]
  ]
]

abbrev EndsSo : State → Type 0
EndsSo s = (end : Result Theorem StepFault) × EndsAs s end

pub ends_somehow : (Q : Content) → IsUnifyContent Q → (s : State) (rests : List Label) → IsSound Q rests s → HasNoSchematic s.statement → EndsSo s
ends_somehow Q k s rests h closed = by s.subgoals refl
  where
    measured : s.subgoals ≡ [] → (smashed : Theorem) → Smashes (theorem_of s []) smashed → AreWithin smashed ⊎ ¬ AreWithin smashed → EndsSo s
    measured e smashed m (inr wide) = (Err fault.Big, EndsAs.large e m wide)
    measured e smashed m (inl within) =
        let flexible = each_imply IsLeftPair IsFlexFlex s.pairs (λ p l. l.flexible) h.goal.left_pairs in
        let put = ap (λ (As : List Term). chain As (protect s.statement)) e in
        let kept = smashed-kept (theorem_of s []) smashed s.statement closed put refl flexible m in
        (Ok (record smashed { prop = s.statement }), EndsAs.proved e m within (kept.prop ∙ put))

    by : (As : List Term) → s.subgoals ≡ As → EndsSo s
    by (C ∷ As) e = (Err fault.SubgoalsLeft, EndsAs.subgoals_left e)
    by [] e = let found = some_smash (theorem_of s []) refl in measured e found.0 found.1 (theorem_within_or_not found.0)
