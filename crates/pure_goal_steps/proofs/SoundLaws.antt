-- Steps without unification lead from derivable goals to derivable ones.
use Rattle.std.proofs.Common.{◌≡◌, ℕ, List, [], ◌∷◌, ◌++◌, Ok, refl, ap, subst}
use Rattle.pure_text.specs.Lists.{IsIn, Each}
use Rattle.pure_definitions.specs.Names.{Label}
use Rattle.pure_definitions.specs.Types.Typ.{Typ, prop}
use Rattle.pure_definitions.specs.Terms.Term.{Term}
use Rattle.pure_definitions.specs.Reduction.Eta.{IsLongForm, EtaReduces}
use Rattle.pure_term_laws.proofs.TypingLaws.{typed-once}
use Rattle.pure_logic.specs.Connectives.{protect, chain}
use Rattle.pure_logic.specs.Content.{Content, IsContent, IsBelow, IsProposition}
use Rattle.pure_logic.specs.PureContent.{pure_content}
use Rattle.pure_logic.specs.Derivable.{Pair, Theorem, IsDerivable}
use Rattle.pure_logic.proofs.PropositionLaws.{derivable_is_proposition}
use Rattle.pure_logic.proofs.EqualityLaws.{right-certified}
use Rattle.pure_equation_laws.specs.Equated.{IsTypedUnder, AreEquated}
use Rattle.pure_equation_laws.proofs.SidesLaws.{equated_are_typed}
use Rattle.pure_equation_laws.proofs.KeptLaws.{equated_modulo_others}
use Rattle.pure_equation_laws.proofs.PairsLaws.{proposition_is_replaced}
use Rattle.pure_unify_definitions.specs.LongSides.{Long, ComesTo, is_long}
use Rattle.pure_unify_laws.proofs.SettingLaws.{comes-equated}
use Rattle.pure_goal_laws.proofs.PrefixLaws.{premise_behind, conclusion_behind}
use Rattle.pure_goal_laws.proofs.StateLaws.{start_is_derivable, preferred_is_derivable, deferred_is_derivable}
use Rattle.pure_goal_laws.proofs.FactLaws.{conversion_step}
use Rattle.pure_goal_steps.specs.State.{State, proposition, theorem_of, IsLeftPair}
use Rattle.pure_goal_steps.specs.Follows.{AllLong, Come, no_more, all_long, Becomes, small}
use Rattle.pure_goal_steps.specs.Steps.{BeginsAs, PreferStep, DeferStep, ConversionStep}
use Rattle.pure_goal_steps.specs.Derivability.{IsSound}

long-itself : (t u : Term) → IsLongForm t u → IsLongForm u u
long-itself t u f = record { typ = f.typ; typed = f.long_typed; long_typed = f.long_typed; reduces = EtaReduces.done; normal = f.normal; saturated = f.saturated; parts = f.parts }

pub come-long : (t u : Term) → ComesTo t (Long u) → IsLongForm u u
come-long t u (is_long {n = n} b l w) = long-itself n u l

pub all-long : (As Ss : List Term) → Come As (AllLong Ss) → Each (λ A. IsLongForm A A) Ss
all-long [] [] no_more = tt
all-long [] (S ∷ Ss) f = elim f [ ]
all-long (A ∷ As) [] f = elim f [ ]
all-long (A ∷ As) (S ∷ Ss) (all_long f g) = (come-long A S f, all-long As Ss g)

module _ (Q : Content) (q : IsContent Q) (above : IsBelow pure_content Q) where
  typed-of : (A : Term) → IsProposition Q A → IsTypedUnder Q.declarations [] A prop
  typed-of A h = record { parts = h.certified.parts; typed = h.typed }

  -- A subgoal is equated with its long form.
  come-equated : (pairs : List Pair) (A S : Term) → IsProposition Q A → ComesTo A (Long S) → AreEquated Q.declarations pairs [] prop A S
  come-equated pairs A S h f =
      let found = comes-equated Q q above A S (prop, typed-of A h) f in
      let same : found.0 ≡ prop = typed-once [] A found.0 prop (equated_are_typed Q.declarations [] [] found.0 A S found.1).0.typed h.typed in
      equated_modulo_others Q.declarations [] pairs tt [] prop A S (subst (λ (T : Typ). AreEquated Q.declarations [] [] T A S) same found.1)

  chain-equated : (pairs : List Pair) (G : Term) (As Ss : List Term) → IsProposition Q (chain As G) → Come As (AllLong Ss) → AreEquated Q.declarations pairs [] prop (chain As G) (chain Ss G)
  chain-equated pairs G [] [] h no_more = AreEquated.same (typed-of G h)
  chain-equated pairs G [] (S ∷ Ss) h f = elim f [ ]
  chain-equated pairs G (A ∷ As) [] h f = elim f [ ]
  chain-equated pairs G (A ∷ As) (S ∷ Ss) h (all_long f g) =
      let first = premise_behind Q [] A (chain As G) h in
      let rest = conclusion_behind Q [] A (chain As G) h in
      let connective = AreEquated.same (record { parts = h.certified.parts.0.0; typed = refl }) in
      AreEquated.application (AreEquated.application connective (come-equated pairs A S first f)) (chain-equated pairs G As Ss rest g)

  pub becomes_sound : (made s : State) (rests : List Label) → Each IsLeftPair made.pairs → IsDerivable Q (theorem_of made rests) → Becomes made (Ok s) → IsSound Q rests s
  becomes_sound made s rests pairs h (small {Ss = Ss} f w) =
      let th : Theorem = theorem_of made rests in
      let whole = derivable_is_proposition Q q above th h in
      let equated = chain-equated made.pairs (protect made.statement) made.subgoals Ss whole f in
      record {
        goal = record { long_subgoals = all-long made.subgoals Ss f; left_pairs = pairs };
        derivable = proposition_is_replaced Q q above th (chain Ss (protect made.statement)) equated h;
      }

  pub begins_sound : (C : Term) (s : State) → IsProposition Q C → BeginsAs C (Ok s) → IsSound Q [] s
  begins_sound C s h f =
      becomes_sound (record { statement = C; subgoals = C ∷ []; pairs = [] }) s [] tt (start_is_derivable Q q above C C (AreEquated.same (typed-of C h))) f

  pub preferred_is_sound : (s new : State) (n : ℕ) (rests : List Label) → IsSound Q rests s → PreferStep s n (Ok new) → IsSound Q rests new
  preferred_is_sound s new n rests h (PreferStep.preferred before A after e c f) =
      let put : proposition s ≡ chain (before ++ A ∷ after) (protect s.statement) = ap (λ (As : List Term). chain As (protect s.statement)) e in
      becomes_sound (record s { subgoals = A ∷ (before ++ after) }) new rests h.goal.left_pairs (preferred_is_derivable Q q above (theorem_of s rests) before A after (protect s.statement) put h.derivable) f

  pub deferred_is_sound : (s new : State) (rests : List Label) → IsSound Q rests s → DeferStep s (Ok new) → IsSound Q rests new
  deferred_is_sound s new rests h (DeferStep.deferred A others e f) =
      let put : proposition s ≡ chain (A ∷ others) (protect s.statement) = ap (λ (As : List Term). chain As (protect s.statement)) e in
      becomes_sound (record s { subgoals = others ++ A ∷ [] }) new rests h.goal.left_pairs (deferred_is_derivable Q q above (theorem_of s rests) A others (protect s.statement) put h.derivable) f

  pub converted_is_sound : (s new : State) (equation : Theorem) (rests all : List Label) → IsSound Q rests s → equation.hyps ≡ [] → equation.pairs ≡ [] → IsDerivable Q equation
      → ((l : Label) → IsIn l rests → IsIn l all) → ((l : Label) → IsIn l equation.rests → IsIn l all) → ConversionStep s equation (Ok new) → IsSound Q all new
  converted_is_sound s new equation rests all h no_hyps no_pairs d kept more f =
      let put : proposition s ≡ chain (f.left ∷ f.others) (protect s.statement) = ap (λ (As : List Term). chain As (protect s.statement)) f.stand in
      let right = right-proposition (derivable_is_proposition Q q above equation d) in
      let made = conversion_step Q q above (theorem_of s rests) equation f.left f.right f.right f.others (protect s.statement) all refl put kept
      (AreEquated.same (typed-of f.right right)) (record { no_hyps = no_hyps; no_pairs = no_pairs; rests = more }) f.equates h.derivable d in
      becomes_sound (record s { subgoals = f.right ∷ f.others }) new all h.goal.left_pairs made f.becomes
    where
      right-proposition : IsProposition Q equation.prop → IsProposition Q f.right
      right-proposition p = right-certified Q q above [] [] prop f.left f.right (rw f.equates at p)
