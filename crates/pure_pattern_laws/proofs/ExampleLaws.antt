-- The examples.
use Rattle.std.proofs.Common.{◌≡◌, ℕ, inl, inr, List, [], ◌∷◌, refl, sym, ◌∙◌, arith}
use Rattle.pure_definitions.specs.Types.Typ.{TVar, prop, arrow}
use Rattle.pure_definitions.specs.Types.Occurs.{OccursInTyp}
use Rattle.pure_definitions.specs.Terms.Term.{Free, Var, Bound, App, IsWithin}
use Rattle.pure_definitions.specs.Reduction.Eta.{EtaStep, EtaReduces, IsLongForm}
use Rattle.pure_term_laws.specs.LawsExamples.{i, a}
use Rattle.pure_eta.proofs.EtaStepLaws.{constant-normal, bound-normal}
use Rattle.pure_reduction.specs.LongForms.{HasLongForm}
use Rattle.pure_reduction.proofs.LongLaws.{long_form_of_normal}
use Rattle.pure_unify_definitions.specs.Fronts.{pair}
use Rattle.pure_unify_definitions.specs.Node.{bind}
use Rattle.pure_unify_answers.specs.Examples.{any_proposition, fixed_proposition, other_proposition}
use Rattle.pure_unify_final.specs.Examples.{any_function}
use Rattle.pure_pattern_laws.specs.Patterns.{IsPlace, HasPlaces, HasSchematicTyp}
use Rattle.pure_pattern_laws.specs.Treatment.{on_left, IsWritten, Sets, IsTreated}
use Rattle.pure_pattern_laws.specs.Steps.{Follows, Runs}
use Rattle.pure_pattern_laws.specs.Answers.{IsPatternAnswer}
use Rattle.pure_pattern_laws.specs.Examples.{two, PatternExample, AgreeingExample, SharedExample, PutExample, UnifiedExample, ClashExample, RefusedExample}

-- Patterns.
constant-place : (z : ℕ) → ¬ IsPlace a z
constant-place z (EtaReduces.next {u = u} s r) = constant-normal 30 i u s

pub pattern_example : PatternExample
pattern_example = (
  (λ e. (0 ∷ [], record { are = (EtaReduces.next (EtaStep.contract refl) EtaReduces.done, tt); distinct = ((λ m. m), tt) }), λ e. absurd (cc)),
  (λ p. (let k = p.0 refl in no_constant k.0 k.1)),
  (λ p. (let k = p.0 refl in no_twice k.0 k.1)),
)
  where
    no_constant : (zs : List ℕ) → HasPlaces (App any_function a) zs → ⊥
    no_constant [] h = h.are
    no_constant (z ∷ zs) h = constant-place z h.are.0

    same_place : (z : ℕ) → IsPlace (Bound 0) z → z ≡ 0
    same_place z EtaReduces.done = refl
    same_place z (EtaReduces.next {u = u} s r) = absurd (bound-normal 0 u s)

    no_twice : (zs : List ℕ) → HasPlaces (App (App (Var 0 0 two) (Bound 0)) (Bound 0)) zs → ⊥
    no_twice [] h = h.are
    no_twice (z ∷ []) h = h.are.1
    no_twice (z ∷ w ∷ zs) h = h.distinct.0 (inl (same_place z h.are.0 ∙ sym (same_place w h.are.1.0)))

pub agreeing_example : AgreeingExample
agreeing_example = refl

pub shared_example : SharedExample
shared_example = (refl, refl)

pub put_example : PutExample
put_example = refl

-- Propositions.
proposition-own : (x : ℕ) → IsLongForm (Free x prop) (Free x prop)
proposition-own x = record { typ = prop; typed = refl; long_typed = refl; reduces = EtaReduces.done; normal = tt; saturated = (prop, refl, refl); parts = tt }

proposition-within : (x : ℕ) → IsWithin (Free x prop)
proposition-within x = record { size = omega arith; depth = omega arith }

schematic-within : IsWithin any_proposition
schematic-within = record { size = omega arith; depth = omega arith }

first-step : IsTreated 1 any_proposition fixed_proposition (Sets (bind 0 0 prop fixed_proposition ∷ []))
first-step = IsTreated.imitates {f = any_proposition} {k = fixed_proposition} {zs = []} (on_left refl refl refl refl) (record { variable = refl; places = record { are = tt; distinct = tt } }) (λ e. absurd (cc)) IsWritten.fixed (proposition-own 0)

own-put : HasLongForm fixed_proposition fixed_proposition
own-put = long_form_of_normal fixed_proposition fixed_proposition (proposition-own 0)

pub unified_example : UnifiedExample
unified_example =
    IsPatternAnswer.decided ((λ h. no_schematic h), tt) ((tt, tt), tt)
    (Runs.next (record { sides = ((schematic-within, proposition-within 0), tt); images = tt }) (omega arith) (Follows.set {qs = pair fixed_proposition fixed_proposition ∷ []} [] refl first-step ((own-put, own-put), tt) tt)
    (Runs.next (record { sides = ((proposition-within 0, proposition-within 0), tt); images = (proposition-within 0, tt) }) (omega arith) (Follows.replaced refl (IsTreated.equal refl))
    (Runs.over (record { sides = tt; images = (proposition-within 0, tt) }) refl)))
    refl
  where
    no_schematic : HasSchematicTyp (pair any_proposition fixed_proposition) → ⊥
    no_schematic (x, j, s, inl o) = elim o [ inl e ↦ absurd (cc) | inr m ↦ m ]
    no_schematic (x, j, s, inr o) = elim o [ inl e ↦ absurd (cc) | inr m ↦ m ]

pub clash_example : ClashExample
clash_example =
    IsPatternAnswer.decided ((λ h. no_schematic h), tt) ((tt, tt), tt)
    (Runs.never (record { sides = ((proposition-within 0, proposition-within 1), tt); images = tt }) (omega arith) (record { first = pair fixed_proposition other_proposition; rest = []; are = refl; never = IsTreated.clash refl refl (λ e. absurd (cc)) })) refl
  where
    no_schematic : HasSchematicTyp (pair fixed_proposition other_proposition) → ⊥
    no_schematic (x, j, s, inl o) = elim o [ inl e ↦ absurd (cc) | inr m ↦ m ]
    no_schematic (x, j, s, inr o) = elim o [ inl e ↦ absurd (cc) | inr m ↦ m ]

pub refused_example : RefusedExample
refused_example =
    IsPatternAnswer.no_pattern ((λ h. no_schematic h), ((λ h. none_there h), tt))
    (record { front = pair any_proposition fixed_proposition ∷ []; element = pair (App any_function a) a; rest = []; is = refl; lacking = ((λ n. n (tt, tt)), tt); has = (λ p. pattern_example.1 p.0); place = refl })
  where
    no_schematic : HasSchematicTyp (pair any_proposition fixed_proposition) → ⊥
    no_schematic (x, j, s, inl o) = elim o [ inl e ↦ absurd (cc) | inr m ↦ m ]
    no_schematic (x, j, s, inr o) = elim o [ inl e ↦ absurd (cc) | inr m ↦ m ]

    no_base : (x j : ℕ) (s : List ℕ) → OccursInTyp (TVar x j s) i → ⊥
    no_base x j s (inl e) = absurd (cc)
    no_base x j s (inr m) = m

    no_function : (x j : ℕ) (s : List ℕ) → OccursInTyp (TVar x j s) (arrow i i) → ⊥
    no_function x j s (inl e) = absurd (cc)
    no_function x j s (inr (inl m)) = no_base x j s m
    no_function x j s (inr (inr (inl m))) = no_base x j s m
    no_function x j s (inr (inr (inr m))) = m

    none_there : HasSchematicTyp (pair (App any_function a) a) → ⊥
    none_there (x, j, s, inl (inl o)) = no_function x j s o
    none_there (x, j, s, inl (inr o)) = no_base x j s o
    none_there (x, j, s, inr o) = no_base x j s o
