-- Where a proof stands, after a step.
use Rattle.std.proofs.Common.{◌≡◌, ℕ, zero, suc, ◌+◌, ◌<◌, List, [], ◌∷◌, length, drop, add-one, refl, ap, sym, subst, ◌∙◌, arith}
use Rattle.std.specs.Prelude.{Result, IfOk, Option, Some, MatchOption, ◌≢◌}
use Rattle.pure_grammar.specs.Theories.TheoryText as tree
use Rattle.pure_script.specs.Seen.{seen_step}
use Rattle.pure_script.specs.declared.theory.Step.{Step}
use Rattle.pure_script.specs.declared.theory.Step.TheVariants.{Rule, Erule, Drule, Assumption, Unfold, Prefer, Defer, Close, Done}
use Rattle.pure_declare.specs.Notes.{Fork}
use Rattle.pure_method.specs.Running.{IsRun, IsNext, IsPlace, IsTurn, LeadsOn, StopsAt, Proves, IsBroken, place_left, steps_left, turn_shown}
use Rattle.pure_method.specs.declared.run.Run.{Run}
use Rattle.pure_method.specs.declared.run.Next.{Next}
use Rattle.pure_method.specs.declared.run.Next.TheVariants.{Goes, Ends}
use Rattle.pure_method.specs.declared.proving.Place.{Place}
use Rattle.pure_method.specs.declared.proving.Place.TheVariants.{Runs, Refused, Broken}
use Rattle.pure_method.specs.declared.proving.Turn.{Turn}
use Rattle.pure_method.specs.declared.proving.Proving.{Proving}
use Rattle.pure_method.specs.Outcome.{IsOutcomeOf}
use Rattle.pure_method.specs.declared.outcome.Outcome.{Outcome}
use Rattle.pure_method.specs.declared.outcome.Outcome.TheVariants.{Fault}
use Rattle.pure_resolve.specs.GoalSteps.declared.fault.StepFault.TheVariants.{Big}
use Rattle.pure_method.proofs.RunLaws.{some-left}

-- The steps of the program that are seen as these are these.
pub seen-close : (s : Step) → seen_step s ≡ tree.Close → s ≡ Close
seen-close (Rule x) e = let no : ⊥ = cc in absurd no
seen-close (Erule x) e = let no : ⊥ = cc in absurd no
seen-close (Drule x) e = let no : ⊥ = cc in absurd no
seen-close Assumption e = let no : ⊥ = cc in absurd no
seen-close (Unfold xs) e = let no : ⊥ = cc in absurd no
seen-close (Prefer n) e = let no : ⊥ = cc in absurd no
seen-close Defer e = let no : ⊥ = cc in absurd no
seen-close Close e = refl
seen-close Done e = let no : ⊥ = cc in absurd no

pub seen-done : (s : Step) → seen_step s ≡ tree.Done → s ≡ Done
seen-done (Rule x) e = let no : ⊥ = cc in absurd no
seen-done (Erule x) e = let no : ⊥ = cc in absurd no
seen-done (Drule x) e = let no : ⊥ = cc in absurd no
seen-done Assumption e = let no : ⊥ = cc in absurd no
seen-done (Unfold xs) e = let no : ⊥ = cc in absurd no
seen-done (Prefer n) e = let no : ⊥ = cc in absurd no
seen-done Defer e = let no : ⊥ = cc in absurd no
seen-done Close e = let no : ⊥ = cc in absurd no
seen-done Done e = refl

pub first-is : (steps rest : List tree.Step) (s : Step) (t : Step) → steps ≡ seen_step s ∷ rest → s ≡ t → steps ≡ seen_step t ∷ rest
first-is steps rest s t e same = e ∙ ap (λ (x : Step). seen_step x ∷ rest) same

-- One step less is left behind a step.
one-less : (script : List tree.Step) (at : ℕ) → at < length script → length (drop (suc at) script) + 1 ≡ length (drop at script)
one-less [] at h = absurd (omega arith)
one-less (s ∷ steps) zero h = omega arith
one-less (s ∷ steps) (suc at) h = one-less steps at (omega arith)

left-behind : (script : List tree.Step) (at behind : ℕ) → at < length script → behind ≡ at + 1 → length (drop behind script) + 1 ≡ length (drop at script)
left-behind script at behind h e = subst (λ (n : ℕ). length (drop n script) + 1 ≡ length (drop at script)) (sym (e ∙ add-one at)) (one-less script at h)

runs-unbroken : (run : Run) → Runs run ≢ Broken
runs-unbroken run e = let no : ⊥ = cc in no

pub turn-there : (texts : List (List ℕ)) (f : Fork) (run : Run) → IsRun texts f run → (next : Next) → IsNext texts f run next → IsTurn texts f (Runs run) (turn_shown next)
turn-there texts f run h (Goes more) k = record { stands = k.0; unbroken = runs-unbroken more; outcome = left-behind f.script run.at more.at (some-left f.script run.at h.script) k.1; step = k.2 }
turn-there texts f run h (Ends same outcome) k = record { stands = k.0; unbroken = runs-unbroken same; outcome = k.1; step = k.2 }

pub refused-turn : (texts : List (List ℕ)) (f : Fork) (place : Place) → place ≡ Refused → IsPlace texts f place → IsTurn texts f place (record { place = Refused; outcome = Some (Fault 0 Big) })
refused-turn texts f place e h = record { stands = h_refused; unbroken = refused-unbroken; outcome = h_refused; step = subst (λ (p : Place). StopsAt texts f p (Fault 0 Big)) (sym e) refl }
  where
    h_refused : IsPlace texts f Refused
    h_refused = subst (IsPlace texts f) e h

    refused-unbroken : Refused ≢ Broken
    refused-unbroken d = let no : ⊥ = cc in no

pub turn-proves : (texts : List (List ℕ)) (f : Fork) (place : Place) (turn : Turn) → IsTurn texts f place turn → (new : Proving) → new.place ≡ turn.place → Proves texts f new
turn-proves texts f place turn t new e = subst (IsPlace texts f) (sym e) t.stands

pub turn-unbroken : (texts : List (List ℕ)) (f : Fork) (place : Place) (turn : Turn) → IsTurn texts f place turn → (new : Proving) → new.place ≡ turn.place → ¬ IsBroken new
turn-unbroken texts f place turn t new e = λ b. t.unbroken (sym e ∙ b)

pub turn-outcome : (texts : List (List ℕ)) (f : Fork) (place : Place) (turn : Turn) → IsTurn texts f place turn → (old new : Proving) → place ≡ old.place → new.place ≡ turn.place → (answer : Option Outcome) → answer ≡ turn.outcome
    → MatchOption answer (steps_left f new + 1 ≡ steps_left f old) (IsOutcomeOf texts f)
turn-outcome texts f place turn t old new e d answer a =
    subst (λ (k : (Place × Place) × Option Outcome). MatchOption k.1 (place_left f k.0.0 + 1 ≡ place_left f k.0.1) (IsOutcomeOf texts f)) (λ i. ((sym d i, e i), sym a i)) t.outcome

pub turn-step : (texts : List (List ℕ)) (f : Fork) (place : Place) (turn : Turn) → IsTurn texts f place turn → (old new : Proving) → place ≡ old.place → new.place ≡ turn.place → (answer : Option Outcome) → answer ≡ turn.outcome
    → MatchOption answer (LeadsOn texts f old.place new.place) (StopsAt texts f old.place)
turn-step texts f place turn t old new e d answer a =
    subst (λ (k : (Place × Place) × Option Outcome). MatchOption k.1 (LeadsOn texts f k.0.1 k.0.0) (StopsAt texts f k.0.1)) (λ i. ((sym d i, e i), sym a i)) t.step

pub turn-along : {E : Type 0} (texts : List (List ℕ)) (f : Fork) (run : Run) (place : Place) → place ≡ Runs run → (result : Result Turn E) → IfOk result (IsTurn texts f (Runs run)) → IfOk result (IsTurn texts f place)
turn-along texts f run place e result h = subst (λ (p : Place). IfOk result (IsTurn texts f p)) (sym e) h
