-- Proofs on their way that are counted.
use Rattle.std.proofs.Common.{◌≡◌, ◌∙◌, ◌<◌, ◌≤◌, ℕ, zero, suc, ◌+◌, List, [], ◌∷◌, length, drop, refl, sym, ap, subst, arith, Option, Some, None}
use Rattle.pure_table.specs.Declare.Notes.{Fork}
use Rattle.pure_table.specs.Method.Outcome.{IsOutcomeOf}
use Rattle.pure_table.specs.Method.Running.{place_left}
use Rattle.pure_table.specs.Method.declared.outcome.Outcome.{Outcome}
use Rattle.pure_table.specs.Method.declared.proving.Place.{Place}
use Rattle.pure_table.specs.Method.declared.proving.Place.TheVariants.{Runs, Refused, Broken}
use Rattle.pure_core.specs.Turns.{IsAdvance}
use Rattle.pure_check_work.specs.declared.attempt.Attempt.{Attempt}
use Rattle.pure_check_work.specs.Attempts.{Attempts, Steps}

rest-within : {A : Type 0} (k : ℕ) (xs : List A) → length (drop k xs) ≤ length xs
rest-within zero xs = omega arith
rest-within (suc k) [] = omega arith
rest-within (suc k) (x ∷ xs) = omega (arith, rest-within k xs)

-- at most as many steps are left as the proof has
pub left-within : (f : Fork) (p : Place) → place_left f p ≤ length f.script
left-within f (Runs run) = rest-within run.at f.script
left-within f Refused = omega arith
left-within f Broken = omega arith

-- a step is a turn of the work
pub advance-of : (texts : List (List ℕ)) (f : Fork) (old new : Attempt) (o : Option Outcome) → Steps texts f old new o → IsAdvance (Attempts texts) (IsOutcomeOf texts) (λ (a : Attempt). a.left) f old new o
advance-of texts f old new None h = h
advance-of texts f old new (Some outcome) h = h
