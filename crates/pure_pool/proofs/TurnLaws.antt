-- What follows from answers.
use Rattle.std.proofs.Common.{◌≡◌, ◌∙◌, ◌<◌, ℕ, suc, List, [], ◌∷◌, length, get_or, Bool, refl, arith, Option, Some, None, Result, Ok, Err}
use Rattle.pure_text.specs.Lists.{EachTwo}
use Rattle.std.specs.Prelude.{IfErr, MatchOption}
use Rattle.pure_core.specs.Turns.{IsAdvance}
use Rattle.pure_board.specs.Sight.{Sight}
use Rattle.pure_pool.specs.Held.{Held}
use Rattle.pure_pool.specs.Seated.{Has, HasSome, IsSameSeat}

-- what a seat has in hand it has after an error too
pub err-with : {A E W G C O : Type 0} (forks : W → ℕ → ℕ → ℕ → G → Type 0) (closes : W → ℕ → ℕ → C → Type 0) (may : W → G → O → Type 0) (is_fault : W → O → Bool) (r : Result A E) (v : Sight W G C O) (held : Held) → Has forks closes may is_fault v held → IfErr r (λ _. HasSome forks closes may is_fault v)
err-with forks closes may is_fault (Ok x) v held h = tt
err-with forks closes may is_fault (Err e) v held h = (held, h)

-- a step either goes on with the proof or gives an outcome
pub advance-read : {G O P : Type 0} (proves : G → P → Type 0) (may : G → O → Type 0) (left : P → ℕ) (g : G) (old new : P) (a : Option O) → IsAdvance proves may left g old new a → MatchOption a (proves g new) (may g)
advance-read proves may left g old new None h = h.0
advance-read proves may left g old new (Some o) h = h

-- it gave none
pub no-outcome : {O : Type 0} (on : Type 0) (ends : O → Type 0) (a : Option O) → ((o : O) → a ≡ Some o → ⊥) → MatchOption a on ends → on
no-outcome on ends None other h = h
no-outcome on ends (Some o) other h = absurd (other o refl)

pub same-then : {W G C O : Type 0} (a b c : Sight W G C O) → IsSameSeat a b → IsSameSeat b c → IsSameSeat a c
same-then a b c one two = record { plan = two.plan ∙ one.plan; opening = two.opening ∙ one.opening; number = two.number ∙ one.number }

-- what holds at each place holds of two lists
pub two_of : {A : Type 0} (R : A → A → Type 0) (xs ys : List A) → length ys ≡ length xs → ((i : ℕ) (d : A) → i < length xs → R (get_or xs i d) (get_or ys i d)) → EachTwo R xs ys
two_of R [] [] same h = tt
two_of R [] (y ∷ ys) same h = absurd (omega (arith, same))
two_of R (x ∷ xs) [] same h = absurd (omega (arith, same))
two_of R (x ∷ xs) (y ∷ ys) same h = (h 0 x (omega arith), two_of R xs ys (omega (arith, same)) (λ i d within. h (suc i) d (omega (arith, within))))
