-- What a worker remembers to have in hand at its seat.
use Rattle.std.specs.Prelude.{ℕ, Bool}
use Rattle.pure_board.specs.Sight.{Sight}
use Rattle.pure_pool.specs.Held.{Held, Nothing, Theory, Proof}
use Rattle.pure_pool.specs.Seated.{Has}
use Rattle.pure_plays.specs.declared.hands.Hand as hand
use Rattle.pure_plays.specs.declared.hands.Hand.TheVariants as hand_code

-- The seat has this in hand, at a work of which each goal may be forked, each value closes, each outcome may come, and those are faults that are true.
abbrev pub HasInHand : {W : Type 0} → Sight W Bool ℕ Bool → Held → Type 0
HasInHand v held = Has (λ s i n c g. Unit {0}) (λ s i n c. Unit {0}) (λ s g o. Unit {0}) (λ s o. o) v held

-- It has in hand what is remembered; nothing is claimed of a worker that is over.
abbrev pub IsInHand : {W : Type 0} → Sight W Bool ℕ Bool → hand.Hand → Type 0
IsInHand v hand_code.Nothing = HasInHand v Nothing
IsInHand v (hand_code.Theory index) = HasInHand v (Theory index)
IsInHand v (hand_code.Proof number) = HasInHand v (Proof number)
IsInHand v hand_code.Over = Unit {0}
