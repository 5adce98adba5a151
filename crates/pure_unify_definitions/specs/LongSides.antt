-- The sides of pairs in long form, and what stops a search.
use Rattle.std.specs.Prelude.{List, [], ◌∷◌}
use Rattle.pure_definitions.specs.Terms.Term.{Term, IsWithin}
use Rattle.pure_definitions.specs.Reduction.Beta.{IsBetaAnswer, TooLarge, NormalForm, TooManySteps}
use Rattle.pure_definitions.specs.Reduction.Eta.{IsLongForm}
use Rattle.pure_logic.specs.Derivable.{Pair}
use Rattle.pure_unify_definitions.specs.Fronts.{pair}

-- what stops a search
pub data Stop : Type 0 where
  Steps : Stop
  Big : Stop

-- what comes of a side: its long form, or a stop
pub data Side : Type 0 where
  Long : Term → Side
  Ends : Stop → Side

-- The side comes to its long form within the limits, or the normaliser stops it, or its long form isn't within the limits.
pub data ComesTo (t : Term) : Side → Type 0 where
  is_long : {n u : Term} → IsBetaAnswer t (NormalForm n) → IsLongForm n u → IsWithin u → ComesTo t (Long u)
  has_steps : IsBetaAnswer t TooManySteps → ComesTo t (Ends Steps)
  is_large : IsBetaAnswer t TooLarge → ComesTo t (Ends Big)
  is_wide : {n u : Term} → IsBetaAnswer t (NormalForm n) → IsLongForm n u → ¬ IsWithin u → ComesTo t (Ends Big)

-- what comes of pairs: their long forms, or a stop
pub data Sides : Type 0 where
  AllLong : List Pair → Sides
  Stopped : Stop → Sides

-- The pairs in order, of each the left side first, come to their long forms; the first side that comes to a stop decides.
pub data AreLong : List Pair → Sides → Type 0 where
  no_more : AreLong [] (AllLong [])
  left_stops : {p : Pair} {ps : List Pair} {s : Stop} → ComesTo p.left (Ends s) → AreLong (p ∷ ps) (Stopped s)
  right_stops : {p : Pair} {ps : List Pair} {l : Term} {s : Stop} → ComesTo p.left (Long l) → ComesTo p.right (Ends s) → AreLong (p ∷ ps) (Stopped s)
  later_stops : {p : Pair} {ps : List Pair} {l r : Term} {s : Stop} → ComesTo p.left (Long l) → ComesTo p.right (Long r) → AreLong ps (Stopped s) → AreLong (p ∷ ps) (Stopped s)
  both_long : {p : Pair} {ps qs : List Pair} {l r : Term} → ComesTo p.left (Long l) → ComesTo p.right (Long r) → AreLong ps (AllLong qs) → AreLong (p ∷ ps) (AllLong (pair l r ∷ qs))
