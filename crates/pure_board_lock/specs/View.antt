-- What a seat of a desk knows.
use Rattle.std.specs.Prelude.{ℕ, ◌+◌, List, [], ◌∷◌, ◌++◌, Bool, true, false, ◌||◌, if◌then◌else◌, Option, Some, None}
use Rattle.pure_board_lock.specs.History.{longer}

-- What a seat knows: whether it is neither spent nor a note; the session, and how the object was opened; its number; the part of the history that it saw, and what it entered itself; whether it holds the object, and the history so far if it does; whether it counts the seats, and how many were made; the seats that it took in, each with its number and its entries; and what they had seen.
pub record View (K O E : Type 0) : Type 0 where
  pub lives : Bool
  pub session : Option K
  pub opening : Option O
  pub number : ℕ
  pub seen : List (ℕ × E)
  pub own : List E
  pub holds : Bool
  pub kept : List (ℕ × E)
  pub counts : Bool
  pub made : ℕ
  pub joined : List (ℕ × List E)
  pub earlier : List (List (ℕ × E))

-- a seat that knows nothing any more
abbrev pub spent : {K O E : Type 0} → View K O E
spent = record { lives = false; session = None; opening = None; number = 0; seen = []; own = []; holds = false; kept = []; counts = false; made = 0; joined = []; earlier = [] }

-- the first seat of a desk on which no object lies yet
abbrev pub first_seat : {K O E : Type 0} → K → View K O E
first_seat k = record { lives = true; session = Some k; opening = None; number = 0; seen = []; own = []; holds = false; kept = []; counts = true; made = 1; joined = []; earlier = [] }

-- the first seat, once an object lies there that was opened so
abbrev pub opened_seat : {K O E : Type 0} → View K O E → O → View K O E
opened_seat v o = record v { opening = Some o; holds = false }

-- the seat has taken the object, which this history led to
abbrev pub holding : {K O E : Type 0} → View K O E → List (ℕ × E) → View K O E
holding v log = record v { holds = true; kept = log }

-- the holder has seen the whole history
abbrev pub looking : {K O E : Type 0} → View K O E → View K O E
looking v = record v { seen = v.kept }

-- the holder has entered an event
abbrev pub entering : {K O E : Type 0} → View K O E → E → View K O E
entering v e = record v { kept = v.kept ++ (v.number, e) ∷ []; seen = v.kept ++ (v.number, e) ∷ []; own = v.own ++ e ∷ [] }

-- the seat holds nothing any more
abbrev pub releasing : {K O E : Type 0} → View K O E → View K O E
releasing v = record v { holds = false; kept = [] }

-- the seat that counts has made one more
abbrev pub splitting : {K O E : Type 0} → View K O E → View K O E
splitting v = record v { made = v.made + 1 }

-- the seat that was made: it has the next number, has seen as much, and has entered nothing
abbrev pub newcomer : {K O E : Type 0} → View K O E → View K O E
newcomer v = record { lives = true; session = v.session; opening = v.opening; number = v.made; seen = v.seen; own = []; holds = false; kept = []; counts = false; made = 0; joined = []; earlier = [] }

-- the first seat has taken in the second: it knows the longer of the two histories, and of both all else
abbrev pub joining : {K O E : Type 0} → View K O E → View K O E → View K O E
joining v w = record v { seen = longer v.seen w.seen; counts = v.counts || w.counts; made = if v.counts then v.made else w.made; joined = (w.number, w.own) ∷ (v.joined ++ w.joined); earlier = v.seen ∷ w.seen ∷ (v.earlier ++ w.earlier) }

-- a note of what the seat knows, which takes no step
abbrev pub noted : {K O E : Type 0} → View K O E → View K O E
noted v = record v { lives = false }
