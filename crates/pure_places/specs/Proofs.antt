-- A search through the tokens of a lemma's haves and of its own proof.
use Rattle.std.specs.Prelude.{Bool, true, false, List, [], ◌∷◌, ◌++◌, Option, Some, None, if◌then◌else◌}
use Rattle.pure_places.specs.Parts.{Part}
use Rattle.pure_places.specs.declared.mark.Mark.{Mark}
use Rattle.pure_places.specs.declared.mark.Mark.TheVariants as mark

abbrev pub is_have : Mark → Bool
is_have mark.Have = true
is_have _ = false

-- a token behind a proof
abbrev pub is_behind_proof : Mark → Bool
is_behind_proof mark.Word = true
is_behind_proof mark.Version = true
is_behind_proof mark.Begin = true
is_behind_proof mark.Kind = true
is_behind_proof mark.Lemma = true
is_behind_proof _ = false

-- an identifier is a method's word behind a parenthesis or a comma, as behind `apply` and `by`
abbrev pub calls_method : Mark → Bool
calls_method mark.Comma = true
calls_method _ = false

abbrev pub is_ident : Mark → Bool
is_ident mark.Ident = true
is_ident _ = false

-- What was found: the haves that are read, and the steps so far of the proof at hand.
pub record Proofs (P : Type 0) : Type 0 where
  pub haves : List (Part P)
  pub steps : List P

abbrev pub no_proofs : {P : Type 0} → Proofs P
no_proofs = record { haves = []; steps = [] }

-- A place in the search: in the proof of the have of this name, or in the lemma's own, with the place of `by`, if it stood,
-- and whether a method's word may come next; in front of a have's name; or behind the lemma.
pub data Stage (P : Type 0) : Type 0 where
  Within : (have : Option P) → (by : Option P) → (called : Bool) → Stage P
  Naming : Stage P
  Ended : Stage P

-- where the lemma's own proof begins, or a have
abbrev pub own_proof : {P : Type 0} → Stage P
own_proof = Within None None false

abbrev pub listed : {P : Type 0} → Option P → List P
listed None = []
listed (Some at) = at ∷ []

abbrev pub with_step : {P : Type 0} → Proofs P → P → Proofs P
with_step found at = record { haves = found.haves; steps = found.steps ++ at ∷ [] }

-- A proof ends: the place of `by` comes last, and a have is read.
abbrev pub closed : {P : Type 0} → (have by : Option P) → Proofs P → Proofs P
closed None by found = record { haves = found.haves; steps = found.steps ++ listed by }
closed (Some name) by found = record { haves = found.haves ++ (record { name = name; steps = found.steps ++ listed by }) ∷ []; steps = [] }

-- behind `done`
abbrev pub behind_done : {P : Type 0} → (have : Option P) → Stage P
behind_done None = Ended
behind_done (Some name) = own_proof

-- the search behind some tokens
pub record Search (P : Type 0) : Type 0 where
  pub stage : Stage P
  pub found : Proofs P

-- the proof of a have behind its name
abbrev pub named_at : {P : Type 0} → Bool → P → Stage P
named_at true at = Within (Some at) None false
named_at false at = Ended

-- how the search goes on at the word of a step or of a proof's end
abbrev pub step_begun : {P : Type 0} → (have : Option P) → Proofs P → Mark → P → Search P
step_begun have found mark.Apply at = record { stage = Within have None true; found = found }
step_begun have found mark.By at = record { stage = Within have (Some at) true; found = found }
step_begun have found mark.Move at = record { stage = Within have None false; found = with_step found at }
step_begun have found _ at = record { stage = behind_done have; found = closed have None (with_step found at) }

abbrev pub begins_step : Mark → Bool
begins_step mark.Apply = true
begins_step mark.By = true
begins_step mark.Move = true
begins_step mark.Done = true
begins_step _ = false

-- Behind the method of `by` a proof has ended, and the lemma's own begins.
abbrev pub begun : {P : Type 0} → (have by : Option P) → Proofs P → Mark → P → Search P
begun have None found m at = step_begun have found m at
begun have (Some by) found m at = step_begun None (closed have (Some by) found) m at

-- the search behind one more token, in a proof
abbrev pub met_within : {P : Type 0} → (have by : Option P) → (called : Bool) → Proofs P → Mark → P → Search P
met_within have by called found m at =
    if is_have m then record { stage = Naming; found = closed have by found }
    else (if is_behind_proof m then record { stage = Ended; found = closed have by found }
    else (if begins_step m then begun have by found m at
    else (if is_ident m then record { stage = Within have by false; found = if called then with_step found at else found }
    else record { stage = Within have by (calls_method m); found = found })))

-- The haves of a lemma, and the steps of its own proof.
abbrev pub proofs_in : {X P : Type 0} → (seen : X → Mark) → (place : X → List X → P) → Stage P → Proofs P → List X → Proofs P
proofs_in seen place Ended found xs = found
proofs_in seen place Naming found [] = found
proofs_in seen place Naming found (x ∷ xs) = proofs_in seen place (named_at (is_ident (seen x)) (place x xs)) found xs
proofs_in seen place (Within have by called) found [] = closed have by found
proofs_in seen place (Within have by called) found (x ∷ xs) =
    proofs_in seen place (met_within have by called found (seen x) (place x xs)).stage (met_within have by called found (seen x) (place x xs)).found xs
