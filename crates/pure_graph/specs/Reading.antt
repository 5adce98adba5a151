-- What the files of some theories say, each by itself and by its place among them.
use Rattle.std.specs.Prelude.{◌≡◌, ℕ, ◌+◌, Bool, true, false, List, [], ◌∷◌, Option, nat_lt, nat_le, if◌then◌else◌}
use Rattle.pure_graph.specs.Limits.{most_files, most_session_parts}
use Rattle.pure_graph.specs.Outcome.{Outcome, Refused, Stands, IsOwnOutcome, part_count}
use Rattle.pure_graph.specs.declared.outcome.Reason.TheVariants.{TooManyFiles, TooLarge}

-- a theory, and the bytes of its file, none where that is missing
pub record Answer : Type 0 where
  pub theory : List ℕ
  pub bytes : Option (List ℕ)

-- a theory, and what loading says of its file
pub record File : Type 0 where
  pub theory : List ℕ
  pub outcome : Outcome

-- what a file says by itself, if it is read at all
abbrev pub IsTried : (is_read : Bool) → Answer → Outcome → Type 0
IsTried true answer outcome = IsOwnOutcome answer.theory answer.bytes outcome
IsTried false answer outcome = outcome ≡ Refused TooManyFiles

-- Behind files with so many parts there is room for those of the file, by the limit of its version.
abbrev pub fits : (before : ℕ) → Outcome → Bool
fits before (Refused reason) = true
fits before (Stands source text) = nat_le (before + part_count text.commands) (most_session_parts text.version)

-- a file behind others with so many parts: with its own they may be too many
abbrev pub counted : (before : ℕ) → Outcome → Outcome
counted before outcome = if fits before outcome then outcome else Refused TooLarge

-- the parts of a file, none where it is refused
abbrev pub file_parts : Outcome → ℕ
file_parts (Refused reason) = 0
file_parts (Stands source text) = part_count text.commands

-- The files of theories in byte order, from the one at this place on, behind files with so many parts. The first 256
-- are read.
abbrev pub AreReadFrom : (place before : ℕ) → List Answer → List File → Type 0
AreReadFrom place before [] [] = Unit {0}
AreReadFrom place before (a ∷ answers) (f ∷ files) =
    (own : Outcome) × IsTried (nat_lt place most_files) a own × (f ≡ record { theory = a.theory; outcome = counted before own })
    × AreReadFrom (place + 1) (before + file_parts (counted before own)) answers files
AreReadFrom place before _ _ = ⊥

-- the files of these theories
abbrev pub AreRead : List Answer → List File → Type 0
AreRead answers files = AreReadFrom 0 0 answers files
