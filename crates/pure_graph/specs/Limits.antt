-- The limits of loading.
use Rattle.std.specs.Prelude.{ℕ, nat_eq, if◌then◌else◌}

-- files that are read
abbrev pub most_files : ℕ
most_files = 256

-- bytes of a file
abbrev pub most_bytes : ℕ
most_bytes = 262144

-- parts of a theory of this version
abbrev pub most_parts : (version : ℕ) → ℕ
most_parts version = if nat_eq version 1 then 512 else 1024

-- parts of a theory, whichever its version
abbrev pub parts_bound : ℕ
parts_bound = 1024

-- numbered steps of a proof
abbrev pub most_steps : ℕ
most_steps = 1000

-- parts of a theory of this version and of all before it together
abbrev pub most_session_parts : (version : ℕ) → ℕ
most_session_parts version = if nat_eq version 1 then 4096 else 8192

-- parts of all theories together, whichever their versions
abbrev pub session_parts_bound : ℕ
session_parts_bound = 8192
