-- Putting the types of a list into a room for nodes, one after another.
use Rattle.std.proofs.Common.{◌≡◌, ℕ, ◌+◌, ◌-◌, ◌<◌, ◌≤◌, List, length, get_or, take, Some, None, arith}
use Rattle.pure_definitions.specs.Types.Typ.{Typ, typ_size, typs_size, typ_depth, typs_depth, typs_of}
use Rattle.pure_definitions.specs.Terms.Limits.{Leaves}
use Rattle.pure_definitions.proofs.TypsLemmas.{typs_size-take, typs_depth-take, typs_size-take-le, typs_depth-take-le}

-- After i types of the list, so much room is left.
pub record HasPut (ts : List Typ) (left room i rest : ℕ) : Type 0 where
  pub size : rest + (1 + typs_size (typs_of (take i ts))) ≡ left
  pub depth : 1 + typs_depth (typs_of (take i ts)) ≤ room

pub put-stops : (ts : List Typ) (left room i rest : ℕ) (t : Typ) → HasPut ts left room i rest → i < length ts → t ≡ get_or ts i t → Leaves rest (room - 1) (typ_size t) (typ_depth t) None
    → Leaves left room (1 + typs_size (typs_of ts)) (1 + typs_depth (typs_of ts)) None
put-stops ts left room i rest t h k e none = λ fits.
    let size = typs_size-take ts i t k e in
    let depth = typs_depth-take ts i t k e in
    let within = typs_size-take-le ts (i + 1) in
    let below = typs_depth-take-le ts (i + 1) in
    let small : typ_size t ≤ rest = omega arith in
    let deep : room - 1 < typ_depth t = none small in
    omega arith

pub put-goes_on : (ts : List Typ) (left room i rest less : ℕ) (t : Typ) → HasPut ts left room i rest → i < length ts → t ≡ get_or ts i t → Leaves rest (room - 1) (typ_size t) (typ_depth t) (Some less)
    → HasPut ts left room (i + 1) less
put-goes_on ts left room i rest less t h k e some =
    let size = typs_size-take ts i t k e in
    let depth = typs_depth-take ts i t k e in
    record { size = omega arith; depth = omega arith }
