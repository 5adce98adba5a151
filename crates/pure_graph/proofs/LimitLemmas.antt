-- The limits of all versions.
use Rattle.std.proofs.Common.{◌≤◌, ℕ, Bool, true, false, cond, arith, nat_eq}
use Rattle.pure_graph.specs.Limits.{most_parts, parts_bound, most_session_parts, session_parts_bound}

pub parts-bounded : (version : ℕ) → most_parts version ≤ parts_bound
parts-bounded version = by (nat_eq version 1)
  where
    by : (is_one : Bool) → cond is_one 512 1024 ≤ parts_bound
    by true = omega arith
    by false = omega arith

pub session-parts-bounded : (version : ℕ) → most_session_parts version ≤ session_parts_bound
session-parts-bounded version = by (nat_eq version 1)
  where
    by : (is_one : Bool) → cond is_one 4096 8192 ≤ session_parts_bound
    by true = omega arith
    by false = omega arith
