use Rattle.std.proofs.Common.{◌≡◌, ◌+◌, ◌*◌, drop}
use Rattle.pure_definitions.specs.Types.Typ.{typ_depth, typs_depth, typs_of}
use Rattle.pure_definitions.specs.Models.Comparison.{typs_cmp}
use Rattle.pure_typ.proofs.typ.+compare_typ.Given as goal

abbrev pub decreases-compare_typs : goal.decreases-compare_typs
decreases-compare_typs l = 2 * typ_depth l.t.now

abbrev pub decreases-compare_args : goal.decreases-compare_args
decreases-compare_args l = 2 * typs_depth (typs_of l.ts.now) + 1

-- the types so far are equal, so those that are left decide
abbrev pub invariant-compare_args-loop-i : goal.invariant-compare_args-loop-i
invariant-compare_args-loop-i l = typs_cmp (typs_of l.ts) (typs_of l.us) ≡ typs_cmp (typs_of (drop l.i l.ts)) (typs_of (drop l.i l.us))
