use Rattle.std.proofs.Common.{◌≡◌, ◌+◌, ◌*◌, take}
use Rattle.pure_grammar.specs.Terms.RawTree.{raw_typs_of}
use Rattle.pure_read.specs.RawDepth.{raw_typ_depth, raw_typs_depth}
use Rattle.pure_elab.specs.Faults.{earliest, typs_faults}
use Rattle.pure_elab.proofs.faults.+typ_faults.Given as goal

abbrev pub decreases-with_typ : goal.decreases-with_typ
decreases-with_typ g l = 2 * raw_typ_depth l.raw.now

abbrev pub decreases-with_typs : goal.decreases-with_typs
decreases-with_typs g l = 2 * raw_typs_depth (raw_typs_of l.args.now) + 1

-- the one that decides so far
abbrev pub invariant-with_typs-loop-arg : goal.invariant-with_typs-loop-arg
invariant-with_typs-loop-arg g l = l.found ≡ earliest l.fn.best (typs_faults (g.L.Language.vocabulary l.language) (raw_typs_of (take l.arg-index l.args)))
