use Rattle.std.proofs.Common.{◌≡◌, ◌+◌, ◌*◌, map, take}
use Rattle.pure_grammar.specs.Terms.RawTree.{raw_typs_of}
use Rattle.pure_read.specs.RawDepth.{raw_typ_depth, raw_typs_depth}
use Rattle.pure_elab.specs.Table.{sort_among}
use Rattle.pure_elab.specs.Written.{written_typ}
use Rattle.pure_elab.proofs.written.+written_typ.Given as goal

abbrev pub decreases-written_typ : goal.decreases-written_typ
decreases-written_typ g l = 2 * raw_typ_depth l.raw.now

abbrev pub decreases-written_typs : goal.decreases-written_typs
decreases-written_typs g l = 2 * raw_typs_depth (raw_typs_of l.args.now) + 1

-- the types so far
abbrev pub invariant-written_typs-loop-arg : goal.invariant-written_typs-loop-arg
invariant-written_typs-loop-arg g l = l.typs.items ≡ map (written_typ (g.L.Language.vocabulary l.language) (sort_among l.sorts)) (take l.arg-index l.args)
