use Rattle.std.proofs.Common.{◌≡◌, ◌+◌, ◌*◌, ◌++◌, take}
use Rattle.pure_grammar.specs.Terms.RawTree.{raw_typs_of}
use Rattle.pure_read.specs.RawDepth.{raw_typ_depth, raw_typs_depth}
use Rattle.pure_elab.specs.Written.{typs_classes}
use Rattle.pure_elab.proofs.classes.+typ_classes.Given as goal

abbrev pub decreases-add_typ : goal.decreases-add_typ
decreases-add_typ g l = 2 * raw_typ_depth l.raw.now

abbrev pub decreases-add_typs : goal.decreases-add_typs
decreases-add_typs g l = 2 * raw_typs_depth (raw_typs_of l.args.now) + 1

-- those of the types so far were added
abbrev pub invariant-add_typs-loop-arg : goal.invariant-add_typs-loop-arg
invariant-add_typs-loop-arg g l = l.written.items ≡ l.initial.written.items ++ typs_classes (g.L.Language.vocabulary l.language) (raw_typs_of (take l.arg-index l.args))
