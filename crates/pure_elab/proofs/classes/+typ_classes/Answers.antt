use Rattle.std.proofs.Common.{◌+◌, take, arith}
use Rattle.pure_grammar.specs.Terms.RawTree.{raw_typs_of}
use Rattle.pure_elab.specs.Written.{typ_classes, typs_classes}
use Rattle.pure_elab.proofs.WalkLaws.{append_turn, typs_classes-turn, raw_depth-item}
use Rattle.pure_elab.proofs.classes.+typ_classes.Goals as goal

pub add_typs-add_typ-requires : goal.add_typs-add_typ-requires
add_typs-add_typ-requires g t c κs within =
    let inside = raw_depth-item c.args.args.now c.loop-arg.arg-index c.arg-item.result c.loop-arg-test.true c.arg-item.is in
    (omega arith, within)

pub add_typs-loop-arg-preserved : goal.add_typs-loop-arg-preserved
add_typs-loop-arg-preserved g t c =
    let V = g.L.Language.vocabulary c.args.language.now in
    append_turn c.args.written.now.items c.loop-arg.written.items c.add_typ.new.written.items (typ_classes V c.arg-item.result)
    (typs_classes V (raw_typs_of (take c.loop-arg.arg-index c.args.args.now))) (typs_classes V (raw_typs_of (take (c.loop-arg.arg-index + 1) c.args.args.now)))
    c.loop-arg.invariant c.in_ok-add_typ.ensures (typs_classes-turn V c.args.args.now c.loop-arg.arg-index c.arg-item.result c.loop-arg-test.true c.arg-item.is)
