use Rattle.std.proofs.Common.{◌≡◌, ◌∙◌, map, take, take_all, ap, arith}
use Rattle.pure_definitions.specs.Types.Typ.{typs_of}
use Rattle.pure_elab.specs.Table.{sort_among}
use Rattle.pure_elab.specs.Written.{written_typ}
use Rattle.pure_elab.proofs.WalkLaws.{map_turn, written-map, raw_depth-item}
use Rattle.pure_elab.proofs.written.+written_typ.Goals as goal

pub written_typs-written_typ-requires : goal.written_typs-written_typ-requires
written_typs-written_typ-requires g t c κs within =
    let inside = raw_depth-item c.args.args.now c.loop-arg.arg-index c.arg-item.result c.loop-arg-test.true c.arg-item.is in
    (omega arith, within)

pub written_typs-loop-arg-preserved : goal.written_typs-loop-arg-preserved
written_typs-loop-arg-preserved g t c =
    let f = written_typ (g.L.Language.vocabulary c.args.language.now) (sort_among c.args.sorts.now) in
    let typ = c.in_ok-typ.ensures in
    let pushed = c.in_ok-push.ensures.items in
    map_turn f c.args.args.now c.loop-arg.arg-index c.arg-item.result c.loop-arg.typs.items c.push.new.self.items c.loop-arg-test.true c.arg-item.is c.loop-arg.invariant (rw (← typ) pushed)

pub written_typs-returns : goal.written_typs-returns
written_typs-returns g t c =
    let V = g.L.Language.vocabulary c.args.language.now in
    let all : take c.loop-arg.arg-index c.args.args.now ≡ c.args.args.now = take_all c.loop-arg.arg-index c.args.args.now c.loop-arg-test.false in
    ap typs_of (c.loop-arg.invariant ∙ ap (map (written_typ V (sort_among c.args.sorts.now))) all) ∙ written-map V (sort_among c.args.sorts.now) c.args.args.now
