use Rattle.std.proofs.Common.{◌≡◌, arith}
use Rattle.pure_elab.proofs.WalkLaws.{class_faults-turn}
use Rattle.pure_elab.proofs.faults.with_classes.Goals as goal

pub loop-class-preserved : goal.loop-class-preserved
loop-class-preserved g c =
    let V = g.L.Language.vocabulary c.args.language.now in
    let name : c.find_class-name.result ≡ V.class_written c.class-item.result.name = grind arith in
    let turn = class_faults-turn V c.args.best c.args.classes.now c.loop-class.class-index c.class-item.result c.loop-class-test.true c.class-item.is in
    grind arith
