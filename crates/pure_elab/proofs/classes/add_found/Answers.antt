use Rattle.std.proofs.Common.{◌≡◌, ◌+◌, ◌++◌, ◌∙◌, take, ap, arith}
use Rattle.pure_elab.specs.Written.{found_class, found_classes}
use Rattle.pure_elab.proofs.WalkLaws.{append_turn, found_classes-turn}
use Rattle.pure_elab.proofs.classes.add_found.Goals as goal

pub loop-raw-preserved : goal.loop-raw-preserved
loop-raw-preserved g c =
    let V = g.L.Language.vocabulary c.args.language.now in
    let found : c.find_class-found.result ≡ V.class_written c.raw-item.result.name = grind arith in
    append_turn c.args.written.now.items c.loop-raw.written.items c.add_one.new.written.items (found_class c.args.variable (V.class_written c.raw-item.result.name))
    (found_classes V c.args.variable (take c.loop-raw.raw-index c.args.classes.now)) (found_classes V c.args.variable (take (c.loop-raw.raw-index + 1) c.args.classes.now))
    c.loop-raw.invariant
    (c.in_ok-add_one.ensures ∙ ap (λ o. c.loop-raw.written.items ++ found_class c.args.variable o) found)
    (found_classes-turn V c.args.variable c.args.classes.now c.loop-raw.raw-index c.raw-item.result c.loop-raw-test.true c.raw-item.is)
