use Rattle.std.proofs.Common.{map, refl}
use Rattle.pure_tunify.specs.GraphCode.{part_of}
use Rattle.pure_tunify.proofs.GraphClassLaws.{closing, closed_false, closed_true}
use Rattle.pure_tunify.proofs.classes.close.Goals as goal

pub returns-then-not-can : goal.returns-then-not-can
returns-then-not-can c = λ A v fits kept.
    closed_false (map part_of c.args.nodes.now) c.loop.classes c.join.new.classes c.in_ok-can.can
    (closing (map part_of c.args.nodes.now) c.loop.classes (record { parent = c.loop.classes.parent; shape = c.loop.classes.shape; work = c.pop.new.self }) c.join.new.classes c.in-Some.couple c.in_ok-can.can refl refl c.in-Some.ensures.items c.in_ok-can.ensures)
    c.if-not-can.true A v fits (c.loop.invariant A v fits kept)

pub loop-preserved : goal.loop-preserved
loop-preserved c = λ A v fits kept.
    closed_true (map part_of c.args.nodes.now) c.loop.classes c.join.new.classes c.in_ok-can.can
    (closing (map part_of c.args.nodes.now) c.loop.classes (record { parent = c.loop.classes.parent; shape = c.loop.classes.shape; work = c.pop.new.self }) c.join.new.classes c.in-Some.couple c.in_ok-can.can refl refl c.in-Some.ensures.items c.in_ok-can.ensures)
    c.if-not-can.false A v fits (c.loop.invariant A v fits kept)
