use Rattle.std.proofs.Common.{map}
use Rattle.pure_tunify.specs.GraphCode.{part_of}
use Rattle.pure_tunify.proofs.GraphClassLaws.{closed_false, closed_true}
use Rattle.pure_tunify.proofs.classes.classes_of.Goals as goal

pub returns-then-not-can : goal.returns-then-not-can
returns-then-not-can c = λ A v fits same. closed_false (map part_of c.args.nodes.now) c.in_ok-classes.classes c.close.new.classes c.in_ok-can.can c.in_ok-can.ensures c.if-not-can.true A v fits (c.in_ok-classes.ensures v same)

pub returns : goal.returns
returns c = λ A v fits same.
    let kept = closed_true (map part_of c.args.nodes.now) c.in_ok-classes.classes c.close.new.classes c.in_ok-can.can c.in_ok-can.ensures c.if-not-can.false A v fits (c.in_ok-classes.ensures v same) in
    record { parent = c.flatten.ensures v kept.parent; shape = kept.shape; work = kept.work }
