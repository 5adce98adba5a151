use Rattle.std.proofs.Common.{map, refl}
use Rattle.pure_tunify.specs.declared.classes.Classes.{Classes}
use Rattle.pure_tunify.specs.GraphCode.{part_of}
use Rattle.pure_tunify.proofs.GraphClassLaws.{joined_roots, turned_round}
use Rattle.pure_tunify.proofs.classes.join.Goals as goal

pub returns-then-left-right-2 : goal.returns-then-left-right-2
returns-then-left-right-2 c =
    let mid : Classes = record { parent = c.root-right.new.parent; shape = c.args.classes.now.shape; work = c.args.classes.now.work } in
    joined_roots (map part_of c.args.nodes.now) c.args.classes.now mid c.unite.new.classes c.root-left.new.parent.items
    c.args.couple.left c.args.couple.right c.root-left.result c.root-right.result c.in_ok-can.can c.root-left.ensures c.root-right.ensures refl refl c.in_ok-can.ensures

pub returns : goal.returns
returns c =
    let mid : Classes = record { parent = c.root-right.new.parent; shape = c.args.classes.now.shape; work = c.args.classes.now.work } in
    joined_roots (map part_of c.args.nodes.now) c.args.classes.now mid c.unite-2.new.classes c.root-left.new.parent.items
    c.args.couple.left c.args.couple.right c.root-left.result c.root-right.result c.in_ok-can-2.can c.root-left.ensures c.root-right.ensures refl refl
    (turned_round (map part_of c.args.nodes.now) mid c.unite-2.new.classes c.root-right.result c.root-left.result c.in_ok-can-2.can c.in_ok-can-2.ensures)
