use Rattle.std.proofs.Common.{refl}
use Rattle.pure_definitions.proofs.GrownLemmas.{leaves-node}
use Rattle.pure_inst.proofs.image.node_leaves.Goals as goal

pub returns : goal.returns
returns c = leaves-node c.args.left c.args.room _ _ _ _ c.instance_leaves.result refl refl c.if-left-eq0.false c.if-room-eq0.false c.instance_leaves.ensures
