use Rattle.pure_theorem.proofs.ClosedLaws.{closed-puttable}
use Rattle.pure_replay.proofs.quantification.put.Goals as goal

pub subst_bound-requires : goal.subst_bound-requires
subst_bound-requires c = closed-puttable 0 c.args.t.now c.args.body.now c.requires
