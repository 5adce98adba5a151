use Rattle.pure_theorem.proofs.ClosedLaws.{closed-puttable}
use Rattle.pure_rules.proofs.quantification.applied.Goals as goal

pub subst_bound-requires : goal.subst_bound-requires
subst_bound-requires c = closed-puttable 0 c.args.t.now c.deref.result.now c.requires
