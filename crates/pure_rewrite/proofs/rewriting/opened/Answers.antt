use Rattle.pure_kernel.proofs.Theorems.ClosedLaws.{closed-puttable}
use Rattle.pure_rewrite.proofs.RewriteLaws.{variable-closed}
use Rattle.pure_rewrite.proofs.rewriting.opened.Goals as goal

pub subst_bound-requires : goal.subst_bound-requires
subst_bound-requires c = closed-puttable 0 c.args.x.now c.args.body.now (variable-closed c.args.x.now c.requires)
