use Rattle.pure_tunify.proofs.classes.flatten.Goals as goal

pub loop-at-preserved : goal.loop-at-preserved
loop-at-preserved c = λ v kept. let now = c.root-top.ensures v (c.loop-at.invariant v kept) in c.set_at.ensures v now.0 now.1
