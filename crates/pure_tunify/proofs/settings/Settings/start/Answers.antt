use Rattle.pure_tunify.proofs.settings.Settings.start.Goals as goal

pub invariant_of-result : goal.invariant_of-result
invariant_of-result c = rw c.empty.ensures (record { triangular = tt; old = tt })
