use Rattle.pure_elab.proofs.calls.solved.Goals as goal

pub returns-clause-ok : goal.returns-clause-ok
returns-clause-ok g c = record { unifier = c.in_ok-settings.settings; settled = c.in_ok-settings.ensures.ok; limited = c.in_ok-found.ensures }

pub put_in-requires : goal.put_in-requires
put_in-requires g c = c.in_ok-settings.ensures.ok.within.images
