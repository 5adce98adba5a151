use Rattle.pure_promise_rows.proofs.theorems.assumed.Goals as goal

pub returns-in-Ok-assume : goal.returns-in-Ok-assume
returns-in-Ok-assume c = c.in-Ok-assume.ensures.derivable c.in-Ok.ensures.certified
