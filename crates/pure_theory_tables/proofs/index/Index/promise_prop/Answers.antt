use Rattle.pure_theory_tables.proofs.IndexLaws.{found_promise, missed_promise}
use Rattle.pure_theory_tables.proofs.index.Index.promise_prop.Goals as goal

pub returns-in-Some : goal.returns-in-Some
returns-in-Some c ds h = (c.in-Some.ensures.0, found_promise c.args.self.now ds c.args.label c.in-Some.ensures.0 c.in-Some.prop.now h c.in-Some.ensures.1)

pub returns-in-None-promise_in_rest : goal.returns-in-None-promise_in_rest
returns-in-None-promise_in_rest c ds h = missed_promise c.args.self.now ds c.args.label h c.in-None.ensures c.in-None-promise_in_rest.ensures

pub returns-in-Some-promise_in_rest : goal.returns-in-Some-promise_in_rest
returns-in-Some-promise_in_rest c ds h =
    (c.in-Some-promise_in_rest.ensures.0, found_promise c.args.self.now ds c.args.label c.in-Some-promise_in_rest.ensures.0 c.in-Some-promise_in_rest.prop.now h c.in-Some-promise_in_rest.ensures.1)
