use Rattle.pure_unify_visits.proofs.visits.visit_long.Goals as goal

pub returns-clause-answer : goal.returns-clause-answer
returns-clause-answer c n e h = c.simplify.ensures.answer n (c.scan_of-scan.ensures.node n (record { pairs = e; path = h }))
