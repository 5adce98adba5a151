use Rattle.pure_method.proofs.ChainedLaws.{taken, not-taken}
use Rattle.pure_method.proofs.unfold.further.Goals as goal

pub joined-answer-requires-clause-link : goal.joined-answer-requires-clause-link
joined-answer-requires-clause-link c = let before = c.requires.chain in let link = c.in-Ok.ensures before.0 before.1 before.2 in (before.1, link.0, link.3)

pub returns-in-Ok : goal.returns-in-Ok
returns-in-Ok c = λ first now h.
    let link = c.in-Ok.ensures first now h in
    taken c.args.theory.now first now link.0 c.args.fact.now c.args.chain.now c.in-Ok.link link.1 link.2 link.4 c.joined-answer.result (c.joined-answer.ensures first now link.0 h link.3)

pub returns-in-Err : goal.returns-in-Err
returns-in-Err c = λ first now h. not-taken c.args.theory.now first now c.args.fact.now c.args.chain.now c.in-Err.fault (c.in-Err.ensures first now h)
