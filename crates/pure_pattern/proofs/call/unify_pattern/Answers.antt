use Rattle.pure_pattern.proofs.AnswerLaws.{answer-solves, answer-most_general, answer-final}
use Rattle.pure_pattern.proofs.call.unify_pattern.Goals as goal

pub returns-clause-unifies : goal.returns-clause-unifies
returns-clause-unifies c = answer-solves c.args.maxidx c.args.pairs.now c.answered.result c.requires.ready c.answered.ensures

pub returns-clause-most_general : goal.returns-clause-most_general
returns-clause-most_general c = answer-most_general c.args.maxidx c.args.pairs.now c.answered.result c.requires.ready c.answered.ensures

pub returns-clause-unsolved : goal.returns-clause-unsolved
returns-clause-unsolved c = answer-final c.args.maxidx c.args.pairs.now c.answered.result c.requires.ready c.answered.ensures
