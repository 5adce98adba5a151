use Rattle.pure_unify.proofs.ChildLaws.{same_node, same_simple}
use Rattle.pure_unify.proofs.search.settle_shared.Goals as goal

pub settle-requires-clause-simple : goal.settle-requires-clause-simple
settle-requires-clause-simple c = same_simple c.args.node c.in-Ok.shared c.in-Ok.ensures.pairs c.in-Ok.ensures.path c.requires.simple

pub returns-in-Ok-clause-answer : goal.returns-in-Ok-clause-answer
returns-in-Ok-clause-answer c A n m ns k is v hold e few =
    c.settle.ensures.answer A n m ns k (same_node c.args.node c.in-Ok.shared m c.in-Ok.ensures.pairs c.in-Ok.ensures.path is) v hold e few
