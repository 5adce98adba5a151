use Rattle.std.proofs.Common.{List, subst}
use Rattle.pure_text.specs.Lists.{Each}
use Rattle.pure_logic.specs.Derivable.{Pair}
use Rattle.pure_unify_nodes.specs.Long.{IsLongPair}
use Rattle.pure_unify.proofs.ChildLaws.{visited_answer}
use Rattle.pure_unify.proofs.OwnLaws.{own_pairs}
use Rattle.pure_unify.proofs.call.visit_long_root.Goals as goal

pub returns-clause-answer : goal.returns-clause-answer
returns-clause-answer c n is =
    visited_answer c.args.order.now c.args.maxidx n n.pairs c.visit_long.result (own_pairs n.pairs (subst (λ (ps : List Pair). Each IsLongPair ps) is.pairs c.requires.long)) (c.visit_long.ensures.answer n is.pairs is.path)
