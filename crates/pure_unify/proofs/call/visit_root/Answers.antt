use Rattle.std.proofs.Common.{List, sym, subst, arith}
use Rattle.pure_text.specs.Lists.{Each}
use Rattle.pure_logic.specs.Derivable.{Pair}
use Rattle.pure_unify_definitions.specs.Node.{root}
use Rattle.pure_unify_nodes.specs.Long.{IsLongPair}
use Rattle.pure_unify.proofs.ChildLaws.{visit_simple}
use Rattle.pure_unify.proofs.call.visit_root.Goals as goal

pub visit_long_root-requires-clause-long : goal.visit_long_root-requires-clause-long
visit_long_root-requires-clause-long c = subst (λ (ps : List Pair). Each IsLongPair ps) (sym c.in_ok-root.ensures.pairs) (rw c.if-are_own.true at c.are_own.ensures)

pub returns-then-are_own-clause-answer : goal.returns-then-are_own-clause-answer
returns-then-are_own-clause-answer c = c.visit_long_root.ensures.answer (root c.args.pairs.now) c.in_ok-root.ensures.node

pub returns-then-are_own-clause-simple : goal.returns-then-are_own-clause-simple
returns-then-are_own-clause-simple c =
    visit_simple c.args.order.now c.args.maxidx (root c.args.pairs.now) c.visit_long_root.result (omega arith) (c.visit_long_root.ensures.answer (root c.args.pairs.now) c.in_ok-root.ensures.node) c.visit_long_root.ensures.long

pub returns-clause-simple : goal.returns-clause-simple
returns-clause-simple c = visit_simple c.args.order.now c.args.maxidx (root c.args.pairs.now) c.visit.result (omega arith) (c.visit.ensures.answer (root c.args.pairs.now) c.in_ok-root.ensures.node) c.visit.ensures.long
