use Rattle.std.proofs.Common.{ℕ, List, subst, arith, get_or}
use Rattle.pure_text.specs.Lists.{Each, IsIn}
use Rattle.pure_text.proofs.LoopLaws.{two_turn}
use Rattle.pure_tunify.specs.GraphCode.{asked_at, root_at}
use Rattle.pure_tunify.proofs.GraphClassLaws.{number_read}
use Rattle.pure_tunify.proofs.ReachLaws.{on_true}
use Rattle.pure_tunify.proofs.agreement.are_sorts_asked.Goals as goal

pub loop-i-preserved : goal.loop-i-preserved
loop-i-preserved c =
    two_turn (λ (kid : ℕ) (sort : List ℕ). Each (λ d. IsIn d (asked_at c.args.asked.now (root_at c.args.roots.now kid))) sort) c.args.kids.now c.args.domains.now c.loop-i.i (get_or c.args.kids.now c.loop-i.i 0) c.index-domains-i.result
    (omega (arith, c.if-kids-domains.false)) c.loop-i-test.true (number_read c.args.kids.now c.loop-i.i c.loop-i-test.true) c.index-domains-i.is c.loop-i.invariant
    (subst (λ (r : ℕ). Each (λ d. IsIn d (asked_at c.args.asked.now r)) c.index-domains-i.result) c.number_at-root.ensures (on_true _ c.is_sort_asked.result c.is_sort_asked.ensures c.if-not-is_sort_asked.false))
