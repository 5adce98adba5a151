use Rattle.std.proofs.Common.{ℕ, List, subst}
use Rattle.pure_text.specs.Lists.{EachTwo, Each, IsIn}
use Rattle.pure_tunify.specs.GraphCode.{asked_at, root_at}
use Rattle.pure_tunify.proofs.ReachLaws.{on_true}
use Rattle.pure_tunify.proofs.agreement.is_met.Goals as goal

pub returns-else-not-are_sorts_asked : goal.returns-else-not-are_sorts_asked
returns-else-not-are_sorts_asked c =
    let each = subst (λ (kids : List ℕ). EachTwo (λ kid sort. Each (λ d. IsIn d (asked_at c.args.asked.now (root_at c.args.roots.now kid))) sort) kids c.in-Some.domains.now) c.as_slice-kids.ensures.value
    (on_true _ c.are_sorts_asked.result c.are_sorts_asked.ensures c.if-not-are_sorts_asked.false) in
    rw c.in-Made.is (c.in-Some.domains.now, λ ts. (c.in-Some.ensures.of_class ts).1, each)
