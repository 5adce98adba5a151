use Rattle.std.proofs.Common.{refl, ap, subst}
use Rattle.pure_definitions.specs.Types.Order.{IsCoregular}
use Rattle.pure_logic.specs.Content.{Content}
use Rattle.pure_theory.proofs.MergeLaws.{orders_agree, merged_order, merged_added}
use Rattle.pure_theory.proofs.begin.Merged.with.Goals as goal

pub merge-requires : goal.merge-requires
merge-requires c = orders_agree c.args.self.now c.args.theory.now.declarations c.order-own.result.now c.order-other.result.now c.order-own.ensures c.order-other.ensures c.requires

pub invariant_of-result : goal.invariant_of-result
invariant_of-result c =
    merged_order c.args.self.now c.args.theory.now.declarations _ _ _ c.order-own.result.now c.order-other.result.now _ _ c.self.view_is (ap (λ (Q : Content). Q.declarations) c.theory.view_is) c.order-own.ensures c.order-other.ensures c.in_ok-declared.ensures c.in_ok-united.ensures.in_order c.in_ok-order.ensures

pub returns-clause-ok : goal.returns-clause-ok
returns-clause-ok c =
    merged_added c.args.self.now c.args.theory.now.declarations _ _ _ c.self.view_is (ap (λ (Q : Content). Q.declarations) c.theory.view_is) c.in_ok-declared.ensures c.content_is_sound.ensures.distinct

pub returns-clause-coregular : goal.returns-clause-coregular
returns-clause-coregular c =
    subst IsCoregular (merged_order c.args.self.now c.args.theory.now.declarations _ _ _ c.order-own.result.now c.order-other.result.now _ _ c.self.view_is (ap (λ (Q : Content). Q.declarations) c.theory.view_is) c.order-own.ensures c.order-other.ensures c.in_ok-declared.ensures c.in_ok-united.ensures.in_order refl) c.in_ok-united.ensures.coregular
