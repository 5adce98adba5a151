use Rattle.std.proofs.Common.{◌∙◌, ap}
use Rattle.pure_theory.proofs.PureLaws.{pure_parts, pure_made}
use Rattle.pure_theory.proofs.theory.Theory.pure.Goals as goal

pub invariant_of-result : goal.invariant_of-result
invariant_of-result c = pure_parts _ _ _ c.in_ok-declared.ensures (ap (λ v. v.items) c.in_ok-ancestors.ensures ∙ c.new-none.ensures.items) (c.in_ok-order.ensures ∙ c.empty.ensures)

pub returns : goal.returns
returns c = pure_made _ _ c.in_ok-declared.ensures (ap (λ v. v.items) c.in_ok-ancestors.ensures ∙ c.new-none.ensures.items)
