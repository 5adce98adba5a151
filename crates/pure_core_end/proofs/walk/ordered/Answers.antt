use Rattle.std.proofs.Common.{rules, subst}
use Rattle.std.proofs.lemmas.Fn.{always_returns_same}
use Rattle.pure_core_end.specs.Promises.{AreInOrder}
use Rattle.pure_core_end.proofs.OrderLaws.{in-order}
use Rattle.pure_core_end.proofs.walk.ordered.Goals as goal

pub returns : goal.returns
returns g c = subst (λ ps. AreInOrder ps c.sort_by_key.new.self.items) c.in_ok-promises.ensures (in-order _ _ (c.in_ok-sort_by_key.ensures.sorted (λ p. p.theory) (always_returns_same _ _ _ (λ a r f' k. search rules))) (c.sort_by_key.ensures.stable (λ p. p.theory) (always_returns_same _ _ _ (λ a r f' k. search rules))))
