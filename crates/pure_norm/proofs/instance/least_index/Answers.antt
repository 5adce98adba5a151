use Rattle.std.proofs.Common.{◌≤◌, List, arith, subst, ◌∙◌}
use Rattle.std.proofs.lemmas.List.{take_all}
use Rattle.pure_text.specs.Lists.{Each}
use Rattle.pure_definitions.specs.Terms.Subst.{TermBind}
use Rattle.pure_norm.proofs.InstanceLaws.{least_more}
use Rattle.pure_norm.proofs.instance.least_index.Goals as goal

pub loop-bind-preserved : goal.loop-bind-preserved
loop-bind-preserved c = least_more c.binds-binds.result.now c.loop-bind.bind-index c.loop-bind.least c.min-least.result c.bind-item.result c.loop-bind-test.true c.bind-item.is c.loop-bind.invariant (omega arith) (omega arith)

pub returns : goal.returns
returns c =
    subst (λ (bs : List TermBind). Each (λ (b : TermBind). c.loop-bind.least ≤ b.index) bs)
    (take_all c.loop-bind.bind-index c.binds-binds.result.now c.loop-bind-test.false ∙ c.binds-binds.ensures.are) c.loop-bind.invariant
