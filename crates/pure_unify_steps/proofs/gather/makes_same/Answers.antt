use Rattle.std.proofs.Common.{◌++◌, ◌∙◌}
use Rattle.pure_unify_definitions.specs.Fronts.{pair_variables}
use Rattle.pure_unify_steps.proofs.RetypeLaws.{same_in_node}
use Rattle.pure_unify_steps.proofs.gather.makes_same.Goals as goal

pub returns : goal.returns
returns c n e h =
    same_in_node n c.args.typs.now c.deref.result.now c.in_ok-same.same
    (c.deref.ensures.value ∙ (c.in_ok-push_pair_variables.ensures ∙ (λ i. (c.in_ok-list.ensures n.path.settings h) i ++ pair_variables (e i)))) c.in_ok-same.ensures
