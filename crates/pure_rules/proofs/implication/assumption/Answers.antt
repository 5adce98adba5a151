use Rattle.std.proofs.Common.{[], ◌∷◌, ◌++◌, ◌∙◌, ap, sym, subst, List}
use Rattle.pure_theorem.specs.Sets.{IsTermSet, IsLabelSet}
use Rattle.pure_definitions.specs.Terms.Term.{Term}
use Rattle.pure_theorem.proofs.SetLaws.{one_term, no_labels}
use Rattle.pure_rules.proofs.implication.assumption.Goals as goal

pub invariant_of-result : goal.invariant_of-result
invariant_of-result c =
    (subst IsTermSet (sym (c.in_ok-push.ensures.items ∙ ap (λ (xs : List Term). xs ++ c.in_ok-copy.field-0 ∷ []) c.new-hyps.ensures.items)) (one_term c.in_ok-copy.field-0), subst IsLabelSet (sym c.new-rests.ensures.items) no_labels)
