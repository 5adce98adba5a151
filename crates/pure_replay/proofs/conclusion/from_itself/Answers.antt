use Rattle.std.proofs.Common.{List, [], ◌∷◌, ◌++◌, ◌∙◌, ap, sym, subst}
use Rattle.pure_definitions.specs.Terms.Term.{Term}
use Rattle.pure_theorem.specs.Sets.{IsTermSet}
use Rattle.pure_theorem.proofs.SetLaws.{one_term}
use Rattle.pure_replay.proofs.conclusion.from_itself.Goals as goal

pub invariant_of-result : goal.invariant_of-result
invariant_of-result c = subst IsTermSet (sym (c.in_ok-push.ensures.items ∙ ap (λ (xs : List Term). xs ++ c.in_ok-copy.field-0 ∷ []) c.new-hyps.ensures.items)) (one_term c.in_ok-copy.field-0)
