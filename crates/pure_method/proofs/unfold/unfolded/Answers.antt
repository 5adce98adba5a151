use Rattle.std.proofs.Common.{◌++◌, refl, ap, subst}
use Rattle.pure_definitions.specs.Terms.Term.{Term}
use Rattle.pure_theorem.specs.Sets.{label_cmp, IsSetOf}
use Rattle.pure_theorem.specs.Shapes.{IsNoImplication}
use Rattle.pure_resolve.specs.declared.state.Goal.{Goal}
use Rattle.pure_method.specs.Unfolding.{all_rests}
use Rattle.pure_method.proofs.ChainedLaws.{unfold-none}
use Rattle.pure_method.proofs.unfold.unfolded.Goals as goal

pub returns-in-None-clause-answer : goal.returns-in-None-clause-answer
returns-in-None-clause-answer c =
    unfold-none c.args.theory.now c.args.goal.now.thm c.requires.goal c.args.facts.now (IsSetOf label_cmp (c.args.goal.now.thm.rests ++ all_rests c.args.facts.now)) c.args.goal.now.thm.prop refl
    (subst (λ (P : Term). IsNoImplication P) (ap (λ (x : Goal). x.thm.prop) c.goal.view_is) c.in-None.ensures)
