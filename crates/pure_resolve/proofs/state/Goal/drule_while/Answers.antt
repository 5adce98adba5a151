use Rattle.std.proofs.Common.{◌++◌, ap, subst}
use Rattle.pure_definitions.specs.Declarations.Decl.{algebra_of}
use Rattle.pure_theorem.specs.Sets.{label_cmp, IsSetOf}
use Rattle.pure_resolve.proofs.UseLaws.{destruction_none, destruction_derivable}
use Rattle.pure_definitions.specs.Terms.Term.{Term}
use Rattle.pure_theorem.specs.Shapes.{IsNoImplication}
use Rattle.pure_resolve.specs.declared.state.Goal.{Goal}
use Rattle.pure_resolve.proofs.state.Goal.drule_while.Goals as goal

pub returns-in-None-clause-answer : goal.returns-in-None-clause-answer
returns-in-None-clause-answer g c =
    destruction_none (algebra_of (g.B.Base.content c.args.thy.now).declarations) c.args.self.now.thm c.args.fact.now c.requires.step.is (subst (λ (P : Term). IsNoImplication P) (ap (λ (x : Goal). x.thm.prop) c.self.view_is) c.in-None.ensures) (IsSetOf label_cmp (c.args.self.now.thm.rests ++ c.args.fact.now.rests))

pub returns-in-Some-clause-derivable : goal.returns-in-Some-clause-derivable
returns-in-Some-clause-derivable g c = λ k. destruction_derivable (g.B.Base.content c.args.thy.now) c.args.self.now.thm c.args.fact.now c.requires k c.destructed.result c.destructed.ensures
