use Rattle.std.proofs.Common.{◌≡◌, List, ap, subst}
use Rattle.pure_definitions.specs.Names.{Label}
use Rattle.pure_definitions.specs.Declarations.Decl.{algebra_of}
use Rattle.pure_resolve.proofs.UseLaws.{assumption_none, assumption_derivable}
use Rattle.pure_definitions.specs.Terms.Term.{Term}
use Rattle.pure_theorem.specs.Shapes.{IsNoImplication}
use Rattle.pure_resolve.specs.declared.state.Goal.{Goal}
use Rattle.pure_resolve.proofs.state.Goal.assumption_while.Goals as goal

pub returns-in-None-clause-answer : goal.returns-in-None-clause-answer
returns-in-None-clause-answer g c =
    assumption_none (algebra_of (g.B.Base.content c.args.thy.now).declarations) c.args.self.now.thm c.requires.is (subst (λ (P : Term). IsNoImplication P) (ap (λ (x : Goal). x.thm.prop) c.self.view_is) c.in-None.ensures) (λ (all : List Label). all ≡ c.args.self.now.thm.rests)

pub returns-in-Some-clause-derivable : goal.returns-in-Some-clause-derivable
returns-in-Some-clause-derivable g c = λ k. assumption_derivable (g.B.Base.content c.args.thy.now) c.args.self.now.thm c.requires k c.assumed.result c.assumed.ensures
