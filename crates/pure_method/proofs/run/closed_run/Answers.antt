use Rattle.std.proofs.Common.{refl, sym, subst}
use Rattle.pure_grammar.specs.Theories.TheoryText.{Close}
use Rattle.pure_logic.specs.Content.{Content}
use Rattle.pure_unify_laws.specs.Condition.{IsUnifyContent}
use Rattle.pure_resolve.specs.Uses.{MayStep}
use Rattle.pure_method.proofs.ReadyLaws.{unify_content}
use Rattle.pure_method.proofs.RunLaws.{run-closed, closed-over}
use Rattle.pure_method.proofs.FurtherLaws.{closed-further}
use Rattle.pure_method.proofs.run.closed_run.Goals as goal

pub closed-requires-clause-content : goal.closed-requires-clause-content
closed-requires-clause-content g c = subst IsUnifyContent (sym c.theory_of.ensures.value) (unify_content c.args.duty.now.content c.theory_of.ensures.sound)

pub closed-requires-clause-goal : goal.closed-requires-clause-goal
closed-requires-clause-goal g c = subst (λ (Q : Content). MayStep Q c.args.run.goal.thm) (sym c.theory_of.ensures.value) c.requires.run.may

pub returns : goal.returns
returns g c = (
  run-closed c.args._names.now c.args.duty.now c.requires.provable c.args.run.goal.thm c.args.run.number c.args.run.at c.requires.run Close c.requires.close refl c.in_ok-goal.goal.thm
      (closed-over c.theory_of.result.now c.args.duty.now.content c.theory_of.ensures.value c.args.run.goal.thm c.in_ok-goal.goal.thm c.in_ok-goal.ensures) c.place_behind-at.result c.place_behind-at.ensures,
  c.place_behind-at.ensures,
  closed-further c.args._names.now c.args.duty.now c.args.run Close c.requires.close refl _
      (closed-over c.theory_of.result.now c.args.duty.now.content c.theory_of.ensures.value c.args.run.goal.thm c.in_ok-goal.goal.thm c.in_ok-goal.ensures) c.place_behind-at.ensures refl,
)
