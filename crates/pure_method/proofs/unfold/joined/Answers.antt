use Rattle.std.proofs.Common.{◌≡◌, ◌∙◌, ap, sym, subst}
use Rattle.std.specs.Prelude.{Result}
use Rattle.pure_logic.specs.Connectives.{eq}
use Rattle.pure_logic.specs.Derivable.{Theorem}
use Rattle.pure_resolve.specs.GoalSteps.declared.fault.StepFault.{StepFault}
use Rattle.pure_method.specs.Taking.{IsJoin}
use Rattle.pure_method.proofs.ReadyLaws.{theory_content}
use Rattle.pure_method.proofs.ChainedLaws.{join_known}
use Rattle.pure_method.proofs.unfold.joined.Goals as goal

pub returns : goal.returns
returns c = λ first now last h k.
    let over : c.args.chain.now.prop ≡ eq c.in-Some.typ.now c.in-Some.first.now c.in-Some.field-0-2.now = sym (ap (λ (t : Theorem). t.prop) c.chain.view_is) ∙ c.in-Some.ensures in
    let under : c.args.link.now.prop ≡ eq c.in-Some-as_equation.field-0-0.now c.in-Some-as_equation.field-0-1.now c.in-Some-as_equation.last.now = sym (ap (λ (t : Theorem). t.prop) c.link.view_is) ∙ c.in-Some-as_equation.ensures in
    let made : c.in_ok-prop.prop ≡ eq c.in-Some.typ.now c.in-Some.first.now c.in-Some-as_equation.last.now = c.in_ok-prop.ensures ∙ λ i. eq c.in-Some.typ.now (c.in_ok-left.ensures i) (c.in_ok-right.ensures i) in
    subst (λ (r : Result Theorem StepFault). IsJoin c.args._theory.now first last c.args.chain.now c.args.link.now r) (sym c.inferred.ensures)
    (join_known c.args._theory.now (theory_content c.args._theory.now c.requires.content) first now last c.args.chain.now c.args.link.now h k c.in-Some.typ.now c.in-Some-as_equation.field-0-0.now
    c.in-Some.first.now c.in-Some.field-0-2.now c.in-Some-as_equation.field-0-1.now c.in-Some-as_equation.last.now over under c.in_ok-prop.prop made c.from_two.result c.from_two.ensures)
