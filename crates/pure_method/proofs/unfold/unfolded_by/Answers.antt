use Rattle.std.proofs.Common.{ap, sym, subst}
use Rattle.std.specs.Prelude.{Result}
use Rattle.pure_definitions.specs.Types.Typ.{prop}
use Rattle.pure_definitions.specs.Terms.Term.{Term}
use Rattle.pure_logic.specs.Content.{IsProposition}
use Rattle.pure_logic.specs.Derivable.{Theorem}
use Rattle.pure_resolve.specs.GoalSteps.declared.fault.StepFault.{StepFault}
use Rattle.pure_method.specs.Taking.{IsLinked, step_answer}
use Rattle.pure_method.proofs.ReadyLaws.{theory_content}
use Rattle.pure_method.proofs.ChainedLaws.{come-to, now-proposition, linked}
use Rattle.pure_method.proofs.unfold.unfolded_by.Goals as goal

pub unfold-requires : goal.unfold-requires
unfold-requires c =
    let same = come-to c.args.theory.now c.requires.chain.0 c.requires.chain.1 c.args.chain.now c.chain.inside.prop c.in-Some.field-0-0.now c.in-Some.field-0-1.now c.in-Some.now.now
    (ap (λ (t : Theorem). t.prop) c.chain.view_is) c.in-Some.ensures c.requires.chain.2 in
    let is = subst (λ (t : Term). IsProposition c.args.theory.now t) (sym same) (now-proposition c.args.theory.now (theory_content c.args.theory.now c.requires.content) c.requires.chain.0 c.requires.chain.1 c.args.chain.now c.requires.chain.2) in
    (prop, is.typed)

pub returns : goal.returns
returns c = λ first now h.
    let q = theory_content c.args.theory.now c.requires.content in
    let same = come-to c.args.theory.now first now c.args.chain.now c.chain.inside.prop c.in-Some.field-0-0.now c.in-Some.field-0-1.now c.in-Some.now.now
    (ap (λ (t : Theorem). t.prop) c.chain.view_is) c.in-Some.ensures h in
    let is = subst (λ (t : Term). IsProposition c.args.theory.now t) (sym same) (now-proposition c.args.theory.now q first now c.args.chain.now h) in
    let derivable = c.unfold.ensures.derivable q c.requires.fact.no_hyps c.requires.fact.no_pairs c.requires.fact.derivable is.certified in
    let there = linked c.args.theory.now c.args.fact.now c.requires.fact c.in-Some.now.now is.typed c.unfold.result c.unfold.ensures.answer derivable in
    subst (λ (r : Result Theorem StepFault). IsLinked c.args.theory.now now c.args.fact.now r) (sym c.step_answer.ensures)
    (subst (λ (t : Term). IsLinked c.args.theory.now t c.args.fact.now (step_answer c.unfold.result)) same there)
