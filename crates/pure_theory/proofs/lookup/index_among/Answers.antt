use Rattle.std.proofs.Common.{sym, ap, ◌∙◌, take_all}
use Rattle.pure_text.proofs.AnswerLaws.{test_fails}
use Rattle.pure_text.proofs.ListLaws.{read_in}
use Rattle.pure_logic.specs.Content.{TheoryId}
use Rattle.pure_theory.proofs.LookupLaws.{name_next}
use Rattle.pure_theory.proofs.lookup.index_among.Goals as goal

pub returns-then-is_named : goal.returns-then-is_named
returns-then-is_named c = (
  c.theory-item.result,
  read_in c.args.theories.now c.loop-theory.theory-index c.theory-item.result c.loop-theory-test.true c.theory-item.is,
  ap (λ (t : TheoryId). t.name) (sym c.theory.view_is) ∙ c.is_named.ensures.0 c.if-is_named.true,
  ap (λ (t : TheoryId). t.index) (sym c.theory.view_is),
)

pub loop-theory-preserved : goal.loop-theory-preserved
loop-theory-preserved c =
    name_next c.args.theories.now c.args.name c.loop-theory.theory-index c.theory-item.result c.loop-theory-test.true c.theory-item.is c.loop-theory.invariant
    (λ n. test_fails _ c.is_named.result c.is_named.ensures c.if-is_named.false (ap (λ (t : TheoryId). t.name) c.theory.view_is ∙ n))

pub returns : goal.returns
returns c = rw (take_all c.loop-theory.theory-index c.args.theories.now c.loop-theory-test.false) at c.loop-theory.invariant
