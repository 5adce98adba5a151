use Rattle.std.proofs.Common.{ℕ, List, subst}
use Rattle.pure_theory_run.specs.Method.Outcome.{IsProvable}
use Rattle.pure_theory_run.proofs.NamedLaws.{found-provable, found-theory}
use Rattle.pure_show.proofs.AnswerLaws.{none-shown, some-shown}
use Rattle.pure_show.proofs.named.show_lemma.Goals as goal

pub returns-in-None : goal.returns-in-None
returns-in-None c =
    none-shown c.args.checker.now.texts c.args.checker.now.theories _ _ _ c.in_ok-statements.ensures c.as_slice.ensures.value c.names.result.now c.names.ensures.value c.args.name.now c.in-None.ensures c.no_lemma.result c.no_lemma.ensures

pub shown_lemma-requires-clause-provable : goal.shown_lemma-requires-clause-provable
shown_lemma-requires-clause-provable c =
    subst (λ (ns : List (List ℕ)). IsProvable ns c.in-Some.duty.now) c.names.ensures.value
    (found-provable c.forks_provable.ensures c.statements_bind_forks.ensures c.args.checker.now.texts c.args.checker.now.theories c.requires _ _ _ c.in_ok-statements.ensures c.as_slice.ensures.value
    c.names.result.now c.names.ensures.value c.args.name.now c.in-Some.duty.now c.in-Some.ensures)

pub shown_lemma-requires-clause-theory : goal.shown_lemma-requires-clause-theory
shown_lemma-requires-clause-theory c =
    found-theory c.forks_stand.ensures c.statements_bind_forks.ensures c.args.checker.now.texts c.args.checker.now.theories c.requires _ _ _ c.in_ok-statements.ensures c.as_slice.ensures.value
    c.names.result.now c.args.name.now c.in-Some.duty.now c.in-Some.ensures

pub returns : goal.returns
returns c =
    some-shown c.args.checker.now.texts c.args.checker.now.theories _ _ _ c.in_ok-statements.ensures c.as_slice.ensures.value c.names.result.now c.names.ensures.value c.args.name.now c.in-Some.duty.now c.in-Some.ensures c.shown_lemma.result c.shown_lemma.ensures
