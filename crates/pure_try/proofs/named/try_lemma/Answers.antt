use Rattle.pure_check_work.proofs.TheoryRun.NamedLaws.{found-provable}
use Rattle.pure_try.proofs.AnswerLaws.{answer-none, answer-some}
use Rattle.pure_try.proofs.named.try_lemma.Goals as goal

pub returns-in-None : goal.returns-in-None
returns-in-None g c =
    answer-none c.args.checker.now.texts c.args.checker.now.theories _ _ _ c.in_ok-statements.ensures c.as_slice.ensures.value _ c.names-names.ensures.value c.args.name.now c.in-None.ensures

pub first_method-requires-clause-provable : goal.first_method-requires-clause-provable
first_method-requires-clause-provable g c κs within =
    found-provable c.forks_provable.ensures c.statements_bind_forks.ensures c.args.checker.now.texts c.args.checker.now.theories c.requires.loaded _ _ _ c.in_ok-statements.ensures c.as_slice.ensures.value
    _ c.names-names.ensures.value c.args.name.now c.in-Some.duty.now c.in-Some.ensures

pub returns : goal.returns
returns g c =
    answer-some c.args.checker.now.texts c.args.checker.now.theories _ _ _ c.in_ok-statements.ensures c.as_slice.ensures.value _ c.names-names.ensures.value c.args.name.now c.in-Some.duty.now c.in-Some.ensures
    c.in_ok-first-in-Some.first c.in_ok-first-in-Some.ensures
