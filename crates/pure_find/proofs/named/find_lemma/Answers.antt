use Rattle.pure_theory_run.proofs.NamedLaws.{found-provable}
use Rattle.pure_find.proofs.NamedLaws.{none-said, some-said}
use Rattle.pure_find.proofs.named.find_lemma.Goals as goal

pub returns-in-None : goal.returns-in-None
returns-in-None c =
    none-said c.args.checker.now.texts c.args.checker.now.theories _ _ _ c.in_ok-statements.ensures c.as_slice.ensures.value c.names-names.result.now c.names-names.ensures.value c.args.name.now c.in-None.ensures c.no_lemma.result c.no_lemma.ensures

pub found_for-requires : goal.found_for-requires
found_for-requires c =
    found-provable c.forks_provable.ensures c.statements_bind_forks.ensures c.args.checker.now.texts c.args.checker.now.theories c.requires _ _ _ c.in_ok-statements.ensures c.as_slice.ensures.value
    _ c.names-names.ensures.value c.args.name.now c.in-Some.duty.now c.in-Some.ensures

pub returns : goal.returns
returns c =
    some-said c.args.checker.now.texts c.args.checker.now.theories _ _ _ c.in_ok-statements.ensures c.as_slice.ensures.value c.names-names.result.now c.names-names.ensures.value c.args.name.now c.in-Some.duty.now c.in-Some.ensures c.found_for.result c.found_for.ensures
