use Rattle.pure_text.proofs.AnswerLaws.{test_fails}
use Rattle.pure_kernel.proofs.NameTableLaws.{none-ascend, one-ascends, names-builtin, names-one}
use Rattle.pure_kernel.proofs.table.single.Goals as goal

pub returns-then-is_builtin-clause-ascend : goal.returns-then-is_builtin-clause-ascend
returns-then-is_builtin-clause-ascend c = none-ascend c.empty.result c.empty.ensures

pub returns-then-is_builtin-clause-texts : goal.returns-then-is_builtin-clause-texts
returns-then-is_builtin-clause-texts c = names-builtin c.args.text.now c.empty.result (c.is_builtin.ensures.0 c.if-is_builtin.true) c.empty.ensures

pub returns-clause-ascend : goal.returns-clause-ascend
returns-clause-ascend c = one-ascends c.args.text.now c.empty-list.result c.push.new.self c.empty-list.ensures c.in_ok-push.ensures

pub returns-clause-texts : goal.returns-clause-texts
returns-clause-texts c = names-one c.args.text.now c.empty-list.result c.push.new.self (test_fails _ c.is_builtin.result c.is_builtin.ensures c.if-is_builtin.false) c.empty-list.ensures c.in_ok-push.ensures
