use Rattle.pure_unify.proofs.ChildLaws.{child_stopped, child_visited, child_simple}
use Rattle.pure_unify.proofs.child.visit_child.Goals as goal

pub returns-in-Err-clause-answer : goal.returns-in-Err-clause-answer
returns-in-Err-clause-answer c n is =
    child_stopped c.args.order.now c.args.maxidx c.args.frame.now n c.args.image c.in_ok-setting.setting c.deref.result.now c.in-Err.fault is c.in_ok-setting.ensures c.deref.ensures.value c.in-Err.ensures.fault

pub returns-clause-answer : goal.returns-clause-answer
returns-clause-answer c n is =
    child_visited c.args.order.now c.args.maxidx c.args.frame.now n c.args.image c.in_ok-setting.setting c.deref.result.now c.in-Ok.pairs.items c.in_ok-path.path c.visit_long.result is c.in_ok-setting.ensures c.deref.ensures.value c.in-Ok.ensures.ok
    c.in_ok-path.ensures c.visit_long.ensures.answer

pub returns-clause-simple : goal.returns-clause-simple
returns-clause-simple c =
    child_simple c.args.order.now c.args.maxidx c.args.frame.now c.args.image c.visit_long.result c.requires.ready
    (child_visited c.args.order.now c.args.maxidx c.args.frame.now c.requires.ready.parent c.args.image c.in_ok-setting.setting c.deref.result.now c.in-Ok.pairs.items c.in_ok-path.path c.visit_long.result c.requires.ready.held c.in_ok-setting.ensures
    c.deref.ensures.value c.in-Ok.ensures.ok c.in_ok-path.ensures c.visit_long.ensures.answer) c.visit_long.ensures.long
