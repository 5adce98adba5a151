use Rattle.pure_unify_definitions.specs.Node.{node_variables}
use Rattle.pure_unify_steps.proofs.GatherLaws.{same_written}
use Rattle.pure_unify_steps.proofs.RetypeLaws.{settings_at, are_same_there, are_apart_there, apart_some, apart_fault}
use Rattle.pure_unify_steps.proofs.retype.put_apart.Goals as goal

pub returns-in-Ok-true-clause-answer : goal.returns-in-Ok-true-clause-answer
returns-in-Ok-true-clause-answer c n e h sets w =
    same_written sets c.args.map (node_variables n) w.0
    (are_same_there n c.args.map c.in-Ok-true.field-0 c.in-Ok-true.field-0-test (c.in-Ok-true.ensures n e (settings_at c.deref.result.now c.args.path.now.settings.items n.path.settings c.deref.ensures.value h.settings)))

pub returns-in-Ok-clause-answer : goal.returns-in-Ok-clause-answer
returns-in-Ok-clause-answer c n e h sets w =
    apart_some n c.args.map sets c.args.next c.args.pairs.now c.in-Ok.made w.0 e
    (are_apart_there n c.args.map c.in-Ok-false.field-0 c.in-Ok-false.field-0-test (c.in-Ok-false.ensures n e (settings_at c.deref.result.now c.args.path.now.settings.items n.path.settings c.deref.ensures.value h.settings)))
    (c.in-Ok.ensures.answer sets w)

pub returns-in-Ok-clause-put : goal.returns-in-Ok-clause-put
returns-in-Ok-clause-put c sets w = (c.in-Ok.ensures.answer sets w).2

pub returns-in-Err-put_map-clause-answer : goal.returns-in-Err-put_map-clause-answer
returns-in-Err-put_map-clause-answer c n e h sets w =
    apart_fault n c.args.map sets c.args.next c.args.pairs.now c.in-Err-put_map.fault w.0 e
    (are_apart_there n c.args.map c.in-Ok-false.field-0 c.in-Ok-false.field-0-test (c.in-Ok-false.ensures n e (settings_at c.deref.result.now c.args.path.now.settings.items n.path.settings c.deref.ensures.value h.settings)))
    (c.in-Err-put_map.ensures.answer sets w)
