use Rattle.pure_text.proofs.AnswerLaws.{test_fails}
use Rattle.pure_statements.specs.Statement.{IsLarge}
use Rattle.pure_declare.proofs.DefinitionSteps.{axiom-large, axiom-small}
use Rattle.pure_declare.proofs.definition.axiom_tail.Goals as goal

pub returns-then-is_large : goal.returns-then-is_large
returns-then-is_large c B m = axiom-large c.args.place.now c.args.fact c.args.next.now.declarations c.in-Some.axiom.now B m c.in-Some.ensures (c.is_large.ensures.0 c.if-is_large.true)

pub returns : goal.returns
returns c B m =
    axiom-small c.args.place.now c.args.fact c.args.next.now.declarations c.in-Some.axiom.now B c.in_ok-tail.tail m c.in-Some.ensures
    (test_fails (IsLarge c.in-Some.axiom.now) c.is_large.result c.is_large.ensures c.if-is_large.false) c.in_ok-tail.ensures
