use Rattle.pure_citations.proofs.HeadLaws.{axiom-said, axiom-unsaid, definition-said, definition-unsaid, axiom-head, definition-head, other-head}
use Rattle.pure_citations.proofs.heads.holds_head.Goals as goal

pub returns-in-Some : goal.returns-in-Some
returns-in-Some c = axiom-head c.args.names.now c.args.row.now c.args.head.now c.in-Some.full.now (axiom-said _ _ c.in-Some.ensures) c.holds_text.result c.holds_text.ensures

pub returns-in-Some-behind : goal.returns-in-Some-behind
returns-in-Some-behind c =
    definition-head c.args.names.now c.args.row.now c.args.head.now c.in-Some-behind.constant.now c.in_ok-full.full.items (definition-said _ _ c.in-Some-behind.ensures) c.in_ok-full.ensures c.holds_text-in-Some-behind.result
    (rw c.as_slice.ensures.value at c.holds_text-in-Some-behind.ensures)

pub returns : goal.returns
returns c = other-head c.args.names.now c.args.row.now c.args.head.now (axiom-unsaid _ c.in_default.ensures) (definition-unsaid _ c.in_default-behind.ensures)
