use Rattle.std.proofs.Common.{ap}
use Rattle.pure_read.specs.Frames.{seen_stack}
use Rattle.pure_read.specs.States.{seen_state}
use Rattle.pure_read.proofs.Faults.{fault-of-term, spells-term, no-type-of-term}
use Rattle.pure_read.proofs.read.read_raw.Goals as goal

pub returns-in-Err-clause-fault : goal.returns-in-Err-clause-fault
returns-in-Err-clause-fault c =
    fault-of-term c.args.source.now c.args.tokens.now (seen_stack c.empty-stack.result) c.in-Err.fault c.empty-stack.ensures c.in-Err.ensures.fault

pub returns-in-Ok-DoneTerm-clause-ok : goal.returns-in-Ok-DoneTerm-clause-ok
returns-in-Ok-DoneTerm-clause-ok c =
    rw c.into_inner.ensures (spells-term c.args.source.now c.args.tokens.now (seen_stack c.empty-stack.result) c.in-Ok-DoneTerm.term.value (seen_state c.in-Ok-DoneTerm.field-0) c.empty-stack.ensures (ap seen_state c.in-Ok-DoneTerm.field-0-is)
    c.in-Ok-DoneTerm.ensures.ok)

pub returns-in-Ok-DoneType-clause-fault : goal.returns-in-Ok-DoneType-clause-fault
returns-in-Ok-DoneType-clause-fault c =
    absurd (no-type-of-term c.args.source.now c.args.tokens.now (seen_stack c.empty-stack.result) c.in-Ok-DoneType.field-0-0 (seen_state c.in-Ok-DoneType.field-0) c.empty-stack.ensures (ap seen_state c.in-Ok-DoneType.field-0-is)
    c.in-Ok-DoneType.ensures.ok)
