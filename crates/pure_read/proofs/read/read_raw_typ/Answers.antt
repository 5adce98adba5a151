use Rattle.std.proofs.Common.{ap}
use Rattle.pure_read.specs.Frames.{seen_stack}
use Rattle.pure_read.specs.States.{seen_state}
use Rattle.pure_read.proofs.Faults.{fault-of-type, spells-type, no-term-of-type}
use Rattle.pure_read.proofs.read.read_raw_typ.Goals as goal

pub returns-in-Err-clause-fault : goal.returns-in-Err-clause-fault
returns-in-Err-clause-fault c =
    fault-of-type c.args.source.now c.args.tokens.now (seen_stack c.empty-stack.result) c.in-Err.fault c.empty-stack.ensures c.in-Err.ensures.fault

pub returns-in-Ok-DoneType-clause-ok : goal.returns-in-Ok-DoneType-clause-ok
returns-in-Ok-DoneType-clause-ok c =
    spells-type c.args.source.now c.args.tokens.now (seen_stack c.empty-stack.result) c.in-Ok-DoneType.typ (seen_state c.in-Ok-DoneType.field-0) c.empty-stack.ensures (ap seen_state c.in-Ok-DoneType.field-0-is)
    c.in-Ok-DoneType.ensures.ok

pub returns-in-Ok-DoneTerm-clause-fault : goal.returns-in-Ok-DoneTerm-clause-fault
returns-in-Ok-DoneTerm-clause-fault c =
    absurd (no-term-of-type c.args.source.now c.args.tokens.now (seen_stack c.empty-stack.result) c.in-Ok-DoneTerm.field-0-0.value (seen_state c.in-Ok-DoneTerm.field-0) c.empty-stack.ensures (ap seen_state c.in-Ok-DoneTerm.field-0-is)
    c.in-Ok-DoneTerm.ensures.ok)
