use Rattle.std.proofs.Common.{sym, ◌∙◌, true≢false}
use Rattle.pure_citations.proofs.FaultCode.{fault-put, fault-not}
use Rattle.pure_citations.proofs.faults.put_if_fault.Goals as goal

pub returns-then-is_fault : goal.returns-then-is_fault
returns-then-is_fault c = fault-put _ (c.is_fault.ensures.0 c.if-is_fault.true) c.args.entry.now.name c.args.faults.now.items _ c.in_ok-put_name.ensures

pub returns : goal.returns
returns c = fault-not _ (λ e. true≢false (sym (c.is_fault.ensures.1 e) ∙ c.if-is_fault.false)) c.args.entry.now.name c.args.faults.now.items
