use Rattle.std.proofs.Common.{sym, ◌∙◌, true≢false}
use Rattle.pure_table.specs.Promise.Seen.{seen}
use Rattle.pure_citations.proofs.FaultCode.{fault-at, fault-none}
use Rattle.pure_citations.proofs.faults.put_fault.Goals as goal

pub returns-then-holds : goal.returns-then-holds
returns-then-holds c = fault-at c.args.entries.now c.args.row.now c.args.place c.index-entries-place.result c.requires c.index-entries-place.is (c.holds.ensures.0 c.if-holds.true) c.args.faults.now.items _ c.in_ok-put_if_fault.ensures

pub returns : goal.returns
returns c = fault-none (seen c.args.entries.now) c.args.row.now c.args.place (λ h. true≢false (sym (c.holds.ensures.1 h) ∙ c.if-holds.false)) c.args.faults.now.items
