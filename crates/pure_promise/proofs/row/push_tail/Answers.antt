use Rattle.std.proofs.Common.{map, subst}
use Rattle.pure_promise_fates.specs.Entries.{IsFate}
use Rattle.pure_promise_fates.specs.Seen.{seen_fate}
use Rattle.pure_promise.specs.Seen.{reported}
use Rattle.pure_promise.proofs.FateLaws.{tainted_stand}
use Rattle.pure_promise.proofs.row.push_tail.Goals as goal

pub push_tainted-requires-clause-stand : goal.push_tainted-requires-clause-stand
push_tainted-requires-clause-stand c =
    rw c.deref.ensures.value (tainted_stand (map reported c.args.entries.now) c.args.entry.now.label c.in-Tainted.faults.items
    (subst (λ f. IsFate (map reported c.args.entries.now) c.args.entry.now.label (seen_fate f)) c.in-Tainted.is c.requires.fate))
