use Rattle.std.proofs.Common.{map, take}
use Rattle.pure_text.specs.Lists.{IsIn, Each}
use Rattle.pure_promise_fates.specs.Entries.{Entry}
use Rattle.pure_promise.specs.Seen.{reported}
use Rattle.pure_promise_rows.proofs.order.has_all.Given as goal

abbrev pub invariant-loop-label : goal.invariant-loop-label
invariant-loop-label l = Each (λ k. IsIn k (map Entry.label (map reported l.lemmas))) (take l.label-index l.labels)
