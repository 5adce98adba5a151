use Rattle.std.proofs.Common.{subst, sym}
use Rattle.pure_promise_fates.specs.Entries.{AreEntries}
use Rattle.pure_promise.proofs.RowLaws.{reported-plain}
use Rattle.pure_promise_rows.proofs.order.are_listed.Goals as goal

pub returns : goal.returns
returns c = λ holds. subst AreEntries (sym (reported-plain c.args.lemmas.now)) (c.are_in_order.ensures holds)
