use Rattle.std.proofs.Common.{subst, sym}
use Rattle.pure_promise_fates.specs.Entries.{AreEntries}
use Rattle.pure_promise.proofs.RowLaws.{reported-plain}
use Rattle.pure_promise_rows.proofs.grounds.may_join.Goals as goal

pub returns-then-are_in_order : goal.returns-then-are_in_order
returns-then-are_in_order c = λ holds. record {
  entries = subst AreEntries (sym (reported-plain c.args.lemmas.now)) (c.are_in_order.ensures c.if-are_in_order.true);
  closed = c.are_grounded.ensures.closed holds;
  grounded = c.are_grounded.ensures.grounded holds;
}
