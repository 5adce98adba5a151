use Rattle.std.proofs.Common.{subst, sym}
use Rattle.pure_promise_fates.specs.Entries.{AreEntries}
use Rattle.pure_promise.specs.Joining.{AreJoined}
use Rattle.pure_promise.proofs.RowLaws.{reported-plain}
use Rattle.pure_promise.proofs.JoinLaws.{joined_are_settled}
use Rattle.pure_promise.proofs.joining.join.Goals as goal

pub joined-requires : goal.joined-requires
joined-requires c = subst AreEntries (reported-plain c.args.entries.now) c.requires.entries

pub returns-clause-joined : goal.returns-clause-joined
returns-clause-joined c = subst (λ es. AreJoined es c.in_ok-labels.labels.items) (sym (reported-plain c.args.entries.now)) c.in_ok-labels.ensures

pub returns-clause-settled : goal.returns-clause-settled
returns-clause-settled c = joined_are_settled c.args.entries.now c.requires c.are_theorems.ensures c.in_ok-labels.labels.items c.in_ok-labels.ensures
