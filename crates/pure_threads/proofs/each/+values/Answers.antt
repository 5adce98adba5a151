use Rattle.std.proofs.Common.{rules}
use Rattle.pure_threads.proofs.EachLemmas.{behind_ok}
use Rattle.pure_threads.proofs.each.+values.Goals as goal

pub returns-in-Ok : goal.returns-in-Ok
returns-in-Ok g t c =
    behind_ok (g.Q.Becomes.becomes c.args.how.now) (λ v. v.items) c.with_value.result c.pop.new.self.items c.args.values.items c.in-Ok.values.items c.in-Some.value _
    (search rules) (rw c.in-Ok.is at c.run_both-value.ensures.other) (rw (c.of.ensures, c.of-2.ensures) at c.run_both-value.ensures.first) c.with_value.ensures
