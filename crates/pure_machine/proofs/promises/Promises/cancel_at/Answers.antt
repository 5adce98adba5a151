use Rattle.std.proofs.Common.{◌≤◌, length, sym, subst, arith}
use Rattle.pure_machine.specs.State.{cancelled_promise}
use Rattle.pure_machine.proofs.GroupLaws.{changed-beyond, changed-written, none_ready-rewritten}
use Rattle.pure_machine.proofs.promises.Promises.cancel_at.Goals as goal

pub returns-then-number-len : goal.returns-then-number-len
returns-then-number-len g c = sym (changed-beyond _ c.args.self.now c.args.number (subst (λ l. length l ≤ c.args.number) c.self.view_is (omega (arith, c.if-number-len.true, c.len.ensures, c.self.inside.list.ok.0))))

pub invariant_of-self : goal.invariant_of-self
invariant_of-self g c = (none_ready-rewritten c.args.groups.now c.self.inside.list.items c.args.number c.index_mut.result.now c.cancel_one.new.promise c.self.inside.cursor (omega (arith, c.if-number-len.false, c.len.ensures, c.self.inside.list.ok.0)) c.index_mut.ensures.value c.cancel_one.ensures c.self.invariant.0, c.self.invariant.1, c.self.invariant.2)

pub returns : goal.returns
returns g c = changed-written (cancelled_promise c.args.groups.now) c.self.inside.list.items c.args.self.now c.args.number c.index_mut.result.now c.cancel_one.new.promise c.self.view_is (omega (arith, c.if-number-len.false, c.len.ensures, c.self.inside.list.ok.0)) c.index_mut.ensures.value c.cancel_one.ensures
