use Rattle.std.proofs.Common.{◌≡◌, ◌<◌, ◌+◌, arith, subst, sym, ap}
use Rattle.pure_machine.specs.Step.{stops}
use Rattle.pure_machine.proofs.LogLaws.{stops-one_more}
use Rattle.pure_machine.proofs.log.Log.stop.Goals as goal

pub invariant_of-self : goal.invariant_of-self
invariant_of-self g c =
    let fewer : stops c.self.inside.entries.items < c.self.inside.workers = subst (λ l. stops l.events < l.workers) (sym c.self.view_is) c.requires in
    (rw (c.push_reserved.ensures.items, stops-one_more c.self.inside.entries.items) (ap (λ n. n + 1) c.self.invariant.0), omega (arith, fewer, c.self.invariant.0), omega (arith, c.self.invariant.2, c.push_reserved.ensures.len, c.push_reserved.ensures.capacity))
