use Rattle.std.proofs.Common.{◌≡◌, arith}
use Rattle.pure_machine.proofs.LogLaws.{stops-other}
use Rattle.pure_machine.proofs.log.Log.enter.Goals as goal

pub invariant_of-self-2 : goal.invariant_of-self-2
invariant_of-self-2 g c = (rw (c.push_reserved.ensures.items, c.in_ok-reserve.ensures.items, stops-other _ _ c.requires) c.self.invariant.0, c.self.invariant.1, omega (arith, c.self.invariant.1, c.self.invariant.2, c.push_reserved.ensures.len, c.push_reserved.ensures.capacity, c.in_ok-reserve.ensures.len, c.in_ok-reserve.ensures.ok))
