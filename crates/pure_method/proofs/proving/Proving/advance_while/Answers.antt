use Rattle.std.proofs.Common.{sym, subst}
use Rattle.pure_method.specs.Running.{IsPlace}
use Rattle.pure_method.proofs.PlaceLaws.{turn-proves, turn-unbroken, turn-outcome, turn-step}
use Rattle.pure_method.proofs.proving.Proving.advance_while.Goals as goal

pub next_at-requires-clause-place : goal.next_at-requires-clause-place
next_at-requires-clause-place g c = subst (IsPlace c.args.names.now c.args.duty.now) (sym c.leave-place.ensures.gives) c.requires.proves

pub returns-in-Ok-clause-proves : goal.returns-in-Ok-clause-proves
returns-in-Ok-clause-proves g c = turn-proves c.args.names.now c.args.duty.now c.leave-place.result c.in-Ok.turn c.in-Ok.ensures.turn c.go_on.new.self c.go_on.ensures.place

pub returns-in-Ok-clause-outcome : goal.returns-in-Ok-clause-outcome
returns-in-Ok-clause-outcome g c = turn-outcome c.args.names.now c.args.duty.now c.leave-place.result c.in-Ok.turn c.in-Ok.ensures.turn c.args.self.now c.go_on.new.self c.leave-place.ensures.gives c.go_on.ensures.place c.go_on.result c.go_on.ensures.outcome

pub returns-in-Ok-clause-unbroken : goal.returns-in-Ok-clause-unbroken
returns-in-Ok-clause-unbroken g c = turn-unbroken c.args.names.now c.args.duty.now c.leave-place.result c.in-Ok.turn c.in-Ok.ensures.turn c.go_on.new.self c.go_on.ensures.place

pub returns-in-Ok-clause-step : goal.returns-in-Ok-clause-step
returns-in-Ok-clause-step g c = turn-step c.args.names.now c.args.duty.now c.leave-place.result c.in-Ok.turn c.in-Ok.ensures.turn c.args.self.now c.go_on.new.self c.leave-place.ensures.gives c.go_on.ensures.place c.go_on.result c.go_on.ensures.outcome
