use Rattle.std.proofs.Common.{◌∙◌, ap}
use Rattle.pure_machine.specs.State.{Taken}
use Rattle.pure_machine.proofs.TakeLaws.{nothing-whole, found-within, found-may, taken-whole}
use Rattle.pure_machine.proofs.machine.Machine.take_proof.Goals as goal

pub reading-requires-clause-nothing : goal.reading-requires-clause-nothing
reading-requires-clause-nothing g c =
    let m = c.self.inside in
    nothing-whole c.args.self.now m.theories m.promises c.next_ready.new.self m.policy m.kept m.stopped m.log c.self.view_is c.requires.none c.next_ready.ensures.same c.in_default.ensures.found

pub at-requires : goal.at-requires
at-requires g c = found-within c.self.inside.promises c.next_ready.new.self c.in-Some.number c.next_ready.ensures.same c.in-Some.ensures.found

pub stand-requires-clause-within : goal.stand-requires-clause-within
stand-requires-clause-within g c = found-within c.self.inside.promises c.next_ready.new.self c.in-Some.number c.next_ready.ensures.same c.in-Some.ensures.found

pub stand-requires-clause-allowed : goal.stand-requires-clause-allowed
stand-requires-clause-allowed g c = found-may c.self.inside.promises c.next_ready.new.self c.in-Some.number Taken c.next_ready.ensures.same c.in-Some.ensures.found

pub returns : goal.returns
returns g c =
    let m = c.self.inside in
    let made = taken-whole c.args.self.now m.theories m.promises c.next_ready.new.self c.stand.new.self m.policy m.kept m.stopped m.log c.enter.new.self c.in-Some.number c.at.result.now c.self.view_is c.next_ready.ensures.same c.in-Some.ensures.found c.at.ensures c.stand.ensures c.in_ok-enter.ensures in
    (c.requires.going, c.requires.none, (made.0.0, made.0.1, c.in_ok-goal.ensures ∙ ap (λ x. x.goal) c.behind-self.view_is ∙ made.0.2), made.1)
