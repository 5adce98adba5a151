use Rattle.std.proofs.Common.{refl}
use Rattle.pure_unify_visits.proofs.ListLaws.{nothing_popped}
use Rattle.pure_unify_visits.proofs.TurnLaws.{simple_there}
use Rattle.pure_unify_visits.proofs.apply.take_turn.Goals as goal

pub returns-in-None-clause-answer : goal.returns-in-None-clause-answer
returns-in-None-clause-answer c n h =
    simple_there c.args.order.now c.args.maxidx c.args.scan (record { pairs = c.args.scan.passed; path = c.args.scan.path }) n c.requires.ready h
    (nothing_popped c.args.scan.rest.items c.pop.new.self.items _ c.in-None.ensures.cases.0 c.in-None.ensures.rest c.in-None.ensures.items) refl refl
