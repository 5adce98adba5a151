use Rattle.std.proofs.Common.{◌∙◌, ◌++◌, ◌∷◌, [], refl, append-nil}
use Rattle.pure_board.proofs.CloseLaws.{each-popped, popped-same, taken-last}
use Rattle.pure_board.proofs.closing.gather.Goals as goal

pub loop-seat-init : goal.loop-seat-init
loop-seat-init g c = (refl, c.requires.place, c.requires.desk.1, ([], append-nil _, λ k o seats has opens. (has, opens)))

pub take_in-requires-clause-desk : goal.take_in-requires-clause-desk
take_in-requires-clause-desk g c κs within = let l = c.loop-seat.invariant in (l.0 ∙ c.requires.desk.0, (each-popped _ _ _ _ c.in-Some.ensures.items l.2).1)

pub take_in-requires-clause-taken : goal.take_in-requires-clause-taken
take_in-requires-clause-taken g c κs within = let t = c.requires.taken in let m = c.loop-seat.invariant.3 in (t.0, t.1, m.0 ++ t.2, (m.2 t.0 t.1 t.2 t.3 t.4).0)

pub loop-seat-preserved : goal.loop-seat-preserved
loop-seat-preserved g c = let l = c.loop-seat.invariant in let m = l.3 in let items = c.in-Some.ensures.items in (
  c.take_in.ensures.desk ∙ l.0,
  c.take_in.ensures.place,
  (each-popped _ _ _ _ items l.2).0,
  (c.in-Some.seat ∷ m.0, popped-same _ _ _ _ _ items m.1, λ k o seats has opens. (let before = m.2 k o seats has opens in let e = each-popped _ _ _ _ items before.1 in (c.take_in.ensures.taken k o (m.0 ++ seats) before.0 e.1, e.0))),
)

pub returns-clause-taken : goal.returns-clause-taken
returns-clause-taken g c k o seats has opens = let m = c.loop-seat.invariant.3 in taken-last k o _ _ _ _ _ _ _ _ c.in_default.not-Some c.pop.ensures.items c.loop-seat.rest.ok.0 c.pop.ensures.variant m.1 (m.2 k o seats has opens).0
