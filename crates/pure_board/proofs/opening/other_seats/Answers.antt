use Rattle.std.proofs.Common.{rules, ◌∙◌, ◌≡◌, ℕ, arith, subst, []}
use Rattle.pure_board.specs.Tokens.{counting}
use Rattle.pure_board.proofs.OpenLaws.{seat-more, one-longer}
use Rattle.pure_board.proofs.opening.other_seats.Goals as goal

pub next_seat-requires-clause-first : goal.next_seat-requires-clause-first
next_seat-requires-clause-first g c κs within = let f = c.requires.first in let l = c.loop-number.invariant in let some' = l.1 in (f.0, f.1, (l.3 f.0 f.1 f.2).0, f.3, omega (arith, some'), rw f.4 (search rules))

pub loop-number-preserved : goal.loop-number-preserved
loop-number-preserved g c = let l = c.loop-number.invariant in let items = c.push_reserved.ensures.items in (
  c.next_seat.ensures.desk ∙ l.0,
  one-longer _ _ _ _ items l.1,
  search rules,
  (λ k o is. (c.next_seat.ensures.first k o (l.3 k o is).0, seat-more _ _ k o _ _ _ _ l.0 l.1 (l.3 k o is).1 (c.next_seat.ensures.seat k o (l.3 k o is).0) items)),
  rw c.push_reserved.ensures.capacity l.4,
)

pub returns-clause-seats : goal.returns-clause-seats
returns-clause-seats g c k o is = let l = c.loop-number.invariant in let e : c.loop-number.number ≡ c.args.workers = search rules in
    (subst (λ (n : ℕ). c.loop-number.first.me ≡ (counting k o n, [])) e (l.3 k o is).0, (l.3 k o is).1, l.1 ∙ e)
