use Rattle.std.proofs.Common.{rules, ◌∙◌}
use Rattle.pure_board_lock.proofs.EndLaws.{taking-from, laying-from, in-hand, laid-is}
use Rattle.pure_board_lock.proofs.desk.Desk.open.Goals as goal

pub store-requires : goal.store-requires
store-requires g c = let made = c.in_ok-table.ensures in (made.2, search rules, taking-from _ _ _ _ _ _ _ made.5 made.4)

pub store-requires-2 : goal.store-requires-2
store-requires-2 g c = let made = c.in_ok-table.ensures in (
  c.exchange.ensures.0 ∙ (c.store.ensures.0 ∙ made.2),
  search rules,
  laying-from _ _ _ _ _ _ _ _ _ made.5 (in-hand _ _ _ _ _ made.4 c.store.ensures.2 c.exchange.ensures.3) c.requires.object c.requires.legal,
)

pub returns-clause-seat : goal.returns-clause-seat
returns-clause-seat g c = let made = c.in_ok-table.ensures in laid-is _ _ _ _ _ (in-hand _ _ _ _ _ made.4 c.store.ensures.2 c.exchange.ensures.3) c.store-2.ensures.2
