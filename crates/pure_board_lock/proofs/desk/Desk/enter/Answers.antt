use Rattle.std.proofs.Common.{rules, ◌∙◌}
use Rattle.pure_board_lock.proofs.RuleLaws.{ticks-from, gives-from, ticked-is, released-is}
use Rattle.pure_board_lock.proofs.desk.Desk.enter.Goals as goal

pub fetch_add-requires : goal.fetch_add-requires
fetch_add-requires g c = (
  c.lay.ensures.desk ∙ c.requires.desk,
  search rules,
  ticks-from _ _ _ _ _ _ _ _ _ c.requires.next.0 c.lay.ensures.has c.requires.turn.lives c.requires.turn.is_opened c.requires.turn.has_turn c.requires.alone c.requires.next.1,
)

pub store-requires : goal.store-requires
store-requires g c = let next = c.requires.next.1 in (
  c.fetch_add.ensures.0 ∙ (c.lay.ensures.desk ∙ c.requires.desk),
  search rules,
  gives-from _ _ _ _ _ _ _ _ (ticked-is _ _ _ _ _ c.requires.next.0 c.lay.ensures.has c.fetch_add.ensures.2 next.event_is) c.args.self.now.sized.1 c.requires.turn.lives c.requires.turn.is_opened c.requires.turn.has_turn
      (record { opening = next.opening; opening_is = next.opening_is; object_is = next.object_is }),
)

pub returns-clause-entered : goal.returns-clause-entered
returns-clause-entered g c e is = released-is _ _ _ _ c.store.ensures.2 (ticked-is _ _ _ _ _ e c.lay.ensures.has c.fetch_add.ensures.2 is)
