use Rattle.std.proofs.Common.{rules, ◌∙◌}
use Rattle.pure_board_lock.proofs.RuleLaws.{tries-from}
use Rattle.pure_board_lock.proofs.desk.Desk.hold.Goals as goal

pub compare_exchange-requires : goal.compare_exchange-requires
compare_exchange-requires g c = (c.loop.invariant.0 ∙ c.requires.desk, search rules, tries-from _ _ _ _ _ _ _ (c.loop.invariant.1 ∙ (λ i. (c.args.seat.now.me.0, c.requires.free.has_none i))) c.requires.free.lives c.requires.free.is_opened)
