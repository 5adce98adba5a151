use Rattle.std.proofs.Common.{rules, refl}
use Rattle.pure_board_lock.proofs.RuleLaws.{looks-from}
use Rattle.pure_board_lock.proofs.desk.Desk.look.Goals as goal

pub load-requires : goal.load-requires
load-requires g c = (c.requires.desk, search rules, looks-from _ _ _ _ _ _ c.args.seat.now.me.0 c.args.seat.now.me.1 refl c.requires.turn.lives c.requires.turn.is_opened c.requires.turn.has_turn)
