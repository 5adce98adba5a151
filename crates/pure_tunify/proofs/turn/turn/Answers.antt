use Rattle.std.specs.Prelude.{reverse}
use Rattle.pure_tunify.proofs.PursueLaws.{turned_opened}
use Rattle.pure_tunify.proofs.turn.turn.Goals as goal

pub returns : goal.returns
returns c = turned_opened c.args.order.now c.args.settings.now c.meet.new.settings (reverse c.args.work.now.items) (reverse c.meet.new.work.items) c.args.first.left c.args.first.right c.in_ok-left.left c.in_ok-right.right c.in_ok-turned.turned
    c.in_ok-left.ensures.same c.in_ok-right.ensures.same c.in_ok-left.ensures.old c.in_ok-right.ensures.old c.in_ok-turned.ensures
