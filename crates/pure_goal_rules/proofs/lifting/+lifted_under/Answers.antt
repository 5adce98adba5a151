use Rattle.std.proofs.Common.{◌≡◌, arith}
use Rattle.pure_goal_laws.specs.Prefix.{parameters}
use Rattle.pure_goal_rules.specs.Shown.{shown}
use Rattle.pure_goal_rules.proofs.StayLaws.{lifted_stays}
use Rattle.pure_goal_rules.proofs.lifting.+lifted_under.Goals as goal

pub returns-then-index_above_of-eq0 : goal.returns-then-index_above_of-eq0
returns-then-index_above_of-eq0 t c = rw (lifted_stays (parameters (shown c.args.items.now)) c.args.under c.args.t.now.value (rw (← c.deref-whole.ensures) (omega arith))) c.try_clone.ensures
