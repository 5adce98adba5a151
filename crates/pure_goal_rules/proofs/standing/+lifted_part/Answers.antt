use Rattle.std.proofs.Common.{◌≤◌, arith}
use Rattle.pure_definitions.specs.Terms.Measures.{loose_above}
use Rattle.pure_definitions.proofs.MeasureLemmas.{lift_stays}
use Rattle.pure_goal_rules.proofs.standing.+lifted_part.Goals as goal

pub returns-then-loose_above_of-from : goal.returns-then-loose_above_of-from
returns-then-loose_above_of-from t c =
    let low : loose_above c.args.t.now.value ≤ c.args.from = rw (← c.deref-whole.ensures) (omega arith) in
    rw (lift_stays c.args.by c.args.from c.args.t.now.value low) c.try_clone.ensures
