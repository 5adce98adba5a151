use Rattle.std.proofs.Common.{◌≤◌, arith}
use Rattle.pure_definitions.specs.Terms.Measures.{loose_above}
use Rattle.pure_definitions.proofs.MeasureLemmas.{put_stays}
use Rattle.pure_goal_rules.proofs.stripping.+put_variable.Goals as goal

pub returns-then-loose_above_of-from : goal.returns-then-loose_above_of-from
returns-then-loose_above_of-from t c =
    let low : loose_above c.args.t.now.value ≤ c.args.under = rw (← c.deref-whole.ensures) (omega arith) in
    rw (put_stays c.args.under c.args.v.now.value c.args.t.now.value low) c.try_clone.ensures
