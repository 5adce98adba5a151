use Rattle.pure_goal_rules.proofs.RuleLaws.{ok_map}
use Rattle.pure_goal_rules.proofs.rule.raised_form.Goals as goal

pub is_own_long_form-requires : goal.is_own_long_form-requires
is_own_long_form-requires c = (c.requires.typ, c.requires.typed)

pub returns-then-is_own_long_form : goal.returns-then-is_own_long_form
returns-then-is_own_long_form c = ok_map _ _ (λ u e. record { form = c.args.t.now; long = c.is_own_long_form.ensures c.if-is_own_long_form.true; is = e }) c.raised.result c.raised.ensures

pub returns : goal.returns
returns c = record { form = c.in_ok-form.form; long = c.in_ok-form.ensures; is = c.in_ok-apart.ensures }
