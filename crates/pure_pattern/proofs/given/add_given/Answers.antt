use Rattle.std.proofs.Common.{sym, ◌∙◌}
use Rattle.pure_pattern.proofs.GivenLaws.{given-none, given-one}
use Rattle.pure_pattern.proofs.given.add_given.Goals as goal

pub returns-then-not-is_given : goal.returns-then-not-is_given
returns-then-not-is_given c = given-none c.args.pairs.now _ c.args.bind (sym c.is_given.ensures ∙ c.if-not-is_given.true)

pub returns : goal.returns
returns c = c.in_ok-push_bind.ensures ∙ given-one c.args.pairs.now _ c.args.bind (sym c.is_given.ensures ∙ c.if-not-is_given.false)
