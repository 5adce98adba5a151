use Rattle.std.proofs.Common.{length, arith}
use Rattle.pure_places.proofs.LoopLaws.{token-place, end-place}
use Rattle.pure_places.proofs.search.place_at.Goals as goal

pub returns-then-number-tokens : goal.returns-then-number-tokens
returns-then-number-tokens c = token-place c.args.tokens.now c.args.number (length c.args.source.now) _ (omega (arith, c.if-number-tokens.true))

pub returns : goal.returns
returns c = end-place c.args.tokens.now c.args.number (length c.args.source.now) (omega (arith, c.if-number-tokens.false))
