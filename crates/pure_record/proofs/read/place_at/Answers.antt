use Rattle.std.proofs.Common.{length, refl}
use Rattle.pure_grammar.specs.declared.token.TokenKind.TheVariants.{Word}
use Rattle.pure_grammar.proofs.Places.{place_of-token}
use Rattle.pure_record.proofs.FaultLemmas.{place_of-past}
use Rattle.pure_record.proofs.read.place_at.Goals as goal

pub returns-then-at-tokens : goal.returns-then-at-tokens
returns-then-at-tokens c = place_of-token c.args.tokens.now (length c.args.source.now) c.args.at (record { kind = Word; from = 0; to = 0 }) _ c.if-at-tokens.true refl

pub returns : goal.returns
returns c = place_of-past c.args.tokens.now (length c.args.source.now) c.args.at c.if-at-tokens.false
