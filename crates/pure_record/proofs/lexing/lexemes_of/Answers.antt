use Rattle.std.proofs.Common.{length, refl}
use Rattle.pure_grammar.specs.declared.token.TokenKind.TheVariants.{Word}
use Rattle.pure_grammar.proofs.Places.{slice-at}
use Rattle.pure_record.proofs.lexing.lexemes_of.Goals as goal

pub lexeme-requires : goal.lexeme-requires
lexeme-requires c = slice-at c.args.source.now (length c.args.source.now) c.args.tokens.now 0 c.loop-token.token-index (record { kind = Word; from = 0; to = 0 }) _ c.requires c.loop-token-test.true refl
