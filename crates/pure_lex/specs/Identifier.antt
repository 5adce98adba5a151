-- Texts that are one identifier.
use Rattle.std.specs.Prelude.{ℕ, Bool, not, ◌&&◌, List}
use Rattle.pure_grammar.specs.Tokens.Token.{is_token, is_long}
use Rattle.pure_grammar.specs.declared.token.TokenKind.TheVariants.{Ident}

-- The whole text is one identifier, which is short.
abbrev pub is_identifier : List ℕ → Bool
is_identifier bs = is_token Ident bs && not (is_long bs)
