use Rattle.std.proofs.Common.{◌≡◌, get_or, ap, sym, ◌∙◌}
use Rattle.pure_grammar.specs.Tokens.Bytes.{is_digit}
use Rattle.pure_lex.proofs.MarkFronts.{dotted_digit-get}
use Rattle.pure_lex.proofs.names.begins_dotted_digit.Goals as goal

pub returns-then-byte_at-eq46 : goal.returns-then-byte_at-eq46
returns-then-byte_at-eq46 c =
    let dot : get_or c.args.text.now 0 0 ≡ 46 = sym c.byte_at.ensures ∙ c.if-byte_at-eq46.true in
    c.is_digit.ensures ∙ (ap is_digit c.byte_at-then-byte_at-eq46.ensures ∙ dotted_digit-get c.args.text.now dot)
