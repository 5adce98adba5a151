use Rattle.std.proofs.Common.{◌≡◌, get_or, ap, sym, ◌∙◌}
use Rattle.pure_grammar.specs.Tokens.Bytes.{is_letter}
use Rattle.pure_lex.proofs.MarkFronts.{dotted_letter-get}
use Rattle.pure_lex.proofs.names.begins_dotted_letter.Goals as goal

pub returns-then-byte_at-eq46 : goal.returns-then-byte_at-eq46
returns-then-byte_at-eq46 c =
    let dot : get_or c.args.text.now 0 0 ≡ 46 = sym c.byte_at.ensures ∙ c.if-byte_at-eq46.true in
    c.is_letter.ensures ∙ (ap is_letter c.byte_at-then-byte_at-eq46.ensures ∙ dotted_letter-get c.args.text.now dot)
