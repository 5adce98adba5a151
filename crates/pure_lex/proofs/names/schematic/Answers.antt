use Rattle.std.proofs.Common.{sym, ◌∙◌}
use Rattle.pure_lex.proofs.MarkFronts.{marks-two, marks-one}
use Rattle.pure_lex.proofs.names.schematic.Goals as goal

pub indexed-requires : goal.indexed-requires
indexed-requires c = marks-two c.args.text.now c.requires (sym c.byte_at.ensures ∙ c.if-byte_at-eq39.true)

pub indexed-requires-else-byte_at-eq39 : goal.indexed-requires-else-byte_at-eq39
indexed-requires-else-byte_at-eq39 c = marks-one c.args.text.now c.requires (λ h. c.if-byte_at-eq39.false (c.byte_at.ensures ∙ h))
