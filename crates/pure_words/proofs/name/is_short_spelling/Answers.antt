use Rattle.std.proofs.Common.{◌∙◌, ap, sym}
use Rattle.pure_grammar.specs.Tokens.Bytes.{is_empty}
use Rattle.pure_words.proofs.Names.{middle_fails, name_goes_on, name_stops}
use Rattle.pure_words.proofs.name.is_short_spelling.Goals as goal

pub returns-then-not-is_name_byte : goal.returns-then-not-is_name_byte
returns-then-not-is_name_byte c =
    let other = sym c.is_name_byte.ensures ∙ c.if-not-is_name_byte.true in
    sym (middle_fails _ _ _ (ap is_empty (sym c.loop-b.invariant) ∙ name_stops c.args.text.now c.loop-b.b-index c.loop-b-test.true other))

pub loop-b-preserved : goal.loop-b-preserved
loop-b-preserved c =
    name_goes_on c.args.text.now c.loop-b.b-index c.loop-b-test.true (sym c.is_name_byte.ensures ∙ c.if-not-is_name_byte.false) ∙ c.loop-b.invariant
