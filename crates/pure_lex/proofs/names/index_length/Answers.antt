use Rattle.std.proofs.Common.{drop, sym, ◌∙◌}
use Rattle.pure_lex.specs.Fronts.{IsDigits}
use Rattle.pure_lex.proofs.MarkFronts.{index-some, index-none}
use Rattle.pure_lex.proofs.names.index_length.Goals as goal

pub returns-then-begins_dotted_digit : goal.returns-then-begins_dotted_digit
returns-then-begins_dotted_digit c =
    let digits : IsDigits (drop 1 c.args.text.now) c.digit_count.result = rw c.rest_from.ensures at c.digit_count.ensures in
    index-some c.args.text.now _ (sym c.begins_dotted_digit.ensures ∙ c.if-begins_dotted_digit.true) digits

pub returns-else-begins_dotted_digit : goal.returns-else-begins_dotted_digit
returns-else-begins_dotted_digit c = index-none c.args.text.now (sym c.begins_dotted_digit.ensures ∙ c.if-begins_dotted_digit.false)
