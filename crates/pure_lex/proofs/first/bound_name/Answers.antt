use Rattle.std.proofs.Common.{◌≡◌, true, false, drop, sym, ◌∙◌, arith}
use Rattle.pure_grammar.specs.Tokens.Bytes.{head_is, is_digit}
use Rattle.pure_lex.specs.Fronts.{IsDigits}
use Rattle.pure_lex.proofs.MarkFronts.{first-cons}
use Rattle.pure_lex.proofs.OtherFronts.{bound_name-taken, bound_name-none}
use Rattle.pure_lex.proofs.first.bound_name.Goals as goal

pub returns-then-not-begins_digit : goal.returns-then-not-begins_digit
returns-then-not-begins_digit c =
    let none : head_is is_digit (drop 1 c.args.text.now) ≡ false = rw c.rest_from-digits.ensures at (sym c.begins_digit.ensures ∙ c.if-not-begins_digit.true) in
    bound_name-none c.args.text.now (first-cons c.args.text.now 95 (omega arith) c.requires) none

pub returns : goal.returns
returns c =
    let digit : head_is is_digit (drop 1 c.args.text.now) ≡ true = rw c.rest_from-digits.ensures at (sym c.begins_digit.ensures ∙ c.if-not-begins_digit.false) in
    let digits : IsDigits (drop 1 c.args.text.now) c.digit_count.result = rw c.rest_from-digits.ensures at c.digit_count.ensures in
    bound_name-taken c.args.text.now _ (first-cons c.args.text.now 95 (omega arith) c.requires) digit digits
