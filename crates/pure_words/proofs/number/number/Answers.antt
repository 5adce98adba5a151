use Rattle.std.proofs.Common.{◌≡◌, ◌∙◌, ◌+◌, ◌*◌, true, sym, ap, ◌∷◌, arith, drop, get_or, add-one, drop-cons}
use Rattle.std.proofs.lemmas.List.Folds.{list_all_more}
use Rattle.pure_grammar.specs.Tokens.Bytes.{is_digit}
use Rattle.pure_grammar.specs.Theories.Lexeme.{value_behind}
use Rattle.pure_words.proofs.Numbers.{one_more, eight, not_number}
use Rattle.pure_words.proofs.number.number.Goals as goal

pub returns-then-not-is_ascii_digit : goal.returns-then-not-is_ascii_digit
unfolding is_digit
returns-then-not-is_ascii_digit c =
    not_number c.args.text.now c.loop-digit.digit-index (omega arith) (sym c.is_ascii_digit.ensures.value ∙ c.if-not-is_ascii_digit.true)

pub overflow_mul-value : goal.overflow_mul-value
overflow_mul-value c =
    let small = eight c.loop-digit.value c.loop-digit.digit-index c.loop-digit.invariant.bound (omega arith) in
    omega (arith, small)

pub overflow_add-value : goal.overflow_add-value
overflow_add-value c =
    let small = eight c.loop-digit.value c.loop-digit.digit-index c.loop-digit.invariant.bound (omega arith) in
    omega (arith, small, c.from.ensures)

pub loop-digit-preserved : goal.loop-digit-preserved
unfolding is_digit
loop-digit-preserved c =
    let text = c.args.text.now in
    let i = c.loop-digit.digit-index in
    let loop = c.loop-digit.invariant in
    let cut : drop i text ≡ get_or text i 0 ∷ drop (i + 1) text = rw add-one (drop-cons text i 0 c.loop-digit-test.true) in
    let digit : is_digit (get_or text i 0) ≡ true = sym c.is_ascii_digit.ensures.value ∙ c.if-not-is_ascii_digit.false in
    let bounds = rw c.if-not-is_ascii_digit.false at c.is_ascii_digit.ensures.cases in
    record {
      value = ap (λ d. value_behind (c.loop-digit.value * 10 + d) (drop (i + 1) text)) c.from.ensures ∙ sym (ap (value_behind c.loop-digit.value) cut) ∙ loop.value;
      digits = rw (list_all_more is_digit text i 0 c.loop-digit-test.true, loop.digits) digit;
      bound = one_more c.loop-digit.value c.from.result i loop.bound (omega (arith, bounds, c.from.ensures));
    }
