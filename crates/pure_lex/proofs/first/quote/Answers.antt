use Rattle.std.proofs.Common.{◌≡◌, drop, get_or, sym, ◌∙◌, arith}
use Rattle.pure_grammar.specs.Tokens.Token.{is_quotable}
use Rattle.pure_lex.specs.Fronts.{IsRun}
use Rattle.pure_lex.proofs.MarkFronts.{first-cons}
use Rattle.pure_lex.proofs.OtherFronts.{quote-taken, quote-none}
use Rattle.pure_lex.proofs.first.quote.Goals as goal

pub returns-then-byte_at-ne34 : goal.returns-then-byte_at-ne34
returns-then-byte_at-ne34 c =
    let body : IsRun is_quotable (drop 1 c.args.text.now) c.quotable_length-len.result = rw c.rest_from-body.ensures at c.quotable_length-len.ensures in
    let is : c.byte_at.result ≡ get_or (drop 1 c.args.text.now) c.quotable_length-len.result 0 = rw c.rest_from-body.ensures at c.byte_at.ensures in
    quote-none c.args.text.now _ (first-cons c.args.text.now 34 (omega arith) c.requires) body (λ mark. c.if-byte_at-ne34.true (is ∙ mark))

pub returns : goal.returns
returns c =
    let body : IsRun is_quotable (drop 1 c.args.text.now) c.quotable_length-len.result = rw c.rest_from-body.ensures at c.quotable_length-len.ensures in
    let is : c.byte_at.result ≡ get_or (drop 1 c.args.text.now) c.quotable_length-len.result 0 = rw c.rest_from-body.ensures at c.byte_at.ensures in
    quote-taken c.args.text.now _ (first-cons c.args.text.now 34 (omega arith) c.requires) body (sym is ∙ c.if-byte_at-ne34.false)
