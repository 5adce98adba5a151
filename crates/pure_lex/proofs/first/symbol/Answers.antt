use Rattle.std.proofs.Common.{◌≡◌, get_or, sym, ◌∙◌}
use Rattle.pure_lex.specs.Fronts.{symbol_length}
use Rattle.pure_lex.proofs.OtherFronts.{symbol-taken, symbol-none, symbol-comment}
use Rattle.pure_lex.proofs.first.symbol.Goals as goal

pub returns-then-opens_comment : goal.returns-then-opens_comment
returns-then-opens_comment c = symbol-comment c.args.text.now (sym c.opens_comment.ensures ∙ c.if-opens_comment.true)

pub returns-then-len-eq0 : goal.returns-then-len-eq0
returns-then-len-eq0 c =
    let is : c.symbol_length-len.result ≡ symbol_length (get_or c.args.text.now 0 0) (get_or c.args.text.now 1 0) (get_or c.args.text.now 2 0) =
    rw (c.byte_at.ensures, c.byte_at-2.ensures) at c.symbol_length-len.ensures in
    symbol-none c.args.text.now c.requires.some c.requires.other (sym is ∙ c.if-len-eq0.true)

pub returns : goal.returns
returns c =
    let is : c.symbol_length-len.result ≡ symbol_length (get_or c.args.text.now 0 0) (get_or c.args.text.now 1 0) (get_or c.args.text.now 2 0) =
    rw (c.byte_at.ensures, c.byte_at-2.ensures) at c.symbol_length-len.ensures in
    rw is (symbol-taken c.args.text.now c.requires.some (sym c.opens_comment.ensures ∙ c.if-opens_comment.false) (λ none. c.if-len-eq0.false (is ∙ none)))
