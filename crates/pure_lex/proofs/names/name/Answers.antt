use Rattle.std.proofs.Common.{◌≡◌, false, drop, sym, ◌∙◌}
use Rattle.pure_grammar.specs.Tokens.Bytes.{head_is, marked, is_letter}
use Rattle.pure_lex.proofs.NameFronts.{name-taken, name-fault}
use Rattle.pure_lex.proofs.names.name.Goals as goal

pub returns-then-len-gt-LONGEST : goal.returns-then-len-gt-LONGEST
returns-then-len-gt-LONGEST c =
    let none : marked 46 (head_is is_letter) (drop c.name_length-len.result c.args.text.now) ≡ false =
    rw c.rest_from-rest.ensures at (sym c.begins_dotted_letter.ensures ∙ c.if-begins_dotted_letter.false) in
    name-fault c.args.text.now _ c.requires c.name_length-len.ensures none c.if-len-gt-LONGEST.true

pub returns : goal.returns
returns c =
    let none : marked 46 (head_is is_letter) (drop c.name_length-len.result c.args.text.now) ≡ false =
    rw c.rest_from-rest.ensures at (sym c.begins_dotted_letter.ensures ∙ c.if-begins_dotted_letter.false) in
    rw c.name_kind.ensures (name-taken c.args.text.now c.name_length-len.result c.requires c.name_length-len.ensures none c.if-len-gt-LONGEST.false)
