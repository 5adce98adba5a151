use Rattle.std.proofs.Common.{◌≡◌, true, false, drop, sym, ◌∙◌, arith}
use Rattle.pure_grammar.specs.Tokens.Bytes.{head_is, is_letter, is_name_byte}
use Rattle.pure_lex.specs.Fronts.{IsRun}
use Rattle.pure_lex.proofs.MarkFronts.{type_variable-taken, type_variable-fault, type_variable-none, first-cons}
use Rattle.pure_lex.proofs.names.type_variable.Goals as goal

pub returns-then-not-begins_letter : goal.returns-then-not-begins_letter
returns-then-not-begins_letter c =
    let none : head_is is_letter (drop 1 c.args.text.now) ≡ false = rw c.rest_from-name.ensures at (sym c.begins_letter.ensures ∙ c.if-not-begins_letter.true) in
    type_variable-none c.args.text.now (first-cons c.args.text.now 39 (omega arith) c.requires) none

pub returns-then-len-gt-LONGEST : goal.returns-then-len-gt-LONGEST
returns-then-len-gt-LONGEST c =
    let letter : head_is is_letter (drop 1 c.args.text.now) ≡ true = rw c.rest_from-name.ensures at (sym c.begins_letter.ensures ∙ c.if-not-begins_letter.false) in
    let name : IsRun is_name_byte (drop 1 c.args.text.now) c.name_length-len.result = rw c.rest_from-name.ensures at c.name_length-len.ensures in
    type_variable-fault c.args.text.now _ (first-cons c.args.text.now 39 (omega arith) c.requires) letter name c.if-len-gt-LONGEST.true

pub returns : goal.returns
returns c =
    let letter : head_is is_letter (drop 1 c.args.text.now) ≡ true = rw c.rest_from-name.ensures at (sym c.begins_letter.ensures ∙ c.if-not-begins_letter.false) in
    let name : IsRun is_name_byte (drop 1 c.args.text.now) c.name_length-len.result = rw c.rest_from-name.ensures at c.name_length-len.ensures in
    type_variable-taken c.args.text.now _ (first-cons c.args.text.now 39 (omega arith) c.requires) letter name c.if-len-gt-LONGEST.false
