use Rattle.std.proofs.Common.{◌≡◌, true, false, drop, sym, ◌∙◌}
use Rattle.pure_grammar.specs.Tokens.Bytes.{head_is, is_letter, is_name_byte}
use Rattle.pure_lex.specs.Fronts.{IsRun, IsFront, is_index}
use Rattle.pure_lex.proofs.MarkFronts.{marks-within, schematic-taken, schematic-fault, schematic-none}
use Rattle.pure_lex.proofs.names.indexed.Goals as goal

pub rest_from-name-requires : goal.rest_from-name-requires
rest_from-name-requires c = marks-within c.requires

pub returns-then-not-begins_letter : goal.returns-then-not-begins_letter
returns-then-not-begins_letter c =
    let none : head_is is_letter (drop c.args.marks c.args.text.now) ≡ false = rw c.rest_from-name.ensures at (sym c.begins_letter.ensures ∙ c.if-not-begins_letter.true) in
    schematic-none c.args.text.now c.args.marks c.requires none

pub returns-then-len-gt-LONGEST : goal.returns-then-len-gt-LONGEST
returns-then-len-gt-LONGEST c =
    let letter : head_is is_letter (drop c.args.marks c.args.text.now) ≡ true = rw c.rest_from-name.ensures at (sym c.begins_letter.ensures ∙ c.if-not-begins_letter.false) in
    let name : IsRun is_name_byte (drop c.args.marks c.args.text.now) c.name_length-len.result = rw c.rest_from-name.ensures at c.name_length-len.ensures in
    let index : IsFront is_index (drop c.name_length-len.result (drop c.args.marks c.args.text.now)) c.index_length-index.result =
    rw (c.rest_from.ensures, c.rest_from-name.ensures) at c.index_length-index.ensures in
    schematic-fault c.args.text.now c.args.marks _ _ c.requires letter name index c.if-len-gt-LONGEST.true

pub returns : goal.returns
returns c =
    let letter : head_is is_letter (drop c.args.marks c.args.text.now) ≡ true = rw c.rest_from-name.ensures at (sym c.begins_letter.ensures ∙ c.if-not-begins_letter.false) in
    let name : IsRun is_name_byte (drop c.args.marks c.args.text.now) c.name_length-len.result = rw c.rest_from-name.ensures at c.name_length-len.ensures in
    let index : IsFront is_index (drop c.name_length-len.result (drop c.args.marks c.args.text.now)) c.index_length-index.result =
    rw (c.rest_from.ensures, c.rest_from-name.ensures) at c.index_length-index.ensures in
    schematic-taken c.args.text.now c.args.marks _ _ c.requires letter name index c.if-len-gt-LONGEST.false
