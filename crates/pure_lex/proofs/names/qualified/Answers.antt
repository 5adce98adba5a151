use Rattle.std.proofs.Common.{◌+◌, drop}
use Rattle.pure_grammar.specs.Tokens.Bytes.{is_name_byte}
use Rattle.pure_lex.specs.Fronts.{IsRun}
use Rattle.pure_lex.proofs.NameFronts.{dotted, qualified-taken, qualified-fault, qualified-fault_second}
use Rattle.pure_lex.proofs.names.qualified.Goals as goal

pub returns-then-len-gt-LONGEST : goal.returns-then-len-gt-LONGEST
returns-then-len-gt-LONGEST c =
    let second : IsRun is_name_byte (drop (c.args.len + 1) c.args.text.now) c.name_length-second.result = rw c.rest_from.ensures at c.name_length-second.ensures in
    qualified-fault c.args.text.now c.args.len _ c.requires.letter c.requires.first (dotted c.args.text.now c.args.len c.requires.dotted) second c.if-len-gt-LONGEST.true

pub returns-then-second-gt-LONGEST : goal.returns-then-second-gt-LONGEST
returns-then-second-gt-LONGEST c =
    let second : IsRun is_name_byte (drop (c.args.len + 1) c.args.text.now) c.name_length-second.result = rw c.rest_from.ensures at c.name_length-second.ensures in
    qualified-fault_second c.args.text.now c.args.len _ c.requires.letter c.requires.first (dotted c.args.text.now c.args.len c.requires.dotted) second c.if-len-gt-LONGEST.false c.if-second-gt-LONGEST.true

pub returns : goal.returns
returns c =
    let second : IsRun is_name_byte (drop (c.args.len + 1) c.args.text.now) c.name_length-second.result = rw c.rest_from.ensures at c.name_length-second.ensures in
    qualified-taken c.args.text.now c.args.len _ c.requires.letter c.requires.first (dotted c.args.text.now c.args.len c.requires.dotted) second c.if-len-gt-LONGEST.false c.if-second-gt-LONGEST.false
