-- Lexemes, and what they say, as contracts see them.
use Rattle.std.specs.Prelude.{Option, Some, None}
use Rattle.pure_grammar.specs.Terms.InnerLexeme as spec
use Rattle.pure_grammar.specs.Terms.InnerReader as reader
use Rattle.pure_read.specs.declared.lexeme.Lexeme.{Lexeme}
use Rattle.pure_read.specs.declared.lexeme.Lexeme.TheVariants.{Plain, Dotted, Variable, Schematic, TypeSchematic, Bound, Opens, Signed, Other, Ends}
use Rattle.pure_read.specs.declared.lexeme.Written.{Written}

abbrev pub seen_lexeme : Lexeme → spec.InnerLexeme
seen_lexeme (Plain text at) = spec.Plain text.now at
seen_lexeme (Dotted text at) = spec.Dotted text.now at
seen_lexeme (Variable text at) = spec.Variable text.now at
seen_lexeme (Schematic text at) = spec.Schematic text.now at
seen_lexeme (TypeSchematic text at) = spec.TypeSchematic text.now at
seen_lexeme (Bound text at) = spec.Bound text.now at
seen_lexeme (Opens opening at) = spec.Opens opening at
seen_lexeme (Signed mark) = spec.Signed mark
seen_lexeme Other = spec.Other
seen_lexeme Ends = spec.Ends

abbrev pub seen_one : Written → reader.Written
seen_one w = record { at = w.at; kind = w.kind; text = w.text }

abbrev pub seen_written : Option Written → Option reader.Written
seen_written None = None
seen_written (Some w) = Some (seen_one w)
