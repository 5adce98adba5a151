-- Parts that are read, as contracts see them.
use Rattle.pure_grammar.specs.Terms.InnerReader as spec
use Rattle.pure_read.specs.Frames.{seen_stack}
use Rattle.pure_read.specs.declared.term.TermPart.{TermPart}
use Rattle.pure_read.specs.declared.typ.TypePart.{TypePart}

abbrev pub seen_term_part : TermPart → spec.TermPart
seen_term_part p = record { at = p.at; term = p.term.value; stack = seen_stack p.stack }

abbrev pub seen_type_part : TypePart → spec.TypePart
seen_type_part p = record { at = p.at; typ = p.typ; stack = seen_stack p.stack }
