use Rattle.std.proofs.Common.{length, sym, subst}
use Rattle.pure_text.specs.Lists.{Each}
use Rattle.pure_grammar.specs.Tokens.Spelling.{IsSlice}
use Rattle.pure_places.proofs.LoopLaws.{slices-each}
use Rattle.pure_places.proofs.ReadLaws.{found-places, no-places}
use Rattle.pure_places.proofs.search.find_places.Goals as goal

pub found_among-requires-clause-slices : goal.found_among-requires-clause-slices
found_among-requires-clause-slices c =
    subst (Each (IsSlice c.args.source.now)) (sym c.as_slice.ensures.value) (slices-each c.args.source.now 0 (length c.args.source.now) c.in-Ok.found.items c.in-Ok.ensures.slices)

pub returns-in-Ok : goal.returns-in-Ok
returns-in-Ok c = found-places c.finds_parts.ensures c.args.source.now c.in-Ok.found.items c.as_slice.result.now c.in-Ok.ensures.ok c.as_slice.ensures.value _ c.found_among.ensures

pub returns-in-Err-At : goal.returns-in-Err-At
returns-in-Err-At c = no-places c.args.source.now c.in-Err-At.field-0-0 c.in-Err-At.field-0 c.in-Err-At.ensures.fault c.in-Err-At.field-0-is _
