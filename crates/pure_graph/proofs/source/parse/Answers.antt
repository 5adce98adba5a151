use Rattle.pure_graph.proofs.SourceLemmas.{grammar-fault}
use Rattle.pure_graph.proofs.source.parse.Goals as goal

pub returns-in-Err-Syntax : goal.returns-in-Err-Syntax
returns-in-Err-Syntax c =
    grammar-fault c.args.source.now c.in-Ok.found.items c.as_slice.result.now c.in-Err-Syntax.at c.in-Err-Syntax.field-0-1 c.in-Err-Syntax.field-0
    c.in-Ok.ensures.ok c.in-Ok.ensures.slices c.as_slice.ensures.value c.in-Err-Syntax.ensures.fault c.in-Err-Syntax.field-0-is
