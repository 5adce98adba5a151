use Rattle.std.proofs.Common.{arith, length}
use Rattle.pure_promise_fates.proofs.CodeLaws.{seen-length}
use Rattle.pure_table.specs.Promise.Seen.{seen, seen_entry}
use Rattle.pure_citations.specs.Cited.{forks}
use Rattle.pure_citations.proofs.EdgeCode.{all-none, all-step, all-end}
use Rattle.pure_citations.proofs.edges.put_all_edges.Goals as goal

pub loop-place-init : goal.loop-place-init
loop-place-init c = all-none c.args.names.now (forks c.args.duties.now) (seen c.args.entries.now) c.args.graph.now.nodes.items c.args.text.now.items

pub loop-place-preserved : goal.loop-place-preserved
loop-place-preserved c =
    let long = seen-length seen_entry c.args.entries.now in
    all-step c.args.names.now (forks c.args.duties.now) (seen c.args.entries.now) c.args.graph.now.nodes.items c.loop-place.place (omega (arith, c.loop-place-test.true, long)) _ _ _ c.loop-place.invariant c.in_ok-put_edges.ensures

pub returns : goal.returns
returns c =
    let long = seen-length seen_entry c.args.entries.now in
    all-end c.args.names.now (forks c.args.duties.now) (seen c.args.entries.now) c.args.graph.now.nodes.items c.loop-place.place (omega (arith, c.loop-place-test.false, long)) _ _ c.loop-place.invariant
