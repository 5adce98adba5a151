use Rattle.std.proofs.Common.{arith, []}
use Rattle.std.proofs.lemmas.List.{length-map}
use Rattle.pure_graph.specs.Seen.{seen_file, seen_files}
use Rattle.pure_session.specs.Waiting.{all_loaded}
use Rattle.pure_session.proofs.GraphLemmas.{sorted_standing}
use Rattle.pure_session.proofs.LoadLemmas.{waiting-few}
use Rattle.pure_session.proofs.OrderLemmas.{standing-grounded, order-among}
use Rattle.pure_session.proofs.order.load_order.Goals as goal

pub waiting_theories-requires : goal.waiting_theories-requires
waiting_theories-requires c = rw (c.as_slice-2.ensures.value, c.in_ok-names.ensures, c.as_slice.ensures.value) (sorted_standing (seen_files c.args.files.items) c.requires.ascend)

pub ordered-requires-clause-ascend : goal.ordered-requires-clause-ascend
ordered-requires-clause-ascend c = rw (c.as_slice-3.ensures.value, c.in_ok-names.ensures, c.as_slice.ensures.value) (sorted_standing (seen_files c.args.files.items) c.requires.ascend)

pub ordered-requires-clause-grounded : goal.ordered-requires-clause-grounded
ordered-requires-clause-grounded c = rw c.in_ok-rest.ensures.files (standing-grounded (seen_files c.args.files.items) c.requires.grounded)

pub ordered-requires-clause-few : goal.ordered-requires-clause-few
ordered-requires-clause-few c =
    omega (arith, waiting-few (seen_files c.args.files.items) c.in_ok-rest.rest.items c.in_ok-rest.ensures.files, length-map c.args.files.items seen_file, c.requires.few)

pub returns : goal.returns
returns c = order-among (seen_files c.args.files.items) [] (all_loaded c.in_ok-all.all.items) (rw c.in_ok-rest.ensures.files at c.in_ok-all.ensures)
