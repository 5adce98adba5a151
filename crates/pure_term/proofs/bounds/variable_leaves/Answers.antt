use Rattle.std.proofs.Common.{◌≢◌, ap}
use Rattle.pure_definitions.specs.Terms.Term.{term_size, term_depth}
use Rattle.pure_definitions.proofs.BindLemmas.{bind_under-same, bind_under-other}
use Rattle.pure_definitions.proofs.GrownLemmas.{leaves-equal}
use Rattle.pure_term.proofs.bounds.variable_leaves.Goals as goal

pub returns-then-are_same : goal.returns-then-are_same
returns-then-are_same c =
    let same = bind_under-same 0 c.args.v.now c.args.t.now c.requires (c.are_same.ensures.0 c.if-are_same.true) in
    leaves-equal c.args.left c.args.room 1 1 _ _ c.node_leaves.result (ap term_size same) (ap term_depth same) c.node_leaves.ensures

pub returns-else-are_same : goal.returns-else-are_same
returns-else-are_same c =
    let other : c.args.v.now ≢ c.args.t.now = λ e. let yes = c.are_same.ensures.1 e in absurd (cc) in
    let same = bind_under-other 0 c.args.v.now c.args.t.now c.requires other in
    leaves-equal c.args.left c.args.room (term_size c.args.t.now) (term_depth c.args.t.now) _ _ c.term_leaves.result (ap term_size same) (ap term_depth same) c.term_leaves.ensures
