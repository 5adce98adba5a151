use Rattle.std.proofs.Common.{◌≡◌, ap, refl, arith}
use Rattle.pure_definitions.specs.Terms.Term.{Bound, term_size, term_depth}
use Rattle.pure_definitions.proofs.GrownLemmas.{leaves-put, leaves-equal}
use Rattle.pure_definitions.proofs.MeasureLemmas.{put_stays}
use Rattle.pure_term.proofs.bounds.+subst_leaves.Goals as goal

pub returns-then-bound-place : goal.returns-then-bound-place
returns-then-bound-place t c =
    let e : c.args.body.now ≡ Bound c.in-Bound.bound = rw (← c.body.view_is, c.in-Bound.is) refl in
    leaves-put c.args.place c.in-Bound.bound c.args.arg.now c.args.body.now c.args.left c.args.room c.args.arg_size c.args.arg_depth c.node_leaves.result e c.if-bound-place.true
    c.requires.arg_size c.requires.arg_depth (omega arith) c.requires.low c.node_leaves.ensures

pub returns-then-loose_above_of-from : goal.returns-then-loose_above_of-from
returns-then-loose_above_of-from t c =
    let stays = put_stays c.args.place c.args.arg.now c.args.body.now (omega arith) in
    leaves-equal c.args.left c.args.room (term_size c.args.body.now) (term_depth c.args.body.now) _ _ c.term_leaves.result (ap term_size stays) (ap term_depth stays) c.term_leaves.ensures
