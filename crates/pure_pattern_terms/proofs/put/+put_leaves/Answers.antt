use Rattle.std.proofs.Common.{ap, arith}
use Rattle.pure_definitions.specs.Terms.Term.{term_size, term_depth}
use Rattle.pure_definitions.proofs.GrownLemmas.{leaves-equal}
use Rattle.pure_pattern_terms.proofs.SizeLaws.{low_put}
use Rattle.pure_pattern_terms.proofs.put.+put_leaves.Goals as goal

pub returns-then-index_above_of-from : goal.returns-then-index_above_of-from
returns-then-index_above_of-from t c =
    let stays = low_put c.args.from c.args.binds.now c.args.t.now c.requires (omega arith) in
    leaves-equal c.args.left c.args.room (term_size c.args.t.now) (term_depth c.args.t.now) _ _ c.term_leaves.result (ap term_size stays) (ap term_depth stays) c.term_leaves.ensures
