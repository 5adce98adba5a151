use Rattle.std.proofs.Common.{◌≡◌, ap, arith}
use Rattle.pure_definitions.specs.Terms.Term.{term_size, term_depth}
use Rattle.pure_definitions.specs.Terms.Subst.{term_image, inst_term}
use Rattle.pure_definitions.proofs.GrownLemmas.{leaves-equal}
use Rattle.pure_definitions.proofs.InstanceLemmas.{term_image-fixed}
use Rattle.pure_norm.proofs.InstanceLaws.{below_stays}
use Rattle.pure_norm.proofs.instance.+instance_leaves.Goals as goal

pub returns-in-Free : goal.returns-in-Free
returns-in-Free t c =
    let fixed : inst_term (term_image c.args.map.now) c.args.t.now ≡ c.args.t.now = rw (← c.t.view_is, c.in-Free.is) (term_image-fixed c.args.map.now c.in-Free.name c.in-Free.typ) in
    leaves-equal c.args.left c.args.room (term_size c.args.t.now) (term_depth c.args.t.now) _ _ c.term_leaves-in-Free.result (ap term_size fixed) (ap term_depth fixed) c.term_leaves-in-Free.ensures

pub returns-then-index_above_of-least : goal.returns-then-index_above_of-least
returns-then-index_above_of-least t c =
    let stays = below_stays c.args.map.now c.args.least c.requires c.args.t.now (omega arith) in
    leaves-equal c.args.left c.args.room (term_size c.args.t.now) (term_depth c.args.t.now) _ _ c.term_leaves.result (ap term_size stays) (ap term_depth stays) c.term_leaves.ensures
