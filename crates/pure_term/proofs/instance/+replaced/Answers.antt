use Rattle.std.proofs.Common.{◌≡◌, arith}
use Rattle.pure_definitions.specs.Terms.Subst.{term_image, inst_term}
use Rattle.pure_definitions.proofs.InstanceLemmas.{term_image-fixed}
use Rattle.pure_definitions.specs.Terms.Measures.{term_index_above}
use Rattle.pure_term.proofs.StaysLemmas.{inst_term_stays}
use Rattle.pure_term.proofs.instance.+replaced.Goals as goal

pub returns-in-Free : goal.returns-in-Free
returns-in-Free t c =
    let fixed : inst_term (term_image c.args.binds.now) c.args.t.now.value ≡ c.args.t.now.value = rw (← c.deref-whole.ensures, ← c.whole.view_is, c.in-Free.is) (term_image-fixed c.args.binds.now c.in-Free.name c.in-Free.typ) in
    rw fixed c.try_clone-in-Free.ensures

pub returns-then-index_above_of-eq0 : goal.returns-then-index_above_of-eq0
returns-then-index_above_of-eq0 t c =
    let ground : term_index_above c.args.t.now.value ≡ 0 = rw (← c.deref-whole.ensures) (omega arith) in
    rw (inst_term_stays c.args.binds.now c.args.t.now.value ground) c.try_clone.ensures
