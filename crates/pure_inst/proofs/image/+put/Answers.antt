use Rattle.std.proofs.Common.{◌≡◌, ◌∙◌, ap, sym, arith}
use Rattle.pure_definitions.specs.Terms.Term.{Const, Free, Abs}
use Rattle.pure_definitions.specs.Terms.Subst.{typ_image, typ_instance}
use Rattle.pure_definitions.specs.Terms.Measures.{term_index_above}
use Rattle.pure_definitions.proofs.InstanceLemmas.{term_image-fixed}
use Rattle.pure_inst.proofs.StaysLaws.{instantiated_stays}
use Rattle.pure_inst.proofs.image.+put.Goals as goal

pub returns-then-index_above_of-eq0 : goal.returns-then-index_above_of-eq0
returns-then-index_above_of-eq0 t c =
    let ground : term_index_above c.args.t.now.value ≡ 0 = rw (← c.deref-whole.ensures) (omega arith) in
    rw (instantiated_stays c.args.typs.now c.args.terms.now c.args.t.now.value ground) c.try_clone.ensures

pub returns-in_ok-new-in-Const : goal.returns-in_ok-new-in-Const
returns-in_ok-new-in-Const t c = rw (← c.deref-whole.ensures, ← c.whole.view_is, c.in-Const.is) (c.in_ok-new-in-Const.ensures.ok ∙ ap (Const c.in-Const.name) c.in_ok-typ-in-Const.ensures)

pub returns-in_ok-new-in-Free : goal.returns-in_ok-new-in-Free
returns-in_ok-new-in-Free t c =
    rw (← c.deref-whole.ensures, ← c.whole.view_is, c.in-Free.is)
    (c.in_ok-new-in-Free.ensures.ok ∙ (ap (Free c.in-Free.name) c.in_ok-typ-in-Free.ensures ∙ sym (term_image-fixed c.args.terms.now c.in-Free.name (typ_instance (typ_image c.args.typs.now) c.in-Free.typ))))

pub returns-in_ok-new-in-Abs : goal.returns-in_ok-new-in-Abs
returns-in_ok-new-in-Abs t c =
    rw (← c.deref-whole.ensures, ← c.whole.view_is, c.in-Abs.is) (c.in_ok-new-in-Abs.ensures.ok ∙ c.abs.ensures ∙ (λ i. Abs (c.in_ok-typ-in-Abs.ensures i) (c.in_ok-body-in-Abs.ensures i)))
