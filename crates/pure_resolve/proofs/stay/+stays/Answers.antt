use Rattle.std.proofs.Common.{◌∙◌, ap, arith}
use Rattle.pure_definitions.specs.Types.Typ.{Typ}
use Rattle.pure_definitions.specs.Terms.Term.{Const, Free, Abs}
use Rattle.pure_definitions.specs.Terms.Subst.{term_image}
use Rattle.pure_definitions.proofs.InstanceLemmas.{term_image-fixed}
use Rattle.pure_resolve.proofs.StayLaws.{low_term_stays}
use Rattle.pure_resolve.proofs.stay.+stays.Goals as goal

pub returns-then-index_above_of-least : goal.returns-then-index_above_of-least
returns-then-index_above_of-least t c = λ _. low_term_stays c.args.typs.now c.args.terms.now c.args.least c.requires c.args.t.now (omega arith)

pub returns-in-Const : goal.returns-in-Const
returns-in-Const t c = λ h. rw (← c.t.view_is, c.in-Const.is) (ap (Const c.in-Const.name) (c.stays_typ.ensures h))

pub returns-in-Free : goal.returns-in-Free
returns-in-Free t c = λ h.
    rw (← c.t.view_is, c.in-Free.is)
    (ap (λ (T : Typ). term_image c.args.terms.now (Free c.in-Free.name T)) (c.stays_typ-in-Free.ensures h) ∙ term_image-fixed c.args.terms.now c.in-Free.name c.in-Free.typ)

pub returns-then-stays_typ : goal.returns-then-stays_typ
returns-then-stays_typ t c = λ h. rw (← c.t.view_is, c.in-Abs.is, ← c.deref.ensures) (λ i. Abs (c.stays_typ-in-Abs.ensures c.if-stays_typ.true i) (c.stays.ensures h i))
