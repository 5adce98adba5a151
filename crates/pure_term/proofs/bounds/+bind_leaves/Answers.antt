use Rattle.std.proofs.Common.{◌≡◌, ◌+◌, max, refl, ap, ◌∙◌}
use Rattle.pure_definitions.specs.Types.Typ.{typ_size, typ_depth}
use Rattle.pure_definitions.specs.Terms.Term.{Term, Abs, term_size, term_depth}
use Rattle.pure_definitions.specs.Terms.Bounds.{bind_under}
use Rattle.pure_definitions.proofs.BindLemmas.{term_size-bind, term_depth-bind}
use Rattle.pure_definitions.proofs.GrownLemmas.{leaves-equal, leaves-abs}
use Rattle.pure_term.proofs.bounds.+bind_leaves.Goals as goal

pub returns-in-Some : goal.returns-in-Some
returns-in-Some t c =
    let e : c.args.t.now ≡ Abs c.in-Abs.typ c.deref.result.now = rw (← c.t.view_is, c.in-Abs.is, c.deref.ensures) refl in
    let size = ap (λ (u : Term). term_size (bind_under 0 c.args.v.now u)) e ∙ ap (λ n. 1 + (typ_size c.in-Abs.typ + n)) (term_size-bind 1 0 c.args.v.now c.deref.result.now) in
    let depth = ap (λ (u : Term). term_depth (bind_under 0 c.args.v.now u)) e ∙ ap (λ n. 1 + max (typ_depth c.in-Abs.typ) n) (term_depth-bind 1 0 c.args.v.now c.deref.result.now) in
    leaves-equal c.args.left c.args.room _ _ _ _ c.bind_leaves.result size depth
    (leaves-abs c.args.left c.args.room c.in-Some.rest (typ_size c.in-Abs.typ) (typ_depth c.in-Abs.typ) _ _ c.bind_leaves.result c.if-left-eq0.false c.if-room-eq0.false c.in-Some.ensures c.bind_leaves.ensures)
