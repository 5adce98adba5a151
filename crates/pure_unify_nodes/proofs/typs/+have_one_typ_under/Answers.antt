use Rattle.std.proofs.Common.{◌≡◌, refl}
use Rattle.pure_definitions.specs.Terms.Term.{Abs}
use Rattle.pure_term.specs.Scope.{scope_typs}
use Rattle.pure_unify_nodes.proofs.OwnLaws.{on_true}
use Rattle.pure_unify_nodes.proofs.OneTypLaws.{same_abstractions}
use Rattle.pure_unify_nodes.proofs.typs.+have_one_typ_under.Goals as goal

pub returns-else-not-are_same_typs : goal.returns-else-not-are_same_typs
returns-else-not-are_same_typs t c =
    let first : c.args.l.now ≡ Abs c.in-Abs-Abs.typ c.deref.result.now = rw (← c.l.view_is, c.in-Abs-Abs.is-0, c.deref.ensures) refl in
    let second : c.args.r.now ≡ Abs c.in-Abs-Abs.other c.deref-in-Abs-Abs.result.now = rw (← c.r.view_is, c.in-Abs-Abs.is-1, c.deref-in-Abs-Abs.ensures) refl in
    on_true c.have_one_typ_under.result
    (same_abstractions (scope_typs c.args.scope.now) c.args.l.now c.args.r.now c.in-Abs-Abs.typ c.in-Abs-Abs.other c.deref.result.now c.deref-in-Abs-Abs.result.now first second (c.are_same_typs.ensures.0 c.if-not-are_same_typs.false))
    c.have_one_typ_under.ensures
