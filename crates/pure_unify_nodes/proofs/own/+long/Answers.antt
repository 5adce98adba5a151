use Rattle.std.proofs.Common.{◌≡◌, refl}
use Rattle.pure_definitions.specs.Terms.Term.{Const, Free, Var, Abs}
use Rattle.pure_term.specs.Scope.{scope_typs}
use Rattle.pure_unify_nodes.proofs.OwnLaws.{constant_front, fixed_front, schematic_front, base_long, abstraction_long, on_true}
use Rattle.pure_unify_nodes.proofs.own.+long.Goals as goal

pub front_typ-returns-in-Const : goal.front_typ-returns-in-Const
front_typ-returns-in-Const t c =
    let is : c.args.t.now ≡ Const c.in-Const.name c.in-Const.typ = rw (← c.t.view_is, c.in-Const.is) refl in
    constant_front (scope_typs c.args.scope.now) c.args.t.now c.in-Const.name c.in-Const.typ is

pub front_typ-returns-in-Free : goal.front_typ-returns-in-Free
front_typ-returns-in-Free t c =
    let is : c.args.t.now ≡ Free c.in-Free.name c.in-Free.typ = rw (← c.t.view_is, c.in-Free.is) refl in
    fixed_front (scope_typs c.args.scope.now) c.args.t.now c.in-Free.name c.in-Free.typ is

pub front_typ-returns-in-Var : goal.front_typ-returns-in-Var
front_typ-returns-in-Var t c =
    let is : c.args.t.now ≡ Var c.in-Var.name c.in-Var.index c.in-Var.typ = rw (← c.t.view_is, c.in-Var.is) refl in
    schematic_front (scope_typs c.args.scope.now) c.args.t.now c.in-Var.name c.in-Var.index c.in-Var.typ is

pub is_long_under-returns-in-Abs : goal.is_long_under-returns-in-Abs
is_long_under-returns-in-Abs t c =
    let is : c.args.t.now ≡ Abs c.in-Abs.typ c.deref.result.now = rw (← c.t.view_is, c.in-Abs.is, c.deref.ensures) refl in
    on_true c.is_long_under.result (abstraction_long (scope_typs c.args.scope.now) c.args.t.now c.in-Abs.typ c.deref.result.now is) c.is_long_under.ensures

pub is_long_under-returns-in-Some : goal.is_long_under-returns-in-Some
is_long_under-returns-in-Some t c = on_true c.is_base.result (base_long (scope_typs c.args.scope.now) c.args.t.now c.in-Some.typ.now c.in-Some.ensures) c.is_base.ensures
