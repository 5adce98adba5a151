use Rattle.std.proofs.Common.{◌≡◌, refl, arith}
use Rattle.pure_definitions.specs.Terms.Term.{Abs, App}
use Rattle.pure_unify_sides.proofs.FirmLemmas.{body_within, function_within, argument_within}
use Rattle.pure_unify_sides.proofs.firm.+stands.Goals as goal

pub stands_in-stands_in-requires : goal.stands_in-stands_in-requires
stands_in-stands_in-requires t c =
    let is : c.args.t.now ≡ Abs c.in-Abs.typ c.in-Abs.body.value = rw (← c.t.view_is, c.in-Abs.is) refl in
    let facts = body_within c.args.inner c.args.t.now c.in-Abs.typ c.in-Abs.body.value c.deref.result.now is c.deref.ensures c.requires in
    let shorter = facts.0 in
    (omega (arith, shorter), facts.1)

pub stands_in-stands_in_arguments-requires : goal.stands_in-stands_in_arguments-requires
stands_in-stands_in_arguments-requires t c =
    let is : c.args.t.now ≡ App c.in-App.fun.value c.in-App.arg.value = rw (← c.t.view_is, c.in-App.is) refl in
    let facts = function_within c.args.inner c.args.t.now c.in-App.fun.value c.in-App.arg.value c.deref-then-is_firm_head.result.now is c.deref-then-is_firm_head.ensures c.requires in
    let shorter = facts.0 in
    (omega (arith, shorter), facts.1)

pub stands_in-stands_in-requires-else-stands_in_arguments : goal.stands_in-stands_in-requires-else-stands_in_arguments
stands_in-stands_in-requires-else-stands_in_arguments t c =
    let is : c.args.t.now ≡ App c.in-App.fun.value c.in-App.arg.value = rw (← c.t.view_is, c.in-App.is) refl in
    let facts = argument_within c.args.inner c.args.t.now c.in-App.fun.value c.in-App.arg.value c.deref-else-stands_in_arguments.result.now is c.deref-else-stands_in_arguments.ensures c.requires in
    let shorter = facts.0 in
    (omega (arith, shorter), facts.1)

pub stands_in_arguments-stands_in_arguments-requires : goal.stands_in_arguments-stands_in_arguments-requires
stands_in_arguments-stands_in_arguments-requires t c =
    let is : c.args.t.now ≡ App c.in-App.fun.value c.in-App.arg.value = rw (← c.t.view_is, c.in-App.is) refl in
    let facts = function_within c.args.inner c.args.t.now c.in-App.fun.value c.in-App.arg.value c.deref.result.now is c.deref.ensures c.requires in
    let shorter = facts.0 in
    (omega (arith, shorter), facts.1)

pub stands_in_arguments-stands_in-requires : goal.stands_in_arguments-stands_in-requires
stands_in_arguments-stands_in-requires t c =
    let is : c.args.t.now ≡ App c.in-App.fun.value c.in-App.arg.value = rw (← c.t.view_is, c.in-App.is) refl in
    let facts = argument_within c.args.inner c.args.t.now c.in-App.fun.value c.in-App.arg.value c.deref-else-stands_in_arguments.result.now is c.deref-else-stands_in_arguments.ensures c.requires in
    let shorter = facts.0 in
    (omega (arith, shorter), facts.1)
