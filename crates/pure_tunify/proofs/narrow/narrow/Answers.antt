use Rattle.std.proofs.Common.{◌≡◌, map, refl}
use Rattle.pure_tunify.specs.Occurrences.{schematics}
use Rattle.pure_tunify.specs.Asks.{AreAsked}
use Rattle.pure_tunify.specs.Asking.{asked_variable}
use Rattle.pure_text.proofs.ListLaws.{read_in}
use Rattle.pure_tunify.proofs.AskingLaws.{nothing_asked}
use Rattle.pure_tunify.proofs.ReachLaws.{on_true}
use Rattle.pure_tunify.proofs.NarrowLaws.{fits_as_asked, narrowing_start, narrowed_fits, narrowed_at_once}
use Rattle.pure_tunify.proofs.RenamedLaws.{IsAskedOf, renamed_first, renamed_turn, renamed_last, not_fresh_now, unset_now}
use Rattle.pure_tunify.proofs.narrow.narrow.Goals as goal

pub returns-then-is_empty : goal.returns-then-is_empty
returns-then-is_empty c = narrowed_at_once c.args.order.now c.args.sort.now c.args.settings.now c.args.t c.requires.old c.requires.free c.classes.result.now c.is_empty.result c.classes.ensures.are c.is_empty.ensures c.if-is_empty.true

pub returns-then-is_variable_of_sort : goal.returns-then-is_variable_of_sort
returns-then-is_variable_of_sort c = narrowed_fits c.args.order.now c.args.sort.now c.args.settings.now c.args.settings.now c.args.settings.now c.args.t c.args.t c.args.t
    (narrowing_start c.args.order.now c.args.sort.now c.args.settings.now c.args.t c.requires.old c.requires.free) (refl, refl, on_true _ c.is_variable_of_sort.result c.is_variable_of_sort.ensures c.if-is_variable_of_sort.true)

pub returns-then-is_nothing_known : goal.returns-then-is_nothing_known
returns-then-is_nothing_known c =
    let are : AreAsked c.args.order.now c.args.t c.args.sort.now c.as_slice-all.result.now = rw c.as_slice-all.ensures.value (rw c.in-Some.is at c.in_ok-found.ensures.asked) in
    narrowed_fits c.args.order.now c.args.sort.now c.args.settings.now c.args.settings.now c.args.settings.now c.args.t c.args.t c.args.t
    (narrowing_start c.args.order.now c.args.sort.now c.args.settings.now c.args.t c.requires.old c.requires.free)
    (refl, refl, fits_as_asked c.args.order.now c.args.t c.args.sort.now c.as_slice-all.result.now are (nothing_asked c.args.order.now c.as_slice-all.result.now c.in_ok-known.known c.in_ok-known.ensures (on_true _ c.is_nothing_known.result c.is_nothing_known.ensures c.if-is_nothing_known.true)))

pub loop-one-init : goal.loop-one-init
loop-one-init c = renamed_first c.args.order.now c.args.sort.now c.args.settings.now c.args.t c.as_slice-all.result.now c.empty-renamed.result c.requires.old c.requires.free c.next.ensures.tidy c.empty-renamed.ensures

pub narrow_variable-requires-clause-old : goal.narrow_variable-requires-clause-old
narrow_variable-requires-clause-old c =
    let are : AreAsked c.args.order.now c.args.t c.args.sort.now c.as_slice-all.result.now = rw c.as_slice-all.ensures.value (rw c.in-Some.is at c.in_ok-found.ensures.asked) in
    let order : map asked_variable c.as_slice-all.result.now ≡ schematics c.args.t = rw c.as_slice-all.ensures.value (rw c.in-Some.is at c.in_ok-found.ensures.in_order) in
    let of : IsAskedOf c.args.order.now c.args.sort.now c.args.settings.now c.args.t c.as_slice-all.result.now = record { are = are; in_order = order; old_typ = c.requires.old; free = c.requires.free } in
    not_fresh_now c.args.order.now c.args.sort.now c.args.settings.now c.loop-one.settings c.args.t c.as_slice-all.result.now c.loop-one.one-index c.loop-one.renamed of c.loop-one.invariant c.one-item.result
    (read_in c.as_slice-all.result.now c.loop-one.one-index c.one-item.result c.loop-one-test.true c.one-item.is)

pub narrow_variable-requires-clause-unset : goal.narrow_variable-requires-clause-unset
narrow_variable-requires-clause-unset c =
    let are : AreAsked c.args.order.now c.args.t c.args.sort.now c.as_slice-all.result.now = rw c.as_slice-all.ensures.value (rw c.in-Some.is at c.in_ok-found.ensures.asked) in
    let order : map asked_variable c.as_slice-all.result.now ≡ schematics c.args.t = rw c.as_slice-all.ensures.value (rw c.in-Some.is at c.in_ok-found.ensures.in_order) in
    let of : IsAskedOf c.args.order.now c.args.sort.now c.args.settings.now c.args.t c.as_slice-all.result.now = record { are = are; in_order = order; old_typ = c.requires.old; free = c.requires.free } in
    unset_now c.args.order.now c.args.sort.now c.args.settings.now c.loop-one.settings c.args.t c.as_slice-all.result.now c.loop-one.one-index c.loop-one.renamed of c.loop-one.invariant c.one-item.result
    (read_in c.as_slice-all.result.now c.loop-one.one-index c.one-item.result c.loop-one-test.true c.one-item.is)

pub loop-one-preserved : goal.loop-one-preserved
loop-one-preserved c =
    let are : AreAsked c.args.order.now c.args.t c.args.sort.now c.as_slice-all.result.now = rw c.as_slice-all.ensures.value (rw c.in-Some.is at c.in_ok-found.ensures.asked) in
    let order : map asked_variable c.as_slice-all.result.now ≡ schematics c.args.t = rw c.as_slice-all.ensures.value (rw c.in-Some.is at c.in_ok-found.ensures.in_order) in
    let of : IsAskedOf c.args.order.now c.args.sort.now c.args.settings.now c.args.t c.as_slice-all.result.now = record { are = are; in_order = order; old_typ = c.requires.old; free = c.requires.free } in
    renamed_turn c.args.order.now c.args.sort.now c.args.settings.now c.loop-one.settings c.args.t c.as_slice-all.result.now c.loop-one.one-index c.loop-one.renamed of c.loop-one.invariant c.one-item.result c.loop-one-test.true c.one-item.is
    c.narrow_variable.new.settings c.narrow_variable.new.renamed (c.in_ok-narrow_variable.ensures c.as_slice-all.result.now c.in_ok-known.ensures)

pub returns : goal.returns
returns c =
    let are : AreAsked c.args.order.now c.args.t c.args.sort.now c.as_slice-all.result.now = rw c.as_slice-all.ensures.value (rw c.in-Some.is at c.in_ok-found.ensures.asked) in
    let order : map asked_variable c.as_slice-all.result.now ≡ schematics c.args.t = rw c.as_slice-all.ensures.value (rw c.in-Some.is at c.in_ok-found.ensures.in_order) in
    let of : IsAskedOf c.args.order.now c.args.sort.now c.args.settings.now c.args.t c.as_slice-all.result.now = record { are = are; in_order = order; old_typ = c.requires.old; free = c.requires.free } in
    renamed_last c.args.order.now c.args.sort.now c.args.settings.now c.loop-one.settings c.args.t c.as_slice-all.result.now c.loop-one.one-index c.loop-one.renamed of c.loop-one.invariant c.in_ok-u.u c.loop-one-test.false c.in_ok-u.ensures
