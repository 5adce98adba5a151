use Rattle.std.proofs.Common.{◌≡◌, ◌+◌, ◌<◌, ◌≤◌, arith, refl}
use Rattle.pure_definitions.specs.Terms.Term.{term_depth, Abs, App}
use Rattle.pure_definitions.specs.Terms.Measures.{loose_above}
use Rattle.pure_pattern_terms.proofs.RenamedLaws.{renamed_stays, less-room, body-room, function-room, argument-room, abstraction-fits, body-shorter, parts-shorter}
use Rattle.pure_pattern_terms.proofs.renaming.+renamed.Goals as goal

pub returns-then-loose_above_of-from : goal.returns-then-loose_above_of-from
returns-then-loose_above_of-from t c =
    let low : loose_above c.args.t.now.value ≤ c.args.under = rw (← c.deref-whole.ensures) (omega arith) in
    rw (renamed_stays c.args.under c.args.places.now c.args.t.now.value low) c.try_clone.ensures

pub renamed_place-place-requires : goal.renamed_place-place-requires
renamed_place-place-requires t c = record { places = (less-room c.args.under (c.args.under + term_depth c.args.t.now.value) c.args.places.now (omega arith) c.requires.room).each }

pub overflow_add-under : goal.overflow_add-under
overflow_add-under t c =
    let fits : c.args.under + 1 < 4294967296 = abstraction-fits c.args.under c.args.places.now c.args.t.now.value c.in-Abs.body.value c.in-Abs.typ (rw (← c.deref-whole.ensures, ← c.whole.view_is, c.in-Abs.is) refl) c.requires.room in
    omega arith

pub renamed-requires : goal.renamed-requires
renamed-requires t c =
    let whole : c.args.t.now.value ≡ Abs c.in-Abs.typ c.in-Abs.body.value = rw (← c.deref-whole.ensures, ← c.whole.view_is, c.in-Abs.is) refl in
    let shorter : term_depth c.in-Abs.body.value < term_depth c.args.t.now.value = body-shorter c.args.t.now.value c.in-Abs.body.value c.in-Abs.typ whole in
    (omega (arith, shorter), body-room c.args.under c.args.places.now c.args.t.now.value c.in-Abs.body.value c.in-Abs.typ whole c.requires.room)

pub renamed-requires-in-App : goal.renamed-requires-in-App
renamed-requires-in-App t c =
    let whole : c.args.t.now.value ≡ App c.in-App.fun.value c.in-App.arg.value = rw (← c.deref-whole.ensures, ← c.whole.view_is, c.in-App.is) refl in
    let shorter : term_depth c.in-App.fun.value < term_depth c.args.t.now.value = (parts-shorter c.args.t.now.value c.in-App.fun.value c.in-App.arg.value whole).0 in
    (omega (arith, shorter), function-room c.args.under c.args.places.now c.args.t.now.value c.in-App.fun.value c.in-App.arg.value whole c.requires.room)

pub renamed-requires-in-App-2 : goal.renamed-requires-in-App-2
renamed-requires-in-App-2 t c =
    let whole : c.args.t.now.value ≡ App c.in-App.fun.value c.in-App.arg.value = rw (← c.deref-whole.ensures, ← c.whole.view_is, c.in-App.is) refl in
    let shorter : term_depth c.in-App.arg.value < term_depth c.args.t.now.value = (parts-shorter c.args.t.now.value c.in-App.fun.value c.in-App.arg.value whole).1 in
    (omega (arith, shorter), argument-room c.args.under c.args.places.now c.args.t.now.value c.in-App.fun.value c.in-App.arg.value whole c.requires.room)
