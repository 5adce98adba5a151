use Rattle.std.proofs.Common.{sym, ap, ◌∙◌}
use Rattle.pure_definitions.specs.Terms.Measures.{term_index_above}
use Rattle.pure_elab.specs.Numbering.{image_of}
use Rattle.pure_elab.specs.Numbers.{entries}
use Rattle.pure_elab.proofs.ReplacedLaws.{term_unchanged, abs_done, app_done}
use Rattle.pure_elab.proofs.numbered.+number_term.Goals as goal

pub returns-then-index_above_of-eq0 : goal.returns-then-index_above_of-eq0
returns-then-index_above_of-eq0 t c =
    let bare = ap term_index_above (sym c.deref-whole.ensures) ∙ sym c.index_above_of.ensures ∙ c.if-index_above_of-eq0.true in
    term_unchanged (image_of c.args.numbering) c.args.first (entries (image_of c.args.numbering) c.args.first c.args.numbers.now) c.args.t.now.value c.in_ok-same.same.value c.in_ok-same.ensures bare

pub returns-in_ok-made-in-Abs : goal.returns-in_ok-made-in-Abs
returns-in_ok-made-in-Abs t c =
    let image = image_of c.args.numbering in
    let now = entries image c.args.first c.number_typ.new.numbers in
    rw (← c.deref-whole.ensures, ← c.whole.view_is, c.in-Abs.is)
    (abs_done image c.args.first (entries image c.args.first c.args.numbers.now) now (entries image c.args.first c.number_term.new.numbers) c.in-Abs.typ c.in_ok-typ-in-Abs.typ c.in-Abs.body.value c.in_ok-body-in-Abs.body.value c.in_ok-made-in-Abs.made.value
    c.in_ok-made-in-Abs.ensures c.in_ok-typ-in-Abs.ensures.added c.in_ok-typ-in-Abs.ensures.typ c.in_ok-body-in-Abs.ensures)

pub returns-in_ok-made-in-App : goal.returns-in_ok-made-in-App
returns-in_ok-made-in-App t c =
    let image = image_of c.args.numbering in
    let now = entries image c.args.first c.number_term-in-App.new.numbers in
    rw (← c.deref-whole.ensures, ← c.whole.view_is, c.in-App.is)
    (app_done image c.args.first (entries image c.args.first c.args.numbers.now) now (entries image c.args.first c.number_term-in-App-2.new.numbers) c.in-App.fun.value c.in_ok-fun-in-App.fun.value c.in-App.arg.value c.in_ok-arg-in-App.arg.value c.in_ok-made-in-App.made.value
    c.in_ok-made-in-App.ensures c.in_ok-fun-in-App.ensures c.in_ok-arg-in-App.ensures)
