use Rattle.std.proofs.Common.{List, ◌++◌, Some, None, sym, subst, ◌∙◌}
use Rattle.pure_definitions.specs.Types.Typ.{TVar}
use Rattle.pure_elab.specs.declared.numbers.Variable.{Variable}
use Rattle.pure_elab.specs.Numbering.{image_of}
use Rattle.pure_elab.specs.Numbers.{entries, entries_from, IsPlaceAmong, IsImageIn}
use Rattle.pure_elab.proofs.NumberedLaws.{empty_list}
use Rattle.pure_elab.proofs.NumbersLaws.{image_here, image_next, image_further}
use Rattle.pure_elab.proofs.numbers.image_in.Goals as goal

pub returns-in_ok-typ-in-Some : goal.returns-in_ok-typ-in-Some
returns-in_ok-typ-in-Some c =
    let image = image_of c.args.numbering in
    let at = subst (λ (l : List Variable). IsPlaceAmong image c.args.first l c.args.name c.args.index c.args.sort (Some c.in-Some.place)) c.as_slice.ensures.value (c.in-Some.ensures image c.args.first) in
    image_here image c.args.first c.args.numbers.now.few.items c.args.numbers.now.many c.args.name c.args.index c.args.sort c.in-Some.place c.in_ok-typ-in-Some.typ at c.in_ok-typ-in-Some.ensures

pub returns-then-binds-eq0 : goal.returns-then-binds-eq0
returns-then-binds-eq0 c =
    let image = image_of c.args.numbering in
    let absent = subst (λ (l : List Variable). IsPlaceAmong image c.args.first l c.args.name c.args.index c.args.sort None) c.as_slice.ensures.value (c.in-None.ensures image c.args.first) in
    image_next image c.args.first c.args.numbers.now.few.items c.next_image.new.few.items c.args.numbers.now.many c.args.name c.args.index c.args.sort c.in_ok-typ-in-None.typ absent
    (sym c.binds.ensures.are ∙ empty_list c.binds.result.now c.if-binds-eq0.true) c.in_ok-typ-in-None.ensures.few c.in_ok-typ-in-None.ensures.image

pub returns-in_ok-typ-in-None-2 : goal.returns-in_ok-typ-in-None-2
returns-in_ok-typ-in-None-2 c =
    let image = image_of c.args.numbering in
    let absent = subst (λ (l : List Variable). IsPlaceAmong image c.args.first l c.args.name c.args.index c.args.sort None) c.as_slice.ensures.value (c.in-None.ensures image c.args.first) in
    let new = c.further_image.new.numbers.many in
    let h = c.in_ok-typ-in-None-2.ensures in
    subst (λ (l : List Variable). IsImageIn image c.args.first (entries image c.args.first c.args.numbers.now) (entries_from image c.args.first l ++ new) (TVar c.args.name c.args.index c.args.sort) c.in_ok-typ-in-None-2.typ) (sym h.few)
    (image_further image c.args.first c.args.numbers.now.few.items c.args.numbers.now.many new c.args.name c.args.index c.args.sort c.in_ok-typ-in-None-2.typ absent h.many h.image h.has)
