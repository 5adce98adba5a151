use Rattle.std.proofs.Common.{ℕ, List, subst, sym, ◌∙◌, ap, arith}
use Rattle.pure_definitions.specs.Types.Typ.{TVar}
use Rattle.pure_definitions.proofs.TypsLemmas.{typ_depth-item}
use Rattle.pure_tunify.specs.Occurrences.{schematics}
use Rattle.pure_elab.specs.Numbered.{numbered}
use Rattle.pure_elab.specs.Numbering.{image_of}
use Rattle.pure_elab.specs.Numbers.{entries, IsImageIn}
use Rattle.pure_elab.proofs.WalkLaws.{numbered-turn}
use Rattle.pure_elab.proofs.ReplacedLaws.{typs_turn, none_added, typ_unchanged, variable_numbered, con_numbered, all_replaced, twice_added, twice_numbered}
use Rattle.pure_elab.proofs.numbered.+number_typ.Goals as goal

pub number_typ-returns-then-index_above_of_typ-eq0-clause-added : goal.number_typ-returns-then-index_above_of_typ-eq0-clause-added
number_typ-returns-then-index_above_of_typ-eq0-clause-added t c =
    none_added (image_of c.args.numbering) c.args.first (entries (image_of c.args.numbering) c.args.first c.args.numbers.now) c.args.t.now (sym c.index_above_of_typ.ensures ∙ c.if-index_above_of_typ-eq0.true)

pub number_typ-returns-then-index_above_of_typ-eq0-clause-typ : goal.number_typ-returns-then-index_above_of_typ-eq0-clause-typ
number_typ-returns-then-index_above_of_typ-eq0-clause-typ t c =
    typ_unchanged (image_of c.args.numbering) c.args.first (entries (image_of c.args.numbering) c.args.first c.args.numbers.now) c.args.t.now c.in_ok-same.same c.in_ok-same.ensures (sym c.index_above_of_typ.ensures ∙ c.if-index_above_of_typ-eq0.true)

pub number_typ-returns-in_ok-image-in-TVar-clause-typ : goal.number_typ-returns-in_ok-image-in-TVar-clause-typ
number_typ-returns-in_ok-image-in-TVar-clause-typ t c =
    let image = image_of c.args.numbering in
    let old = entries image c.args.first c.args.numbers.now in
    let new = entries image c.args.first c.image_in.new.numbers in
    let found = subst (λ (s : List ℕ). IsImageIn image c.args.first old new (TVar c.in-TVar.name c.in-TVar.index s) c.in_ok-image-in-TVar.image) c.in_ok-own-in-TVar.ensures c.in_ok-image-in-TVar.ensures in
    rw (← c.t.view_is, c.in-TVar.is) (variable_numbered image c.args.first old new c.in-TVar.name c.in-TVar.index c.in-TVar.sort c.in_ok-image-in-TVar.image found)

pub number_typ-returns-in_ok-typ-in-Con-clause-typ : goal.number_typ-returns-in_ok-typ-in-Con-clause-typ
number_typ-returns-in_ok-typ-in-Con-clause-typ t c =
    let image = image_of c.args.numbering in
    let new = entries image c.args.first c.number_typs.new.numbers in
    rw (← c.t.view_is, c.in-Con.is, ← c.as_slice-args.ensures)
    (con_numbered image c.args.first new c.in-Con.name c.as_slice-args.result.now c.in_ok-images-in-Con.images.items c.in_ok-typ-in-Con.typ c.in_ok-images-in-Con.ensures.typs c.in_ok-typ-in-Con.ensures)

pub number_typs-number_typ-requires : goal.number_typs-number_typ-requires
number_typs-number_typ-requires t c =
    let inside = typ_depth-item c.args.types.now c.loop-typ.typ-index c.typ-item.result c.loop-typ-test.true c.typ-item.is in
    (omega (arith, inside), tt)

pub number_typs-loop-typ-preserved : goal.number_typs-loop-typ-preserved
number_typs-loop-typ-preserved t c =
    let image = image_of c.args.numbering in
    let now = entries image c.args.first c.loop-typ.numbers in
    let next = entries image c.args.first c.number_typ.new.numbers in (
      c.in_ok-image.ensures.added
          ∙ ap (λ b. numbered image c.args.first b (schematics c.typ-item.result)) c.loop-typ.invariant.0
          ∙ sym (numbered-turn image c.args.first (entries image c.args.first c.args.numbers.now) c.args.types.now c.loop-typ.typ-index c.typ-item.result c.loop-typ-test.true c.typ-item.is),
      typs_turn image c.args.first now next c.args.types.now c.loop-typ.images.items c.push.new.self.items c.loop-typ.typ-index c.typ-item.result c.in_ok-image.image c.loop-typ-test.true c.typ-item.is c.loop-typ.invariant.1
          c.in_ok-push.ensures.items c.in_ok-image.ensures.added c.in_ok-image.ensures.typ,
    )

pub number_typs-returns-clause-typs : goal.number_typs-returns-clause-typs
number_typs-returns-clause-typs t c =
    all_replaced (image_of c.args.numbering) c.args.first (entries (image_of c.args.numbering) c.args.first c.loop-typ.numbers) c.args.types.now c.loop-typ.images.items c.loop-typ.typ-index c.loop-typ-test.false c.loop-typ.invariant.1

pub number_twice-returns-clause-added : goal.number_twice-returns-clause-added
number_twice-returns-clause-added t c =
    let image = image_of c.args.numbering in
    twice_added image c.args.first (entries image c.args.first c.args.numbers.now) (entries image c.args.first c.number_typ.new.numbers) c.args.name c.args.part.now c.in_ok-image.ensures.added

pub number_twice-returns-clause-typ : goal.number_twice-returns-clause-typ
number_twice-returns-clause-typ t c =
    let image = image_of c.args.numbering in
    twice_numbered image c.args.first (entries image c.args.first c.number_typ.new.numbers) c.args.name c.args.part.now c.in_ok-image.image c.in_ok-typ.typ c.in_ok-image.ensures.typ c.in_ok-typ.ensures
