use Rattle.std.proofs.Common.{◌≡◌, ◌∙◌, length, refl, sym, arith}
use Rattle.pure_text.proofs.AnswerLaws.{no_as, yes_as}
use Rattle.pure_definitions.specs.Types.Typ.{Con, typs_of, prop}
use Rattle.pure_typ.specs.TypView.{args_list}
use Rattle.pure_theorem.proofs.ShapeLaws.{prop-count, prop-is}
use Rattle.pure_theorem.proofs.connective.is_prop.Goals as goal

pub returns-then-args-ne0 : goal.returns-then-args-ne0
returns-then-args-ne0 c = no_as (c.args.typ.now ≡ prop) (λ e.
    let con = rw (← c.typ.view_is, c.in-Con.is) at e in
    let none = prop-count c.in-Con.name (args_list c.in-Con.args) con in
    let same : length c.as_slice-args.result.now ≡ 0 = rw c.as_slice-args.ensures none in
    omega arith)

pub returns : goal.returns
returns c =
    let con : c.args.typ.now ≡ Con c.in-Con.name (typs_of (args_list c.in-Con.args)) = rw (← c.typ.view_is, c.in-Con.is) refl in
    yes_as (c.args.typ.now ≡ prop) (prop-is c.args.typ.now c.in-Con.name (args_list c.in-Con.args) c.as_slice-args.result.now con c.as_slice-args.ensures c.if-args-ne0.false c.if-ne.ensures)
