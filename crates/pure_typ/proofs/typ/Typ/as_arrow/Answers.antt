use Rattle.std.proofs.Common.{◌≡◌, length, arith}
use Rattle.pure_definitions.proofs.ArrowLemmas.{arrow-count}
use Rattle.pure_typ.specs.TypView.{args_list}
use Rattle.pure_typ.proofs.typ.Typ.as_arrow.Goals as goal

pub returns-then-args-ne2 : goal.returns-then-args-ne2
returns-then-args-ne2 c = λ U V e.
    let con = rw (← c.self.view_is, c.in-Con.is) at e in
    let two = arrow-count c.in-Con.name (args_list c.in-Con.args) U V con in
    let same : length c.as_slice-args.result.now ≡ 2 = rw c.as_slice-args.ensures two in
    omega arith
