use Rattle.std.proofs.Common.{◌≢◌, length}
use Rattle.pure_definitions.specs.Types.Typ.{Con, typs_of}
use Rattle.pure_definitions.specs.Terms.Typing.{Takes}
use Rattle.pure_definitions.proofs.ArrowLemmas.{takes-count, takes-range}
use Rattle.pure_term.proofs.typing.lent_range.Goals as goal

pub returns-then-args-ne2 : goal.returns-then-args-ne2
returns-then-args-ne2 c =
    let other : length c.as_slice-args.result.now ≢ 2 = λ n. c.if-args-ne2.true (cc) in
    let taken : Takes c.args.function.now c.args.argument.now = c.takes.ensures.0 c.if-not-takes.false in
    let known : Takes (Con c.in-Con.name (typs_of c.as_slice-args.result.now)) c.args.argument.now = rw (← c.function.view_is, c.in-Con.is, ← c.as_slice-args.ensures) at taken in
    absurd (takes-count c.in-Con.name c.as_slice-args.result.now c.args.argument.now other known)

pub returns-else-args-ne2 : goal.returns-else-args-ne2
returns-else-args-ne2 c =
    let taken : Takes c.args.function.now c.args.argument.now = c.takes.ensures.0 c.if-not-takes.false in
    let known : Takes (Con c.in-Con.name (typs_of c.as_slice-args.result.now)) c.args.argument.now = rw (← c.function.view_is, c.in-Con.is, ← c.as_slice-args.ensures) at taken in
    rw (← c.function.view_is, c.in-Con.is, ← c.as_slice-args.ensures) (takes-range c.in-Con.name c.as_slice-args.result.now c.args.argument.now c.index-args-1.result known c.index-args-1.is)
