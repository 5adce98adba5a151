use Rattle.std.proofs.Common.{◌-◌, arith}
use Rattle.pure_eta.proofs.FitsLaws.{expansion-stops, expansion-too_deep}
use Rattle.pure_eta.proofs.fits.+expansion_fits.Goals as goal

pub returns-in_default-expansion_fits : goal.returns-in_default-expansion_fits
returns-in_default-expansion_fits t c =
    expansion-stops c.args.typ.now c.in-Some.domain.now c.in-Some.range.now c.args.left c.in-Some-typ_fits.binder.left c.args.depth c.in-Some.ensures
    c.in-Some-typ_fits.ensures.0 c.if-binder-lt3.false c.in_default-expansion_fits.ensures

pub returns-then-inside-ge-MAX_DEPTH : goal.returns-then-inside-ge-MAX_DEPTH
returns-then-inside-ge-MAX_DEPTH t c =
    let deep = c.if-inside-ge-MAX_DEPTH.true in
    let is = c.max-inside.ensures in
    expansion-too_deep c.args.typ.now c.in-Some.domain.now c.in-Some.range.now c.args.left (c.in-Some-typ_fits.binder.left - 3) c.args.depth c.in-Some-expansion_fits.arg c.in-Some.ensures
    c.in-Some-expansion_fits.ensures (omega arith)
