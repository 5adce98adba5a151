use Rattle.std.proofs.Common.{arith}
use Rattle.pure_typ.specs.NameTexts.{name_texts}
use Rattle.pure_print.proofs.Numerals.{none-past, some-within}
use Rattle.pure_print.proofs.name.number_above.Goals as goal

pub loop-low-init : goal.loop-low-init
loop-low-init c = (omega arith, none-past (name_texts c.args.names.now) c.args.name c.requires, omega arith)

pub loop-low-preserved-in-Some : goal.loop-low-preserved-in-Some
loop-low-preserved-in-Some c =
    let within = some-within (name_texts c.args.names.now) _ _ c.in-Some.ensures in
    let before = c.loop-low.invariant in
    (omega (arith, within), before.1, before.2)

pub loop-low-preserved : goal.loop-low-preserved
loop-low-preserved c =
    let past = none-past (name_texts c.args.names.now) _ c.in-None.ensures in
    let before = c.loop-low.invariant in
    (before.0, past, omega (arith, before.2, c.loop-low-test.true))

pub overflow_sub-result : goal.overflow_sub-result
overflow_sub-result c = let before = c.loop-low.invariant in omega (arith, before.0, before.1, before.2, c.loop-low-test.false)

pub returns : goal.returns
returns c = let before = c.loop-low.invariant in omega (arith, before.0, before.1, before.2, c.loop-low-test.false)
