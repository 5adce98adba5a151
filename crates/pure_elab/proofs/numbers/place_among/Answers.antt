use Rattle.std.proofs.Common.{◌<◌, ◌≤◌, length, sym, ◌∙◌, arith}
use Rattle.pure_definitions.specs.Types.Typ.{TVar}
use Rattle.pure_elab.proofs.NumbersLaws.{rest_first, rest_next, rest_here, rest_none}
use Rattle.pure_elab.proofs.numbers.place_among.Goals as goal

pub loop-i-init : goal.loop-i-init
loop-i-init c image first = rest_first image first c.args.few.now (TVar c.args.name c.args.index c.args.sort.now)

pub loop-i-preserved : goal.loop-i-preserved
loop-i-preserved c image first =
    let within : c.loop-i.i < length c.args.few.now = omega (arith, c.loop-i-test.true, c.loop-i.auto.i-end) in
    rest_next image first c.args.few.now (TVar c.args.name c.args.index c.args.sort.now) c.loop-i.i c.index-few-i.result within c.index-few-i.is (sym c.is_variable.ensures ∙ c.if-is_variable.false) (c.loop-i.invariant image first)

pub returns-then-is_variable : goal.returns-then-is_variable
returns-then-is_variable c image first =
    let within : c.loop-i.i < length c.args.few.now = omega (arith, c.loop-i-test.true, c.loop-i.auto.i-end) in
    rest_here image first c.args.few.now c.args.name c.args.index c.args.sort.now c.loop-i.i c.index-few-i.result within c.index-few-i.is (sym c.is_variable.ensures ∙ c.if-is_variable.true) (c.loop-i.invariant image first)

pub returns : goal.returns
returns c image first =
    let full : length c.args.few.now ≤ c.loop-i.i = omega (arith, c.loop-i-test.false, c.loop-i.auto.i-end) in
    rest_none image first c.args.few.now c.args.name c.args.index c.args.sort.now c.loop-i.i full (c.loop-i.invariant image first)
