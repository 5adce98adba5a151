use Rattle.std.proofs.Common.{take, take_all}
use Rattle.pure_text.proofs.AnswerLaws.{test_fails}
use Rattle.pure_text.proofs.ListLaws.{each_imply}
use Rattle.pure_text.proofs.LoopLaws.{each_turn}
use Rattle.pure_logic.specs.Laws.Maps.{HasNoneOf}
use Rattle.pure_inst.specs.Named.{Lacks}
use Rattle.pure_inst.specs.Schematic.{generalisation}
use Rattle.pure_inst.proofs.FailingLaws.{first-failing}
use Rattle.pure_inst.proofs.NamedLaws.{lacks-none, none-lacks}
use Rattle.pure_inst.proofs.named.first_with_some.Goals as goal

pub returns-then-not-lacks : goal.returns-then-not-lacks
returns-then-not-lacks c = λ index.
    let fails = test_fails (Lacks c.args.tfrees.now c.args.frees.now c.index-terms-place.result) c.lacks.result c.lacks.ensures c.if-not-lacks.true in
    let before = each_imply (Lacks c.args.tfrees.now c.args.frees.now) (HasNoneOf (generalisation c.args.tfrees.now c.args.frees.now index)) (take c.loop-place.place c.args.terms.now) (lacks-none c.args.tfrees.now c.args.frees.now index) c.loop-place.invariant in
    first-failing (HasNoneOf (generalisation c.args.tfrees.now c.args.frees.now index)) c.args.terms.now c.loop-place.place c.index-terms-place.result c.cut_place.result c.loop-place-test.true c.index-terms-place.is before
    (λ h. fails (none-lacks c.args.tfrees.now c.args.frees.now index c.index-terms-place.result h)) c.cut_place.ensures

pub loop-place-preserved : goal.loop-place-preserved
loop-place-preserved c =
    each_turn (Lacks c.args.tfrees.now c.args.frees.now) c.args.terms.now c.loop-place.place c.index-terms-place.result c.loop-place-test.true c.index-terms-place.is c.loop-place.invariant (c.lacks.ensures.0 c.if-not-lacks.false)

pub returns : goal.returns
returns c = λ index.
    each_imply (Lacks c.args.tfrees.now c.args.frees.now) (HasNoneOf (generalisation c.args.tfrees.now c.args.frees.now index)) c.args.terms.now (lacks-none c.args.tfrees.now c.args.frees.now index)
    (rw (take_all c.loop-place.place c.args.terms.now c.loop-place-test.false) at c.loop-place.invariant)
