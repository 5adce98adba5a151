use Rattle.std.proofs.Common.{take_all}
use Rattle.pure_text.proofs.AnswerLaws.{test_fails, yes_as, no_as}
use Rattle.pure_text.proofs.ListLaws.{each_read}
use Rattle.pure_text.proofs.LoopLaws.{each_turn}
use Rattle.pure_logic.specs.Derivable.{Pair}
use Rattle.pure_logic.specs.Laws.Maps.{instantiated}
use Rattle.pure_theorem.specs.Within.{IsPairWithin}
use Rattle.pure_inst.specs.Image.{pair_image}
use Rattle.pure_inst.proofs.instance.all_pairs_fit.Goals as goal

pub returns-then-not-pair_fits : goal.returns-then-not-pair_fits
returns-then-not-pair_fits c =
    let fails = test_fails _ c.pair_fits.result c.pair_fits.ensures c.if-not-pair_fits.true in
    no_as _ (λ each. fails (each_read (λ (p : Pair). IsPairWithin (pair_image (instantiated c.args.typs.now c.args.terms.now) p)) c.args.pairs.now c.loop-pair.pair-index c.pair-item.result c.loop-pair-test.true c.pair-item.is each))

pub loop-pair-preserved : goal.loop-pair-preserved
loop-pair-preserved c =
    each_turn (λ (p : Pair). IsPairWithin (pair_image (instantiated c.args.typs.now c.args.terms.now) p)) c.args.pairs.now c.loop-pair.pair-index c.pair-item.result c.loop-pair-test.true c.pair-item.is c.loop-pair.invariant
    (c.pair_fits.ensures.0 c.if-not-pair_fits.false)

pub returns : goal.returns
returns c = yes_as _ (rw (take_all c.loop-pair.pair-index c.args.pairs.now c.loop-pair-test.false) at c.loop-pair.invariant)
