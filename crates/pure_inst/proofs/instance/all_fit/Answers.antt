use Rattle.std.proofs.Common.{take_all}
use Rattle.pure_text.proofs.AnswerLaws.{test_fails, yes_as, no_as}
use Rattle.pure_text.proofs.ListLaws.{each_read}
use Rattle.pure_text.proofs.LoopLaws.{each_turn}
use Rattle.pure_definitions.specs.Terms.Term.{Term, IsWithin}
use Rattle.pure_logic.specs.Laws.Maps.{instantiated}
use Rattle.pure_inst.proofs.instance.all_fit.Goals as goal

pub returns-then-not-fits : goal.returns-then-not-fits
returns-then-not-fits c =
    let fails = test_fails _ c.fits.result c.fits.ensures c.if-not-fits.true in
    no_as _ (λ each. fails (each_read (λ (t : Term). IsWithin (instantiated c.args.typs.now c.args.terms.now t)) c.args.ts.now c.loop-t.t-index c.t-item.result c.loop-t-test.true c.t-item.is each))

pub loop-t-preserved : goal.loop-t-preserved
loop-t-preserved c =
    each_turn (λ (t : Term). IsWithin (instantiated c.args.typs.now c.args.terms.now t)) c.args.ts.now c.loop-t.t-index c.t-item.result c.loop-t-test.true c.t-item.is c.loop-t.invariant (c.fits.ensures.0 c.if-not-fits.false)

pub returns : goal.returns
returns c = yes_as _ (rw (take_all c.loop-t.t-index c.args.ts.now c.loop-t-test.false) at c.loop-t.invariant)
