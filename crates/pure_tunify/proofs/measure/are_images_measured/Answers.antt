use Rattle.std.proofs.Common.{subst, arith}
use Rattle.pure_definitions.specs.Terms.Limits.{IsWithinTyp}
use Rattle.pure_definitions.specs.Terms.Subst.{TypBind, typ_instance}
use Rattle.pure_tunify.specs.Settings.{composed}
use Rattle.pure_tunify.specs.Measures.{IsMeasured}
use Rattle.pure_tunify.proofs.MeasureLaws.{turn_beyond, turn_known, turn_within, all_within}
use Rattle.pure_tunify.proofs.measure.are_images_measured.Goals as goal

pub returns-in-None : goal.returns-in-None
returns-in-None c =
    let beyond : ¬ IsWithinTyp (typ_instance (composed c.args.settings.now.sets) c.index-binds-left.result.image) = subst (λ (b : TypBind). ¬ IsWithinTyp (typ_instance (composed c.args.settings.now.sets) b.image)) c.bind.view_is (rw c.in-None.is at c.in_ok-found.ensures) in
    turn_beyond c.args.settings.now c.binds-binds.result.now c.loop-left.left c.index-binds-left.result c.binds-binds.ensures.tidy c.binds-binds.ensures.distinct c.binds-binds.ensures.are c.loop-left-test.true c.loop-left.invariant.short c.index-binds-left.is beyond

pub loop-left-preserved : goal.loop-left-preserved
loop-left-preserved c =
    let found : IsMeasured (typ_instance (composed c.args.settings.now.sets) c.index-binds-left.result.image) c.in-Some.measure = subst (λ (b : TypBind). IsMeasured (typ_instance (composed c.args.settings.now.sets) b.image) c.in-Some.measure) c.bind.view_is (rw c.in-Some.is at c.in_ok-found.ensures) in
    record {
      known = turn_known c.args.settings.now c.binds-binds.result.now c.loop-left.left c.index-binds-left.result c.binds-binds.ensures.tidy c.binds-binds.ensures.distinct c.binds-binds.ensures.are c.loop-left-test.true c.loop-left.invariant.short c.index-binds-left.is c.in-Some.measure c.loop-left.known c.know.new.known found c.in_ok-know-in-Some.ensures c.loop-left.invariant.known;
      within = turn_within c.args.settings.now c.binds-binds.result.now c.loop-left.left c.index-binds-left.result c.binds-binds.ensures.tidy c.binds-binds.ensures.distinct c.binds-binds.ensures.are c.loop-left-test.true c.loop-left.invariant.short c.index-binds-left.is found.within c.loop-left.invariant.within;
      short = (let short = c.loop-left.invariant.short in omega arith);
    }

pub returns : goal.returns
returns c = all_within c.args.settings.now c.loop-left.left c.binds-binds.ensures.tidy c.loop-left-test.false c.loop-left.invariant.within
