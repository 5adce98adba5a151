use Rattle.std.proofs.Common.{◌≡◌, arith}
use Rattle.pure_definitions.specs.Terms.Subst.{typ_instance}
use Rattle.pure_definitions.specs.Terms.Limits.{IsWithinTyp}
use Rattle.pure_tunify.specs.Settings.{composed}
use Rattle.pure_tunify.proofs.WritingLaws.{turn_beyond, turn_absent, turn_tidy, turn_written, all_written}
use Rattle.pure_tunify.proofs.resolve.written_settings.Goals as goal

pub returns-in-None : goal.returns-in-None
returns-in-None c =
    let beyond : ¬ IsWithinTyp (typ_instance (composed c.loop-left.done.sets) c.index-binds-left.result.image) = rw c.in-None.is at c.in_ok-found.ensures in
    turn_beyond c.args.settings.now c.loop-left.done c.binds-binds.result.now c.loop-left.left c.index-binds-left.result c.binds-binds.ensures.tidy c.binds-binds.ensures.distinct c.binds-binds.ensures.are c.loop-left-test.true
    c.loop-left.invariant.short c.index-binds-left.is c.loop-left.invariant.out beyond

pub put-requires-clause-absent : goal.put-requires-clause-absent
put-requires-clause-absent c =
    let found : (c.in-Some.entry ≡ record c.index-binds-left.result { image = typ_instance (composed c.loop-left.done.sets) c.index-binds-left.result.image }) × IsWithinTyp (typ_instance (composed c.loop-left.done.sets) c.index-binds-left.result.image) =
    rw c.in-Some.is at c.in_ok-found.ensures in
    turn_absent c.args.settings.now c.loop-left.done c.binds-binds.result.now c.loop-left.left c.index-binds-left.result c.binds-binds.ensures.tidy c.binds-binds.ensures.distinct c.binds-binds.ensures.are c.loop-left-test.true
    c.loop-left.invariant.short c.index-binds-left.is c.loop-left.invariant.out c.in-Some.entry found

pub put-requires-clause-tidy : goal.put-requires-clause-tidy
put-requires-clause-tidy c =
    let found : (c.in-Some.entry ≡ record c.index-binds-left.result { image = typ_instance (composed c.loop-left.done.sets) c.index-binds-left.result.image }) × IsWithinTyp (typ_instance (composed c.loop-left.done.sets) c.index-binds-left.result.image) =
    rw c.in-Some.is at c.in_ok-found.ensures in
    turn_tidy c.args.settings.now c.loop-left.done c.binds-binds.result.now c.loop-left.left c.index-binds-left.result c.binds-binds.ensures.tidy c.binds-binds.ensures.distinct c.binds-binds.ensures.are c.loop-left-test.true
    c.loop-left.invariant.short c.index-binds-left.is c.loop-left.invariant.out c.in-Some.entry found c.next-next.result c.next-next.ensures.value

pub loop-left-preserved : goal.loop-left-preserved
loop-left-preserved c =
    let found : (c.in-Some.entry ≡ record c.index-binds-left.result { image = typ_instance (composed c.loop-left.done.sets) c.index-binds-left.result.image }) × IsWithinTyp (typ_instance (composed c.loop-left.done.sets) c.index-binds-left.result.image) =
    rw c.in-Some.is at c.in_ok-found.ensures in
    record {
      out = turn_written c.args.settings.now c.loop-left.done c.binds-binds.result.now c.loop-left.left c.index-binds-left.result c.binds-binds.ensures.tidy c.binds-binds.ensures.distinct c.binds-binds.ensures.are c.loop-left-test.true
          c.loop-left.invariant.short c.index-binds-left.is c.loop-left.invariant.out c.in-Some.entry found c.put.new.self c.next-next.result c.next-next.ensures.value c.in_ok-put-in-Some.ensures;
      short = (let short = c.loop-left.invariant.short in omega arith);
    }

pub returns : goal.returns
returns c = all_written c.args.settings.now c.loop-left.done c.loop-left.left c.loop-left-test.false c.loop-left.invariant.out
