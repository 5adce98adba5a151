use Rattle.std.proofs.Common.{take_all}
use Rattle.pure_declare.specs.Commands.{vocabulary}
use Rattle.pure_declare.proofs.LookupSteps.{class-unknown, class-more}
use Rattle.pure_declare.proofs.lookups.found_classes.Goals as goal

pub returns-in_err-class-clause-failed : goal.returns-in_err-class-clause-failed
returns-in_err-class-clause-failed c =
    class-unknown (vocabulary c.args.place.now) c.args.written.now c.loop-text.text-index c.text-item.result c.bytes.result.now c.in_err-class.field-0.0 c.from_residual.result
    c.loop-text-test.true c.text-item.is c.bytes.ensures c.in_err-class.ensures c.from_residual.ensures.1

pub loop-text-preserved : goal.loop-text-preserved
loop-text-preserved c =
    class-more (vocabulary c.args.place.now) c.args.written.now c.loop-text.text-index c.text-item.result c.bytes.result.now c.loop-text.classes.items c.put_class.new.classes.items c.in_ok-class.class
    c.loop-text-test.true c.text-item.is c.bytes.ensures c.loop-text.invariant c.in_ok-class.ensures c.in_ok-put_class.ensures

pub returns-clause-ok : goal.returns-clause-ok
returns-clause-ok c = rw (take_all c.loop-text.text-index c.args.written.now c.loop-text-test.false) at c.loop-text.invariant
