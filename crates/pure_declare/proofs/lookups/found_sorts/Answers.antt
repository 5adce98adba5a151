use Rattle.std.proofs.Common.{take_all}
use Rattle.pure_declare.specs.Commands.{vocabulary}
use Rattle.pure_declare.proofs.LookupSteps.{sort-unknown, sort-more, sorts-all}
use Rattle.pure_declare.proofs.lookups.found_sorts.Goals as goal

pub returns-in_err-sort-clause-failed : goal.returns-in_err-sort-clause-failed
returns-in_err-sort-clause-failed c =
    sort-unknown (vocabulary c.args.place.now) c.args.written.now c.loop-classes.classes-index c.classes-item.result c.as_slice.result.now c.in_err-sort.field-0.0 c.from_residual.result
    c.loop-classes-test.true c.classes-item.is c.as_slice.ensures.value c.in_err-sort.ensures.failed c.from_residual.ensures.1

pub loop-classes-preserved : goal.loop-classes-preserved
loop-classes-preserved c =
    sort-more (vocabulary c.args.place.now) c.args.written.now c.loop-classes.classes-index c.classes-item.result c.as_slice.result.now c.loop-classes.found.items c.put_sort.new.sorts.items c.in_ok-sort.sort
    c.loop-classes-test.true c.classes-item.is c.as_slice.ensures.value c.loop-classes.invariant c.in_ok-sort.ensures.ok c.in_ok-put_sort.ensures

pub returns-clause-ok : goal.returns-clause-ok
returns-clause-ok c =
    sorts-all (vocabulary c.args.place.now) c.args.written.now c.loop-classes.found.items (rw (take_all c.loop-classes.classes-index c.args.written.now c.loop-classes-test.false) at c.loop-classes.invariant)
