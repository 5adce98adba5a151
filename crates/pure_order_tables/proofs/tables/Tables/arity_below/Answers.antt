use Rattle.std.proofs.Common.{◌<◌, length, arith}
use Rattle.pure_definitions.specs.Types.Order.{IsSortBelow}
use Rattle.pure_text.proofs.AnswerLaws.{no_as, yes_as, test_fails}
use Rattle.pure_text.proofs.ListLaws.{two_long, two_read}
use Rattle.pure_text.proofs.LoopLaws.{two_full, two_turn}
use Rattle.pure_order_tables.specs.ArityView.{arity_of}
use Rattle.pure_order_tables.proofs.KeptLaws.{kept_read}
use Rattle.pure_order_tables.proofs.tables.Tables.arity_below.Goals as goal

pub returns-then-firsts-seconds : goal.returns-then-firsts-seconds
returns-then-firsts-seconds c = no_as _ (λ h. c.if-firsts-seconds.true (rw (c.sorts-firsts.ensures, c.sorts-seconds.ensures) (two_long (IsSortBelow c.args.self.now) (arity_of c.args.first.now).domains (arity_of c.args.second.now).domains h)))

pub kept_below-requires-clause-first : goal.kept_below-requires-clause-first
kept_below-requires-clause-first c = kept_read c.args.self.now.classes (arity_of c.args.first.now).domains c.sorts-firsts.result.now c.args.first.now.rows c.loop-i.i c.index-firsts-i.result c.row.result.now c.sorts-firsts.ensures c.loop-i-test.true c.index-firsts-i.is c.row.ensures c.requires.first

pub kept_below-requires-clause-second : goal.kept_below-requires-clause-second
kept_below-requires-clause-second c =
    let within : c.loop-i.i < length c.sorts-seconds.result.now = omega (arith, c.loop-i-test.true, c.if-firsts-seconds.false) in
    kept_read c.args.self.now.classes (arity_of c.args.second.now).domains c.sorts-seconds.result.now c.args.second.now.rows c.loop-i.i c.index-seconds-i.result c.row-in-loop-i.result.now c.sorts-seconds.ensures within c.index-seconds-i.is c.row-in-loop-i.ensures c.requires.second

pub returns-then-not-kept_below : goal.returns-then-not-kept_below
returns-then-not-kept_below c = no_as _ (λ h. test_fails _ c.kept_below.result c.kept_below.ensures c.if-not-kept_below.true (two_read (IsSortBelow c.args.self.now) c.sorts-firsts.result.now c.sorts-seconds.result.now c.loop-i.i c.index-firsts-i.result c.index-seconds-i.result c.loop-i-test.true c.index-firsts-i.is c.index-seconds-i.is (rw (c.sorts-firsts.ensures, c.sorts-seconds.ensures) h)))

pub loop-i-preserved : goal.loop-i-preserved
loop-i-preserved c = two_turn (IsSortBelow c.args.self.now) c.sorts-firsts.result.now c.sorts-seconds.result.now c.loop-i.i c.index-firsts-i.result c.index-seconds-i.result c.if-firsts-seconds.false c.loop-i-test.true c.index-firsts-i.is c.index-seconds-i.is c.loop-i.invariant (c.kept_below.ensures.0 c.if-not-kept_below.false)

pub returns : goal.returns
returns c =
    let full = two_full (IsSortBelow c.args.self.now) c.sorts-firsts.result.now c.sorts-seconds.result.now c.loop-i.i c.if-firsts-seconds.false c.loop-i-test.false c.loop-i.invariant in
    yes_as _ (rw (c.sorts-firsts.ensures, c.sorts-seconds.ensures) at full)
