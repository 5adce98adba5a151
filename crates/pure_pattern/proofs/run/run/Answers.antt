use Rattle.std.proofs.Common.{◌+◌, reverse, arith}
use Rattle.pure_pattern_laws.specs.Steps.{start}
use Rattle.pure_pattern.specs.Held.{seen}
use Rattle.pure_pattern.proofs.FollowLaws.{followed-held, followed-none, followed-behind, followed-out, halted}
use Rattle.pure_pattern.proofs.run.run.Goals as goal

pub loop-done-init : goal.loop-done-init
loop-done-init c = (followed-held c.args.maxidx 0 (start (reverse c.args.pairs.items)) (start (reverse c.args.pairs.items)) c.begin-held.result c.requires.known c.begin-held.ensures, omega arith)

pub returns-in_default : goal.returns-in_default
returns-in_default c =
    followed-none c.args.maxidx c.loop-done.done (start (reverse c.args.pairs.items)) c.loop-done.held c.take_first.new.held c.loop-done.invariant.0 c.in_default.ensures.0 c.in_default.ensures.1

pub step-requires-clause-known : goal.step-requires-clause-known
step-requires-clause-known c =
    (start (reverse c.args.pairs.items), followed-behind c.args.maxidx c.loop-done.done (start (reverse c.args.pairs.items)) c.loop-done.held c.take_first.new.held c.in-Some.first c.loop-done.invariant.0 c.in-Some.ensures)

pub returns-in-Err : goal.returns-in-Err
returns-in-Err c =
    halted c.args.maxidx (c.loop-done.done + 1) (start (reverse c.args.pairs.items)) c.in-Err.fault
    (c.in-Err.ensures (start (reverse c.args.pairs.items)) (followed-behind c.args.maxidx c.loop-done.done (start (reverse c.args.pairs.items)) c.loop-done.held c.take_first.new.held c.in-Some.first c.loop-done.invariant.0 c.in-Some.ensures))

pub loop-done-preserved : goal.loop-done-preserved
loop-done-preserved c = (
  c.in-Ok.ensures (start (reverse c.args.pairs.items)) (followed-behind c.args.maxidx c.loop-done.done (start (reverse c.args.pairs.items)) c.loop-done.held c.take_first.new.held c.in-Some.first c.loop-done.invariant.0 c.in-Some.ensures),
  omega arith,
)

pub returns-in-None : goal.returns-in-None
returns-in-None c =
    followed-none c.args.maxidx c.loop-done.done (start (reverse c.args.pairs.items)) c.loop-done.held c.take_first-2.new.held c.loop-done.invariant.0 c.in-None.ensures.0 c.in-None.ensures.1

pub returns-in-Some-take_first : goal.returns-in-Some-take_first
returns-in-Some-take_first c =
    followed-out c.args.maxidx c.loop-done.done (start (reverse c.args.pairs.items)) c.in-Some-take_first.first (seen c.take_first-2.new.held).pairs c.take_first-2.new.held.binds.items
    (followed-behind c.args.maxidx c.loop-done.done (start (reverse c.args.pairs.items)) c.loop-done.held c.take_first-2.new.held c.in-Some-take_first.first c.loop-done.invariant.0 c.in-Some-take_first.ensures) (omega arith)
