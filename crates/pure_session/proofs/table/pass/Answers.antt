use Rattle.std.proofs.Common.{Bool, arith}
use Rattle.std.specs.Global.{Vec}
use Rattle.std.specs.Vec.Iter.{into_iter_items}
use Rattle.pure_session.specs.Places.{IsJoined}
use Rattle.pure_session.proofs.TableLemmas.{goes-none, goes-turn, goes-end, rows-passed}
use Rattle.pure_session.proofs.table.pass.Goals as goal

pub loop-row-init : goal.loop-row-init
loop-row-init c =
    goes-none (λ (r s : Vec Bool). IsJoined c.args.through c.in_ok-other.other.items r.items s.items) c.args.rows.items (into_iter_items c.into_iter-row-iterator.result) c.new-passed.result.items c.new-passed.ensures.items
    c.into_iter-row-iterator.ensures.into_iter_gives.0

pub loop-row-preserved : goal.loop-row-preserved
loop-row-preserved c =
    goes-turn (λ (r s : Vec Bool). IsJoined c.args.through c.in_ok-other.other.items r.items s.items) c.args.rows.items (into_iter_items c.loop-row.row-iterator) (into_iter_items c.next.new.self) c.in-Some.row c.loop-row.passed.items
    c.push.new.self.items c.in_ok-row.row c.in-Some.ensures.steps.0 (rw c.as_slice-in-loop-row.ensures.value at c.in_ok-row.ensures) c.in_ok-push.ensures.items c.loop-row.invariant

pub returns : goal.returns
returns c =
    rows-passed c.args.through c.in_ok-other.other.items c.args.rows.items c.loop-row.passed.items (rw c.as_slice.ensures.value at c.in_ok-other.ensures)
    (goes-end (λ (r s : Vec Bool). IsJoined c.args.through c.in_ok-other.other.items r.items s.items) c.args.rows.items (into_iter_items c.loop-row.row-iterator) c.loop-row.passed.items
    (omega (arith, c.loop-row.row-iterator.rest.ok.0, c.in-None.ensures.steps.0)) c.loop-row.invariant)
