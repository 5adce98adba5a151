use Rattle.std.proofs.Common.{◌∙◌, take, take_all, ◌∷◌, [], refl}
use Rattle.pure_text.proofs.ListLaws.{each-append}
use Rattle.pure_order_tables.specs.Kept.{IsKeptEntry}
use Rattle.pure_order_tables.proofs.CoregularLaws.{one_more_arity}
use Rattle.pure_order_tables.proofs.ArityTableLaws.{more_shared}
use Rattle.pure_order_tables.proofs.tables.Tables.all_kept.Goals as goal

pub loop-i-init : goal.loop-i-init
loop-i-init c = rw c.empty-all.ensures (record { same = refl; kept = tt })

pub loop-i-preserved : goal.loop-i-preserved
loop-i-preserved c =
    let longer = rw c.in_ok-kept-2.ensures.ok at c.in_ok-push.ensures.ok in
    record {
      same = more_shared (take c.loop-i.i c.arities-arities.result.now) _ c.loop-i.all c.push.new.self c.get-arity.result.now c.in_ok-kept.kept longer c.in_ok-kept.ensures.same
          (one_more_arity c.arities-arities.result.now c.loop-i.i c.get-arity.result.now (rw c.len-i-end.ensures at c.loop-i-test.true) c.get-arity.ensures) c.loop-i.invariant.same;
      kept = rw longer (each-append (IsKeptEntry c.args.self.now.classes) c.loop-i.all (c.in_ok-kept.kept ∷ []) c.loop-i.invariant.kept (c.in_ok-kept.ensures.kept, tt));
    }

pub returns : goal.returns
returns c = record {
  are = rw (take_all c.loop-i.i c.arities-arities.result.now (rw c.len-i-end.ensures at c.loop-i-test.false)) at c.loop-i.invariant.same ∙ c.arities-arities.ensures.are;
  kept = c.loop-i.invariant.kept;
}
