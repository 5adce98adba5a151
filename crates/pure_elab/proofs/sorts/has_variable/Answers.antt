use Rattle.std.proofs.Common.{◌≡◌, ⊎_elim, refl, arith}
use Rattle.pure_text.proofs.ListLaws.{any_read}
use Rattle.pure_text.proofs.LoopLaws.{any_turn}
use Rattle.pure_elab.proofs.sorts.has_variable.Goals as goal

pub returns-then-entry-name : goal.returns-then-entry-name
returns-then-entry-name c =
    let same : c.entry-item.result.name ≡ c.args.name = grind arith in
    (λ _. any_read (λ e. e.name ≡ c.args.name) c.args.table.now c.loop-entry.entry-index c.entry-item.result c.loop-entry-test.true c.entry-item.is same, λ _. refl)

pub loop-entry-preserved : goal.loop-entry-preserved
loop-entry-preserved c any =
    ⊎_elim (λ before. c.loop-entry.invariant before) (λ same. absurd (grind arith))
    ((any_turn (λ e. e.name ≡ c.args.name) c.args.table.now c.loop-entry.entry-index c.entry-item.result c.loop-entry-test.true c.entry-item.is).0 any)
