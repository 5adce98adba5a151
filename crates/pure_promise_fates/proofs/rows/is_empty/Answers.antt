use Rattle.std.proofs.Common.{◌<◌, ◌∙◌, sym, get_or, arith}
use Rattle.std.specs.Int.Bits.{and_self}
use Rattle.pure_text.proofs.AnswerLaws.{yes_as, no_as}
use Rattle.pure_order_tables.proofs.RowLaws.{common_place, apart_turn, held_within}
use Rattle.pure_promise_fates.proofs.rows.is_empty.Goals as goal

pub returns-then-row-i-ne0 : goal.returns-then-row-i-ne0
returns-then-row-i-ne0 c =
    let fits : get_or c.args.row.now c.loop-i.i 0 < 18446744073709551616 = (c.type_inv.row c.loop-i.i).fits in
    let held = common_place c.args.row.now c.args.row.now c.loop-i.i fits (λ e. c.if-row-i-ne0.true (sym (and_self (get_or c.args.row.now c.loop-i.i 0)) ∙ e)) in
    no_as _ (λ none. none held.0 held.1)

pub loop-i-preserved : goal.loop-i-preserved
loop-i-preserved c = λ place within h. apart_turn c.args.row.now c.args.row.now c.loop-i.i (and_self (get_or c.args.row.now c.loop-i.i 0) ∙ c.if-row-i-ne0.false) (λ p w k m. c.loop-i.invariant p w k) place within h h

pub returns : goal.returns
returns c = yes_as _ (λ place h. c.loop-i.invariant place (let within = held_within c.args.row.now place h in omega (arith, within, c.loop-i-test.false)) h)
