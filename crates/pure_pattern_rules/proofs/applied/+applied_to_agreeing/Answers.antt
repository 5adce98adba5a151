use Rattle.std.proofs.Common.{◌≡◌, ◌-◌, suc, refl, arith}
use Rattle.pure_pattern_rules.proofs.SelectionLaws.{no_agreeing, agreeing_more}
use Rattle.pure_pattern_rules.proofs.applied.+applied_to_agreeing.Goals as goal

pub returns-then-count-eq0 : goal.returns-then-count-eq0
returns-then-count-eq0 t c = no_agreeing c.args.function.value c.args.count c.args.zs.now c.args.ws.now (omega arith)

pub returns : goal.returns
returns t c =
    let next : c.args.count ≡ suc (c.args.count - 1) = omega arith in
    agreeing_more c.args.function.value c.in_ok-more.more.value c.in_ok-done.done.value c.args.count (c.args.count - 1) c.in-Some.z.now c.in-Some-split_first.w.now c.in-Some.zs.now c.in-Some-split_first.ws.now c.args.zs.now c.args.ws.now _ next
    c.in-Some.ensures.cases.0 c.in-Some-split_first.ensures.cases.0 refl c.in_ok-more.ensures c.in_ok-done.ensures
