use Rattle.std.proofs.Common.{◌≡◌, ◌-◌, suc, arith}
use Rattle.pure_pattern_rules.proofs.SelectionLaws.{no_left, left_more}
use Rattle.pure_pattern_rules.proofs.applied.+applied_to_left.Goals as goal

pub returns-then-count-eq0 : goal.returns-then-count-eq0
returns-then-count-eq0 t c = no_left c.args.function.value c.args.count c.args.zs.now c.args.ws.now (omega arith)

pub returns : goal.returns
returns t c =
    let next : c.args.count ≡ suc (c.args.count - 1) = omega arith in
    left_more c.args.function.value c.in_ok-more.more.value c.in_ok-done.done.value c.args.count (c.args.count - 1) c.in-Some.z.now c.in-Some.zs.now c.args.ws.now c.args.zs.now c.stands_in.result next
    c.in-Some.ensures.cases.0 c.stands_in.ensures c.in_ok-more.ensures c.in_ok-done.ensures
