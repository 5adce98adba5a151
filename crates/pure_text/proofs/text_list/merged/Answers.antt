use Rattle.std.proofs.Common.{◌++◌, ◌≤◌, drop, sym, ap, ◌∙◌, length, inl, inr, arith}
use Rattle.std.specs.Prelude.{◌⊎◌}
use Rattle.pure_text.proofs.AscendingTexts.{byte_order}
use Rattle.pure_text.proofs.MergeLaws.{merges-left, merges-right, merges-both, merges-end}
use Rattle.pure_text.proofs.text_list.merged.Goals as goal
use Rattle.pure_text.proofs.text_list.merged.Goals.{then-loop-i-test+else-j-len, else-loop-i-test}

pub loop-i-preserved-in-Less : goal.loop-i-preserved-in-Less
loop-i-preserved-in-Less c =
    merges-left byte_order c.args.left.now c.args.right.now c.loop-i.i c.loop-i.j c.loop-i.all c.push.new.self c.at-first.result.now c.at-second.result.now c.loop-i.invariant c.at-first.ensures c.at-second.ensures
    (sym c.cmp.ensures ∙ c.in-Less.is) c.in_ok-push-in-Less.ensures

pub loop-i-preserved-in-Greater : goal.loop-i-preserved-in-Greater
loop-i-preserved-in-Greater c =
    merges-right byte_order c.args.left.now c.args.right.now c.loop-i.i c.loop-i.j c.loop-i.all c.push-in-Greater.new.self c.at-first.result.now c.at-second.result.now c.loop-i.invariant c.at-first.ensures c.at-second.ensures
    (sym c.cmp.ensures ∙ c.in-Greater.is) c.in_ok-push-in-Greater.ensures

pub loop-i-preserved : goal.loop-i-preserved
loop-i-preserved c =
    merges-both byte_order c.args.left.now c.args.right.now c.loop-i.i c.loop-i.j c.loop-i.all c.push-in-Equal.new.self c.at-first.result.now c.at-second.result.now c.loop-i.invariant c.at-first.ensures c.at-second.ensures
    (sym c.cmp.ensures ∙ c.in-Equal.is) c.in_ok-push-in-Equal.ensures

pub returns : goal.returns
returns c =
    let end : (length c.args.left.now ≤ c.loop-i.i) ⊎ (length c.args.right.now ≤ c.loop-i.j) =
    elim c.loop-i-test.branch [ then-loop-i-test+else-j-len w ↦ inr (omega (arith, w.if-j-len.false, w.len-in-loop-i.ensures)) | else-loop-i-test w ↦ inl (omega (arith, w.loop-i-test.false, c.len.ensures)) ] in
    c.in_ok-push_from-2.ensures ∙ ap (λ zs. zs ++ drop c.loop-i.j c.args.right.now) c.in_ok-push_from.ensures
    ∙ merges-end byte_order c.args.left.now c.args.right.now c.loop-i.i c.loop-i.j c.loop-i.all c.loop-i.invariant end
