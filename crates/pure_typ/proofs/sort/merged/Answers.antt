use Rattle.std.proofs.Common.{◌++◌, ◌≤◌, ◌-◌, take, drop, ap, ◌∙◌, length, inl, inr}
use Rattle.std.specs.Prelude.{◌⊎◌}
use Rattle.std.specs.Ordering.{nat_cmp}
use Rattle.pure_text.proofs.MergeLaws.{merges-all}
use Rattle.pure_typ.proofs.sort.merged.Goals as goal
use Rattle.pure_typ.proofs.sort.merged.Goals.{then-loop-i-test+else-j-right, else-loop-i-test}

pub returns : goal.returns
returns c =
    let end : (length c.args.left.now ≤ c.loop-i.i) ⊎ (length c.args.right.now ≤ c.loop-i.j) =
    elim c.loop-i-test.branch [ then-loop-i-test+else-j-right w ↦ inr w.if-j-right.false | else-loop-i-test w ↦ inl w.loop-i-test.false ] in
    c.in_ok-extend_from_slice-2.ensures.items ∙ (ap (λ zs. zs ++ take (length c.args.right.now - c.loop-i.j) (drop c.loop-i.j c.args.right.now)) c.in_ok-extend_from_slice.ensures.items
    ∙ merges-all nat_cmp c.args.left.now c.args.right.now c.loop-i.i c.loop-i.j c.loop-i.classes.items c.loop-i.invariant end)
