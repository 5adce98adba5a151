use Rattle.std.proofs.Common.{◌≡◌, ◌∙◌, ℕ, suc, ◌+◌, ◌-◌, ◌<◌, List, ◌++◌, refl, sym, ap, arith, append_assoc}
use Rattle.pure_rows.specs.Short.{repeated}
use Rattle.pure_rows.proofs.short.push_times.Goals as goal

once_more : (times done : ℕ) (text piece : List ℕ) → done < times
    → (text ++ piece) ++ repeated (times - (done + 1)) piece ≡ text ++ repeated (times - done) piece
once_more times done text piece below =
    let left : times - done ≡ suc (times - (done + 1)) = omega arith in
    rw (left, append_assoc) refl

pub loop-done-preserved : goal.loop-done-preserved
loop-done-preserved c =
    rw c.in_ok-extend_from_slice.ensures.items
    (once_more c.args.times c.loop-done._done c.loop-done.text.items c.args.piece.now c.loop-done-test.true ∙ c.loop-done.invariant)
