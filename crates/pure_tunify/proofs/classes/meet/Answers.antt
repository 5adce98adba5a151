use Rattle.std.proofs.Common.{length, ap, arith}
use Rattle.pure_tunify.proofs.GraphClassLaws.{made_longer, made_met}
use Rattle.pure_tunify.proofs.classes.meet.Goals as goal

pub returns-then-kids-others : goal.returns-then-kids-others
returns-then-kids-others c =
    let left = ap length c.as_slice-kids.ensures.value in
    let right = ap length c.as_slice-others.ensures.value in
    rw (c.in-Made-Made.is-0, c.in-Made-Made.is-1)
    (made_longer c.args.work.now.items c.args.work.now.items c.in-Made-Made.name c.in-Made-Made.other c.in-Made-Made.kids.items c.in-Made-Made.others.items (λ e. omega (arith, c.if-kids-others.true, left, right, e)))

pub returns-in_ok-couple_each-in-Made-Made : goal.returns-in_ok-couple_each-in-Made-Made
returns-in_ok-couple_each-in-Made-Made c =
    rw (c.in-Made-Made.is-0, c.in-Made-Made.is-1)
    (made_met c.args.work.now.items c.couple_each.new.work.items c.in-Made-Made.name c.in-Made-Made.other c.in-Made-Made.kids.items c.in-Made-Made.others.items
    (λ v each same. c.in_ok-couple_each-in-Made-Made.ensures v each (rw (c.as_slice-kids.ensures.value, c.as_slice-others.ensures.value) same)))
