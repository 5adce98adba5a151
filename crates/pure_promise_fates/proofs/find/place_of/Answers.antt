use Rattle.std.proofs.Common.{◌≡◌, ◌<◌, ◌+◌, ◌-◌, ◌/◌, ◌∙◌, ℕ, sym, ap, subst, length, map, arith}
use Rattle.pure_theorem.specs.Sets.{label_cmp}
use Rattle.pure_promise_fates.specs.Reach.{IsAt}
use Rattle.pure_promise_fates.proofs.CodeLaws.{at-seen, seen-within, stands-at, after_middle, until_middle}
use Rattle.pure_promise_fates.proofs.find.place_of.Goals as goal

pub loop-low-init : goal.loop-low-init
loop-low-init g c =
    let w = stands-at (map g.E.Reported.entry c.args.entries.now) c.args.label c.requires.stands in
    let within = seen-within g.E.Reported.entry c.args.entries.now w.0 w.1 w.2 in
    (omega arith, w.0, w.1, w.2, w.3, omega arith, omega (arith, within))

pub loop-low-preserved-in-Less : goal.loop-low-preserved-in-Less
loop-low-preserved-in-Less g c =
    let i = c.loop-low.invariant in
    let middle : ℕ = c.loop-low.low + (c.loop-low.high - c.loop-low.low) / 2 in
    let within : middle < length c.args.entries.now = omega (arith, i.0, c.loop-low-test.true) in
    let at = at-seen g.E.Reported.entry c.args.entries.now middle c.index-entries-middle.result within c.index-entries-middle.is in
    let less = ap (λ l. label_cmp l c.args.label) (sym c.label.ensures) ∙ sym c.compare_labels.ensures ∙ c.in-Less.is in
    (i.0, i.1, i.2, i.3, i.4, after_middle (map g.E.Reported.entry c.args.entries.now) c.requires.ascend middle i.1 (g.E.Reported.entry c.index-entries-middle.result) i.2 c.args.label at less i.3 i.4, i.6)

pub loop-low-preserved : goal.loop-low-preserved
loop-low-preserved g c =
    let i = c.loop-low.invariant in
    let middle : ℕ = c.loop-low.low + (c.loop-low.high - c.loop-low.low) / 2 in
    let within : middle < length c.args.entries.now = omega (arith, i.0, c.loop-low-test.true) in
    let at = at-seen g.E.Reported.entry c.args.entries.now middle c.index-entries-middle.result within c.index-entries-middle.is in
    let least = λ (e : label_cmp (g.E.Reported.entry c.index-entries-middle.result).label c.args.label ≡ _). c.in_default.not-Less (c.compare_labels.ensures ∙ ap (λ l. label_cmp l c.args.label) c.label.ensures ∙ e) in
    (omega (arith, within), i.1, i.2, i.3, i.4, i.5, until_middle (map g.E.Reported.entry c.args.entries.now) c.requires.ascend middle i.1 (g.E.Reported.entry c.index-entries-middle.result) i.2 c.args.label at least i.3 i.4)

pub returns-clause-at : goal.returns-clause-at
returns-clause-at g c =
    let i = c.loop-low.invariant in
    (i.2, subst (λ p. IsAt (map g.E.Reported.entry c.args.entries.now) p i.2) (omega (arith, i.5, i.6, c.loop-low-test.false)) i.3, i.4)

pub returns-clause-within : goal.returns-clause-within
returns-clause-within g c =
    let i = c.loop-low.invariant in
    let within = seen-within g.E.Reported.entry c.args.entries.now i.1 i.2 i.3 in
    omega (arith, within, i.5)
