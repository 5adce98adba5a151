use Rattle.std.proofs.Common.{◌∙◌}
use Rattle.pure_text.proofs.AnswerLaws.{test_fails, yes_as, no_as}
use Rattle.pure_theory.specs.Begin.{contents}
use Rattle.pure_theory.proofs.MergeLaws.{all_parents}
use Rattle.pure_theory.proofs.AgreedLaws.{agreed_once, agreed_first, agreed_turn, turn_named, fits_where_agreed}
use Rattle.pure_theory.proofs.agreed.are_agreed.Goals as goal

pub loop-place-init : goal.loop-place-init
loop-place-init c = agreed_first (contents c.args.parents.now) c.parent_at-first.result.now _ c.parent_at-first.ensures.held c.parent_at-first.ensures.sound (c.in_ok-merged.ensures ∙ c.declared-own.ensures)

pub agrees-requires : goal.agrees-requires
agrees-requires c = agreed_once _ c.loop-place.merged c.loop-place.invariant

pub returns-then-not-agrees : goal.returns-then-not-agrees
returns-then-not-agrees c =
    no_as _ (λ all. test_fails _ c.agrees.result (rw c.declared-more.ensures at c.agrees.ensures) c.if-not-agrees.true (fits_where_agreed (contents c.args.parents.now) c.loop-place.place c.parent_at-parent.result.now c.parent_at-parent.ensures.held c.loop-place.merged c.loop-place.invariant all))

pub with_all-requires-clause-named : goal.with_all-requires-clause-named
with_all-requires-clause-named c =
    rw c.declared-more.ensures (turn_named (contents c.args.parents.now) c.loop-place.place c.parent_at-parent.result.now c.parent_at-parent.ensures.held c.loop-place.merged c.loop-place.invariant c.parent_at-parent.ensures.sound ((rw c.declared-more.ensures at c.agrees.ensures).0 c.if-not-agrees.false))

pub with_all-requires-clause-distinct : goal.with_all-requires-clause-distinct
with_all-requires-clause-distinct c = rw c.declared-more.ensures c.parent_at-parent.ensures.sound.distinct

pub loop-place-preserved : goal.loop-place-preserved
loop-place-preserved c =
    agreed_turn (contents c.args.parents.now) c.loop-place.place c.parent_at-parent.result.now c.parent_at-parent.ensures.held c.loop-place.merged c.loop-place.invariant c.parent_at-parent.ensures.sound ((rw c.declared-more.ensures at c.agrees.ensures).0 c.if-not-agrees.false) _ (rw c.declared-more.ensures at c.in_ok-merged-2.ensures)

pub returns : goal.returns
returns c = yes_as _ (rw (all_parents c.args.parents.now c.loop-place.place c.loop-place-test.false) at c.loop-place.invariant).agreed
