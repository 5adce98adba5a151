use Rattle.std.proofs.Common.{◌≡◌, ◌+◌, length, drop, refl, sym, ◌∙◌}
use Rattle.std.specs.Prelude.{slice_range}
use Rattle.std.proofs.lemmas.Bool.{eqb-true}
use Rattle.pure_grammar.specs.Tokens.Spelling.{IsFault}
use Rattle.pure_grammar.proofs.Slices.{tokens_are_slices}
use Rattle.pure_lex.specs.Fronts.{IsGap, IsTaken}
use Rattle.pure_lex.proofs.Steps.{progress-end, progress-fault, progress-push, range_ends}
use Rattle.pure_lex.proofs.reading.tokens.Goals as goal

pub loop-text-preserved : goal.loop-text-preserved
loop-text-preserved c =
    let gap : IsGap (drop c.loop-text.at (slice_range c.args.source.now c.args.from c.args.to)) c.gap_length-at.result = rw c.rest_from.ensures at c.gap_length-at.ensures in
    let taken : IsTaken (drop (c.loop-text.at + c.gap_length-at.result) (slice_range c.args.source.now c.args.from c.args.to)) c.in-Ok.first.kind c.in-Ok.first.len = rw c.rest_from-rest.ensures at c.in-Ok.ensures in
    rw c.in_ok-push-in-Ok.ensures.items (progress-push c.args.to c.args.from (slice_range c.args.source.now c.args.from c.args.to) _ _ _ _ _
    (range_ends c.args.source.now c.args.from c.args.to c.requires.order c.requires.within) c.loop-text.invariant gap taken refl refl)

pub returns-then-is_empty-clause-ok : goal.returns-then-is_empty-clause-ok
returns-then-is_empty-clause-ok c =
    let gap : IsGap (drop c.loop-text.at (slice_range c.args.source.now c.args.from c.args.to)) c.gap_length-at.result = rw c.rest_from.ensures at c.gap_length-at.ensures in
    let none : length (drop (c.loop-text.at + c.gap_length-at.result) (slice_range c.args.source.now c.args.from c.args.to)) ≡ 0 =
    rw c.rest_from-rest.ensures at (eqb-true (length c.rest_from-rest.result.now) 0 (sym c.is_empty.ensures ∙ c.if-is_empty.true)) in
    progress-end c.args.to (slice_range c.args.source.now c.args.from c.args.to) _ _ _ c.loop-text.invariant gap none

pub returns-then-is_empty-clause-slices : goal.returns-then-is_empty-clause-slices
returns-then-is_empty-clause-slices c =
    tokens_are_slices c.args.from c.args.to c.args.source.now _ c.requires.order c.requires.within (returns-then-is_empty-clause-ok c)

pub returns-in-Err-clause-fault : goal.returns-in-Err-clause-fault
returns-in-Err-clause-fault c =
    let gap : IsGap (drop c.loop-text.at (slice_range c.args.source.now c.args.from c.args.to)) c.gap_length-at.result = rw c.rest_from.ensures at c.gap_length-at.ensures in
    let fault : IsFault (drop (c.loop-text.at + c.gap_length-at.result) (slice_range c.args.source.now c.args.from c.args.to)) c.in-Err.skipped = rw c.rest_from-rest.ensures at c.in-Err.ensures in
    progress-fault c.args.to c.args.from (slice_range c.args.source.now c.args.from c.args.to) _ _ _ _
    (range_ends c.args.source.now c.args.from c.args.to c.requires.order c.requires.within) c.loop-text.invariant gap fault
