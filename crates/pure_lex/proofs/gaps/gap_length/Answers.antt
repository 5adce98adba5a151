use Rattle.std.proofs.Common.{◌≡◌, true, false, drop, sym, ◌∙◌, arith}
use Rattle.pure_grammar.specs.Tokens.Comment.{opens_comment}
use Rattle.pure_grammar.specs.Tokens.Comment.Gap.{nothing}
use Rattle.pure_lex.specs.Fronts.{IsComment, HasNoComment}
use Rattle.pure_lex.proofs.Passing.{gap-all, gap-blank, gap-comment, gap-other, gap-unclosed, comment-some}
use Rattle.pure_lex.proofs.gaps.gap_length.Goals as goal

pub loop-at-init : goal.loop-at-init
loop-at-init c = (nothing, omega arith)

pub loop-at-preserved-then-is_blank : goal.loop-at-preserved-then-is_blank
loop-at-preserved-then-is_blank c =
    (gap-blank _ _ c.loop-at-test.true c.loop-at.invariant.0 (sym c.is_blank.ensures ∙ c.if-is_blank.true), omega arith)

pub loop-at-preserved : goal.loop-at-preserved
loop-at-preserved c =
    let comment : IsComment (drop c.loop-at.at c.args.text.now) c.in-Some.len = rw c.rest_from-rest.ensures at c.in-Some.ensures in
    (gap-comment _ _ _ c.loop-at.invariant.0 comment, (comment-some _ _ _ c.loop-at.invariant.1 comment).0)

pub loop-at-smaller : goal.loop-at-smaller
loop-at-smaller c =
    let comment : IsComment (drop c.loop-at.at c.args.text.now) c.in-Some.len = rw c.rest_from-rest.ensures at c.in-Some.ensures in
    let some = comment-some _ _ _ c.loop-at.invariant.1 comment in
    omega arith

pub returns-in-None : goal.returns-in-None
returns-in-None c =
    let none : HasNoComment (drop c.loop-at.at c.args.text.now) = rw c.rest_from-rest.ensures at c.in-None.ensures in
    let opens : opens_comment (drop c.loop-at.at c.args.text.now) ≡ true = rw c.rest_from-rest.ensures at (sym c.opens_comment.ensures ∙ c.if-not-opens_comment.false) in
    gap-unclosed c.args.text.now c.loop-at.at c.loop-at.invariant.1 c.loop-at.invariant.0 opens none

pub returns-then-not-opens_comment : goal.returns-then-not-opens_comment
returns-then-not-opens_comment c =
    let none : opens_comment (drop c.loop-at.at c.args.text.now) ≡ false = rw c.rest_from-rest.ensures at (sym c.opens_comment.ensures ∙ c.if-not-opens_comment.true) in
    gap-other c.args.text.now c.loop-at.at c.loop-at-test.true c.loop-at.invariant.0 (sym c.is_blank.ensures ∙ c.if-is_blank.false) none

pub returns : goal.returns
returns c = gap-all c.args.text.now c.loop-at.at c.loop-at.invariant.1 c.loop-at-test.false c.loop-at.invariant.0
