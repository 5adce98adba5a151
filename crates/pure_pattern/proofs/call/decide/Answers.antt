use Rattle.std.proofs.Common.{◌∙◌, [], reverse, ap, sym, subst}
use Rattle.std.proofs.lemmas.List.{reverse-reverse}
use Rattle.pure_text.proofs.AnswerLaws.{test_fails}
use Rattle.pure_pattern_laws.specs.Steps.{Runs, start}
use Rattle.pure_pattern.specs.Followed.{IsFollowed, IsDecided}
use Rattle.pure_pattern.proofs.FollowLaws.{begun}
use Rattle.pure_pattern.proofs.call.decide.Goals as goal

pub returns-then-not-are_within : goal.returns-then-not-are_within
returns-then-not-are_within c = Runs.big (λ w. test_fails _ c.are_within.result c.are_within.ensures c.if-not-are_within.true w.sides)

pub run-requires-clause-known : goal.run-requires-clause-known
run-requires-clause-known c =
    subst (λ ps. IsFollowed c.args.maxidx 0 (start ps) ps []) (sym (ap reverse c.in_ok-stack.ensures ∙ reverse-reverse c.args.pairs.now))
    (begun c.args.maxidx c.args.pairs.now c.requires.ready c.requires.patterns (c.are_within.ensures.0 c.if-not-are_within.false))

pub returns : goal.returns
returns c = subst (λ ps. IsDecided c.args.maxidx (start ps) c.run.result) (ap reverse c.in_ok-stack.ensures ∙ reverse-reverse c.args.pairs.now) c.run.ensures
