use Rattle.std.proofs.Common.{◌∙◌, sym, subst}
use Rattle.pure_pattern_laws.specs.Answers as answers
use Rattle.pure_pattern_laws.specs.Answers.{IsPatternAnswer}
use Rattle.pure_pattern.proofs.AnswerLaws.{solved-answer, halted-answer, given-map}
use Rattle.pure_pattern.proofs.FollowLaws.{given-same}
use Rattle.pure_pattern.proofs.call.unified.Goals as goal

pub returns-in-Err : goal.returns-in-Err
returns-in-Err c = halted-answer c.args.maxidx c.args.pairs.now c.in-Err.fault c.requires.plain c.requires.patterns c.in-Err.ensures

pub make-requires : goal.make-requires
make-requires c =
    given-map c.args.maxidx c.args.pairs.now c.in-Ok.ensures.all c.in_ok-given.given.items c.requires.ready c.requires.plain c.requires.patterns c.in-Ok.ensures.run
    (c.in_ok-given.ensures ∙ given-same c.args.maxidx c.args.pairs.now c.in-Ok.ensures.all c.in-Ok.all.items c.requires.ready.indexes c.in-Ok.ensures.are)

pub returns : goal.returns
returns c =
    subst (λ bs. IsPatternAnswer c.args.maxidx c.args.pairs.now (answers.Unified bs))
    (sym (c.in_ok-map.ensures ∙ (c.in_ok-given.ensures ∙ given-same c.args.maxidx c.args.pairs.now c.in-Ok.ensures.all c.in-Ok.all.items c.requires.ready.indexes c.in-Ok.ensures.are)))
    (solved-answer c.args.maxidx c.args.pairs.now c.in-Ok.ensures.all c.requires.plain c.requires.patterns c.in-Ok.ensures.run)
