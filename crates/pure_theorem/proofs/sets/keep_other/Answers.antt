use Rattle.std.proofs.Common.{◌≡◌, ◌∙◌, [], ◌∷◌, ◌++◌, ap}
use Rattle.pure_text.proofs.AnswerLaws.{test_fails}
use Rattle.pure_definitions.specs.Terms.Term.{Term}
use Rattle.pure_theorem.proofs.SetLaws.{without-same, without-other}
use Rattle.pure_theorem.proofs.sets.keep_other.Goals as goal

pub returns-then-are_same : goal.returns-then-are_same
returns-then-are_same c = without-same c.args.a.now c.args.hyp.now c.args.kept.now.items (c.are_same.ensures.0 c.if-are_same.true)

pub returns : goal.returns
returns c =
    without-other c.args.a.now c.args.hyp.now c.args.kept.now.items c.push.new.self.items (test_fails (c.args.a.now ≡ c.args.hyp.now) c.are_same.result c.are_same.ensures c.if-are_same.false)
    (c.in_ok-push.ensures.items ∙ ap (λ (h : Term). c.args.kept.now.items ++ h ∷ []) c.in_ok-copy.ensures)
