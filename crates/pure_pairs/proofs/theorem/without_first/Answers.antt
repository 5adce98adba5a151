use Rattle.std.proofs.Common.{◌≡◌, ◌≢◌, ◌∷◌, ap, sym, ◌∙◌}
use Rattle.pure_text.proofs.AnswerLaws.{test_fails}
use Rattle.pure_logic.specs.Derivable.{Pair, Theorem}
use Rattle.pure_pairs.proofs.SmashLaws.{trivial-treated, constants-treated}
use Rattle.pure_pairs.proofs.theorem.without_first.Goals as goal

pub returns-then-are_same : goal.returns-then-are_same
returns-then-are_same c =
    let stands : c.args.th.now.pairs ≡ c.in-Some.first.now ∷ c.in-Some.rest.now = ap (λ (th : Theorem). th.pairs) (sym c.th.view_is) ∙ (sym c.as_slice.ensures.value ∙ c.in-Some.ensures.cases.0) in
    let equal : c.in-Some.first.now.left ≡ c.in-Some.first.now.right = ap (λ (p : Pair). p.left) (sym c.first.view_is) ∙ (c.are_same.ensures.0 c.if-are_same.true ∙ ap (λ (p : Pair). p.right) c.first.view_is) in
    trivial-treated c.args.th.now c.in-Some.first.now c.in-Some.rest.now stands equal c.under_pairs.result c.under_pairs.ensures

pub returns : goal.returns
returns c =
    let stands : c.args.th.now.pairs ≡ c.in-Some.first.now ∷ c.in-Some.rest.now = ap (λ (th : Theorem). th.pairs) (sym c.th.view_is) ∙ (sym c.as_slice.ensures.value ∙ c.in-Some.ensures.cases.0) in
    let own = test_fails _ c.are_same.result c.are_same.ensures c.if-are_same.false in
    let differ : c.in-Some.first.now.left ≢ c.in-Some.first.now.right = λ e. own (ap (λ (p : Pair). p.left) c.first.view_is ∙ (e ∙ ap (λ (p : Pair). p.right) (sym c.first.view_is))) in
    constants-treated c.args.th.now c.in-Some.first.now c.in-Some.rest.now c.in_ok-c.c stands differ c.in_ok-c.ensures c.theorem_with.result c.theorem_with.ensures
