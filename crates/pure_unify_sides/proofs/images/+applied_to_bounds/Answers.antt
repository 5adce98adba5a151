use Rattle.std.proofs.Common.{◌≡◌, ℕ, ◌-◌, suc, ap, sym, ◌∙◌, arith}
use Rattle.pure_definitions.specs.Terms.Term.{Term, Bound, App}
use Rattle.pure_unify_definitions.specs.Fronts.{applied, bounds}
use Rattle.pure_unify_sides.proofs.images.+applied_to_bounds.Goals as goal

one_more : (f more done : Term) (count place : ℕ) → count ≡ suc place → more ≡ App f (Bound place) → done ≡ applied more (bounds place) → done ≡ applied f (bounds count)
one_more f more done count place e m h = h ∙ (ap (λ (u : Term). applied u (bounds place)) m ∙ ap (λ (n : ℕ). applied f (bounds n)) (sym e))

pub returns : goal.returns
returns t c =
    let next : c.args.count ≡ suc (c.args.count - 1) = omega arith in
    one_more c.args.function.value c.in_ok-more.more.value c.in_ok-done.done.value c.args.count (c.args.count - 1) next
    (c.in_ok-more.ensures.ok ∙ (c.app.ensures ∙ ap (App c.args.function.value) c.in_ok-arg.ensures.ok)) c.in_ok-done.ensures
