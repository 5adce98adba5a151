-- Shapes, theory by theory.
use Rattle.std.proofs.Common.{◌≡◌, ◌∙◌, ◌<◌, ℕ, zero, suc, ◌+◌, List, [], ◌∷◌, ap, subst, sym, arith, Some, None, slice_get}
use Rattle.std.proofs.lemmas.Option.{same_Some, none-some}
use Rattle.pure_text.specs.Lists.{Each}
use Rattle.pure_machine.specs.State.{parents_at}
use Rattle.pure_machine.specs.Step.{IsShape}
use Rattle.pure_trials.specs.Shape.{AreBelow}

below-at : (n : ℕ) (shape : List (List ℕ)) (k : ℕ) (numbers : List ℕ) → AreBelow n shape → slice_get shape k ≡ Some numbers → Each (λ p. (0 < p) × (p < k + n)) numbers
below-at n [] k numbers h at = absurd (none-some numbers at)
below-at n (ps ∷ shape) zero numbers h at =
    let same : n ≡ 0 + n = omega arith in
    subst (λ m. Each (λ p. (0 < p) × (p < m)) numbers) same (subst (Each (λ p. (0 < p) × (p < n))) (same_Some ps numbers at) h.0)
below-at n (ps ∷ shape) (suc k) numbers h at =
    let same : k + (n + 1) ≡ suc k + n = omega arith in
    subst (λ m. Each (λ p. (0 < p) × (p < m)) numbers) same (below-at (n + 1) shape k numbers h.1 at)

pub shape-below : (shape : List (List ℕ)) → AreBelow 1 shape → IsShape shape
shape-below shape h zero numbers at = absurd (none-some numbers at)
shape-below shape h (suc k) numbers at =
    let same : k + 1 ≡ suc k = omega arith in
    subst (λ m. Each (λ p. (0 < p) × (p < m)) numbers) same (below-at 1 shape k numbers h at)
