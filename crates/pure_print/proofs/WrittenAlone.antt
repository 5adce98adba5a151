-- A text that was written behind nothing.
use Rattle.std.proofs.Common.{◌≡◌, ℕ, List, [], ◌++◌, ap, ◌∙◌}

-- what was written behind nothing is the whole text
pub written-alone : (text items old a : List ℕ) → text ≡ items → items ≡ old ++ a → old ≡ [] → text ≡ a
written-alone text items old a e1 e2 e3 = e1 ∙ (e2 ∙ ap (λ x. x ++ a) e3)
