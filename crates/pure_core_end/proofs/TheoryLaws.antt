-- Theories of which one goes on.
use Rattle.std.proofs.Common.{◌≡◌, ◌≢◌, ℕ, zero, suc, List, [], ◌∷◌, set, refl, ap, Some, slice_get}
use Rattle.std.proofs.lemmas.Option.{none-some}
use Rattle.pure_machine.specs.State.{Progress, theory_at, with_progress}

set-elsewhere : {A : Type 0} (xs : List A) (k : ℕ) (x : A) (m : ℕ) (y : A) → m ≢ k → slice_get xs m ≡ Some y → slice_get (set xs k x) m ≡ Some y
set-elsewhere [] zero x m y other e = e
set-elsewhere [] (suc k) x m y other e = e
set-elsewhere (z ∷ xs) zero x zero y other e = absurd (other refl)
set-elsewhere (z ∷ xs) zero x (suc m) y other e = e
set-elsewhere (z ∷ xs) (suc k) x zero y other e = e
set-elsewhere (z ∷ xs) (suc k) x (suc m) y other e = set-elsewhere xs k x m y (λ same. other (ap suc same)) e

-- what became of the others stays
pub theory-elsewhere : {C : Type 0} (ts : List (Progress C)) (i : ℕ) (p : Progress C) (j : ℕ) (q : Progress C) → j ≢ i → theory_at ts j ≡ Some q → theory_at (with_progress ts i p) j ≡ Some q
theory-elsewhere ts i p zero q other e = absurd (none-some q e)
theory-elsewhere ts zero p (suc j) q other e = e
theory-elsewhere ts (suc i) p (suc j) q other e = set-elsewhere ts i p j q (λ same. other (ap suc same)) e
