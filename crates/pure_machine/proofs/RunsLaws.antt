-- Whether a theory runs, by the parts.
use Rattle.std.proofs.Common.{◌≡◌, ℕ, List, subst, Bool, Some}
use Rattle.std.specs.Prelude.{MatchBool}
use Rattle.pure_text.specs.Lists.{Each}
use Rattle.pure_machine.specs.State.{Progress, Running, theory_at}
use Rattle.pure_machine.specs.Step.{IsReadyIn, IsClosed}
use Rattle.pure_machine.specs.Parts.{Stages}

pub runs-shown : {C : Type 0} (b : Bool) (s : Stages C) (a a' : List (List ℕ)) (ts ts' : List (Progress C)) → a' ≡ a → ts' ≡ ts → ◌≡◌ {A = Stages C} (record { shape = a; progress = ts }) s
    → MatchBool b ((i : ℕ) × (k : ℕ) × (theory_at ts' i ≡ Some (Running k))) (((i : ℕ) (cs : List C) → ¬ IsReadyIn a' ts' i cs) → Each IsClosed ts')
    → MatchBool b ((i : ℕ) × (k : ℕ) × (theory_at s.progress i ≡ Some (Running k))) (((i : ℕ) (cs : List C) → ¬ IsReadyIn s.shape s.progress i cs) → Each IsClosed s.progress)
runs-shown {C} b s a a' ts ts' e f view h =
    let one = subst (λ x. MatchBool b ((i : ℕ) × (k : ℕ) × (theory_at ts' i ≡ Some (Running k))) (((i : ℕ) (cs : List C) → ¬ IsReadyIn x ts' i cs) → Each IsClosed ts')) e h in
    let two = subst (λ y. MatchBool b ((i : ℕ) × (k : ℕ) × (theory_at y i ≡ Some (Running k))) (((i : ℕ) (cs : List C) → ¬ IsReadyIn a y i cs) → Each IsClosed y)) f one in
    subst (λ z. MatchBool b ((i : ℕ) × (k : ℕ) × (theory_at z.progress i ≡ Some (Running k))) (((i : ℕ) (cs : List C) → ¬ IsReadyIn z.shape z.progress i cs) → Each IsClosed z.progress)) view two
