-- How many groups are cancelled, after each change.
use Rattle.std.proofs.Common.{◌≡◌, ◌+◌, ◌-◌, ℕ, zero, suc, List, [], ◌∷◌, map, set, subst, refl, sym, Bool, true, false, cond, slice_get, arith}
use Rattle.std.specs.Prelude.{count_by}
use Rattle.std.proofs.lemmas.Bool.{false≢true}
use Rattle.std.proofs.lemmas.List.Sums.{sum_by-cons}
use Rattle.pure_machine.specs.Parts.{is_false_there, is_unmarked}

-- of the theories that a list marks
abbrev pub count : List Bool → ℕ
count bs = count_by (λ mark. mark) bs

count-cons : (b : Bool) (bs : List Bool) → count (b ∷ bs) ≡ cond b 1 0 + count bs
count-cons b bs = sum_by-cons (λ mark. cond mark 1 0) b bs

-- where none is
pub count-unmarked : {A : Type 0} (xs : List A) → count (map (λ _. false) xs) ≡ 0
count-unmarked [] = refl
count-unmarked (x ∷ xs) = let a = count-cons false (map (λ _. false) xs) in let h = count-unmarked xs in omega arith

-- one more
count-marked : (bs : List Bool) (i : ℕ) → is_false_there (slice_get bs i) ≡ true → count (set bs i true) ≡ count bs + 1
count-marked [] zero e = absurd (false≢true e)
count-marked [] (suc i) e = absurd (false≢true e)
count-marked (true ∷ bs) zero e = absurd (false≢true e)
count-marked (false ∷ bs) zero e = let a = count-cons true bs in let b = count-cons false bs in omega arith
count-marked (b ∷ bs) (suc i) e = let a = count-cons b (set bs i true) in let c = count-cons b bs in let h = count-marked bs i e in omega arith

pub count-more : (bs cs : List Bool) (n i : ℕ) → cs ≡ bs → is_unmarked cs i ≡ true → n ≡ count bs → n + 1 ≡ count (set bs (i - 1) true)
count-more bs cs n zero same e is = absurd (false≢true e)
count-more bs cs n (suc i) same e is =
    let place : suc i - 1 ≡ i = omega arith in
    rw (place, is) (sym (count-marked bs i (subst (λ ds. is_false_there (slice_get ds i) ≡ true) same e)))
