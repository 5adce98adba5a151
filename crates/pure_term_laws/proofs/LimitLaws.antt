-- Terms on both sides of the limits.
use Rattle.std.proofs.Common.{◌≤◌, ◌≡◌, ℕ, zero, suc, ◌+◌, ◌*◌, ◌^◌, ◌∙◌, refl, pow-suc, arith}
use Rattle.pure_definitions.specs.Terms.Term.{Term, Bound, App, term_size, term_depth, IsWithin}
use Rattle.pure_term_laws.specs.LawsExamples.{x, tower, doubled, filled}
use Rattle.pure_term_laws.specs.LawsTyping.{LimitsExample}

tower-size : (n : ℕ) → term_size (tower n) ≡ 5 * n + 2
unfolding tower
tower-size zero = refl
tower-size (suc n) = let rest = tower-size n in omega arith

tower-depth : (n : ℕ) → term_depth (tower (suc n)) ≡ n + 4
unfolding tower
tower-depth zero = refl
tower-depth (suc n) = let rest = tower-depth n in omega arith

doubled-size : (n m : ℕ) → m ≡ 2 ^ n → term_size (doubled n) + 1 ≡ 2 * m
unfolding doubled
doubled-size zero m e = omega arith
doubled-size (suc n) m e = let rest = doubled-size n (2 ^ n) refl in let power : m ≡ 2 ^ n * 2 = e ∙ pow-suc 2 n in omega arith

doubled-depth : (n : ℕ) → term_depth (doubled n) ≡ n + 1
unfolding doubled
doubled-depth zero = refl
doubled-depth (suc n) = let rest = doubled-depth n in omega arith

filled-size : (t : Term) → term_size (filled t) ≡ 199996 + term_size t
unfolding filled
filled-size t =
    let a = doubled-size 16 65536 refl in
    let b = doubled-size 15 32768 refl in
    let c = doubled-size 10 1024 refl in
    let d = doubled-size 9 512 refl in
    let e = doubled-size 7 128 refl in
    let f = doubled-size 4 16 refl in
    let g = doubled-size 3 8 refl in
    let h = doubled-size 2 4 refl in
    let k = doubled-size 1 2 refl in
    omega arith

filled-depth : (t : Term) → term_depth (filled t) ≤ 27 + term_depth t
unfolding filled
filled-depth t = rw (doubled-depth 16, doubled-depth 15, doubled-depth 10, doubled-depth 9, doubled-depth 7, doubled-depth 4, doubled-depth 3, doubled-depth 2, doubled-depth 1) (omega arith)

pub limits_example : LimitsExample
limits_example = (
  record { size = rw (tower-size 1997) (omega arith); depth = rw (tower-depth 1996) (omega arith) },
  (λ h. let deep = h.depth in let counted = tower-depth 1997 in omega arith),
  record { size = (let counted = filled-size (App (Bound 0) x) in omega arith); depth = (let bounded = filled-depth (App (Bound 0) x) in omega arith) },
  (λ h. let large = h.size in let counted = filled-size (App x x) in omega arith),
)

pub doubled_is_large : ¬ IsWithin (doubled 17)
doubled_is_large h = let large = h.size in let counted = doubled-size 17 131072 refl in omega arith
