-- Ways through places below a bound, as the bound rises.
use Rattle.std.proofs.Common.{◌≡◌, ◌⊎◌, ◌↔◌, inl, inr, ℕ, zero, ◌+◌, ◌<◌, Bool, true, subst, arith}
use Rattle.pure_session.specs.Places.{Path, direct, along}

over : (marked : ℕ → ℕ → Bool) (n i k j : ℕ) → Path marked n i k → k < n → Path marked n k j → Path marked n i j
over marked n i k j (direct _ _ e) below q = along i k j e below q
over marked n i k j (along _ m _ e less p) below q = along i m j e less (over marked n m k j p below q)

higher : (marked : ℕ → ℕ → Bool) (n i j : ℕ) → Path marked n i j → Path marked (n + 1) i j
higher marked n i j (direct _ _ e) = direct i j e
higher marked n i j (along _ m _ e less p) = along i m j e (omega arith) (higher marked n m j p)

below_or_at : (m n : ℕ) → m < n + 1 → (m < n) ⊎ (m ≡ n)
below_or_at m n h = grind arith

-- a way below the next bound avoids the last place, or leads to it and from it
apart : (marked : ℕ → ℕ → Bool) (n i j : ℕ) → Path marked (n + 1) i j → Path marked n i j ⊎ (Path marked n i n × Path marked n n j)
apart marked n i j (direct _ _ e) = inl (direct i j e)
apart marked n i j (along _ m _ e less p) = elim (below_or_at m n less) [
  | inl below ↦ elim (apart marked n m j p) [
    | inl q ↦ inl (along i m j e below q)
    | inr w ↦ inr (along i m n e below w.0, w.1)
  ]
  | inr same ↦ (let here : marked i n ≡ true = subst (λ k. marked i k ≡ true) same e in elim (apart marked n m j p) [
    | inl q ↦ inr (direct i n here, subst (λ k. Path marked n k j) same q)
    | inr w ↦ inr (direct i n here, w.1)
  ])
]

-- What is marked in the table is what has a way below the bound.
pub record IsClosedBelow (marked : ℕ → ℕ → Bool) (bound : ℕ) (now : ℕ → ℕ → Bool) : Type 0 where
  pub ways : (i j : ℕ) → (now i j ≡ true) ↔ Path marked bound i j

no_way : (marked : ℕ → ℕ → Bool) (i j : ℕ) → Path marked zero i j → marked i j ≡ true
no_way marked i j (direct _ _ e) = e
no_way marked i j (along _ m _ e less p) = absurd (omega arith)

pub IsClosedBelow-none : (marked : ℕ → ℕ → Bool) → IsClosedBelow marked 0 marked
IsClosedBelow-none marked = record { ways = λ i j. (λ e. direct i j e, λ p. no_way marked i j p) }

pub IsClosedBelow-step : (marked now next : ℕ → ℕ → Bool) (n : ℕ) → IsClosedBelow marked n now → ((i j : ℕ) → (next i j ≡ true) ↔ ((now i j ≡ true) ⊎ ((now i n ≡ true) × (now n j ≡ true)))) → IsClosedBelow marked (n + 1) next
IsClosedBelow-step marked now next n closed turn = record {
  ways = λ i j. (
    λ e. elim ((turn i j).0 e) [
      | inl first ↦ higher marked n i j ((closed.ways i j).0 first)
      | inr two ↦ over marked (n + 1) i n j (higher marked n i n ((closed.ways i n).0 two.0)) (omega arith) (higher marked n n j ((closed.ways n j).0 two.1))
    ],
    λ p. (turn i j).1 (elim (apart marked n i j p) [
      | inl q ↦ inl ((closed.ways i j).1 q)
      | inr w ↦ inr ((closed.ways i n).1 w.0, (closed.ways n j).1 w.1)
    ]),
  );
}

pub IsClosedBelow-end : (marked now : ℕ → ℕ → Bool) (k n : ℕ) → k ≡ n → IsClosedBelow marked k now → (i j : ℕ) → (now i j ≡ true) ↔ Path marked n i j
IsClosedBelow-end marked now k n same closed i j = subst (λ b. (now i j ≡ true) ↔ Path marked b i j) same (closed.ways i j)
