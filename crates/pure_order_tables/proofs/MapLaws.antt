-- What a map has after entries are put in.
use Rattle.std.proofs.Common.{◌≡◌, ℕ, List, [], ◌∷◌, map, refl, sym, inl, inr, ◌⊎◌, ◌∙◌, Some}
use Rattle.std.specs.FinMap.{FinMap, get, insert}
use Rattle.std.specs.Ordering.{nat_cmp}
use Rattle.std.proofs.lemmas.Bool.Decides.{eqb_tells}
use Rattle.pure_text.specs.Lists.{IsIn}
use Rattle.pure_shared_maps.specs.View.{puts}
use Rattle.pure_shared_maps.proofs.GrownLaws.{insert_same, insert_other}

pub get_after : {V : Type 0} (m : FinMap nat_cmp V) (k : ℕ) (v : V) (q : ℕ) → ((q ≡ k) × (get (insert m k v) q ≡ Some v)) ⊎ ((¬ (q ≡ k)) × (get (insert m k v) q ≡ get m q))
get_after m k v q = elim (eqb_tells q k) [
  | inl w ↦ inl (w.1, insert_same m k q v (sym w.1))
  | inr w ↦ inr (w.1, insert_other m k q v (λ e. w.1 (sym e)))
]

-- One value was put in at each of these keys.
pub get_placed : (m : FinMap nat_cmp ℕ) (p : ℕ) (ds : List ℕ) (q : ℕ) → (IsIn q ds × (get (puts m (map (λ (d : ℕ). (d, p)) ds)) q ≡ Some p)) ⊎ ((¬ IsIn q ds) × (get (puts m (map (λ (d : ℕ). (d, p)) ds)) q ≡ get m q))
get_placed m p [] q = inr (λ n. n, refl)
get_placed m p (d ∷ ds) q = elim (get_placed (insert m d p) p ds q) [
  | inl w ↦ inl (inr w.0, w.1)
  | inr w ↦ elim (get_after m d p q) [
    | inl here ↦ inl (inl here.0, w.1 ∙ here.1)
    | inr other ↦ inr (λ n. elim n [ inl e ↦ other.0 e | inr t ↦ w.0 t ], w.1 ∙ other.1)
  ]
]
