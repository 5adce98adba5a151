-- A finite map with one pair more.
use Rattle.std.proofs.Common.{◌≡◌, ℕ, ◌+◌, Bool, true, false, cond, refl, ap, ◌∙◌}
use Rattle.std.specs.Prelude.{Some, None, is_some}
use Rattle.std.specs.Ordering.{nat_cmp, is_eq, eq_by_cmp}
use Rattle.std.specs.Cmp.{nat_cmp_total, tied_itself}
use Rattle.std.specs.declared.cmp.Ordering.{Ordering}
use Rattle.std.specs.declared.cmp.Ordering.TheVariants.{Less, Equal, Greater}
use Rattle.std.specs.FinMap.{FinMap, get, len, insert, get-insert, len-insert, nat_cmp-IsAntisymmetric}

key_equal : (r : Ordering) → is_eq r ≡ true → r ≡ Equal
key_equal Less e = absurd (cc)
key_equal Equal e = refl
key_equal Greater e = absurd (cc)

same_key : (k : ℕ) → eq_by_cmp nat_cmp k k ≡ true
same_key k = ap is_eq (tied_itself nat_cmp_total k)

other_key : (j k : ℕ) → ¬ (j ≡ k) → eq_by_cmp nat_cmp j k ≡ false
other_key j k other = by (eq_by_cmp nat_cmp j k) refl
  where
    by : (b : Bool) → eq_by_cmp nat_cmp j k ≡ b → eq_by_cmp nat_cmp j k ≡ false
    by true e = absurd (other (nat_cmp-IsAntisymmetric j k (key_equal (nat_cmp j k) e)))
    by false e = e

module _ {V : Type 0} (m : FinMap nat_cmp V) (k : ℕ) (v : V) where
  pub get_here : get (insert m k v) k ≡ Some v
  get_here = get-insert nat_cmp_total m k v k ∙ ap (λ b. cond b (Some v) (get m k)) (same_key k)

  pub get_beside : (j : ℕ) → ¬ (j ≡ k) → get (insert m k v) j ≡ get m j
  get_beside j other = get-insert nat_cmp_total m k v j ∙ ap (λ b. cond b (Some v) (get m j)) (other_key j k other)

  pub one_longer : get m k ≡ None → len (insert m k v) ≡ len m + 1
  one_longer fresh = len-insert nat_cmp_total m k v ∙ ap (λ o. cond (is_some o) (len m) (len m + 1)) fresh
