-- Computed examples of what the steps solve and refute.
use Rattle.std.proofs.Common.{◌≡◌, ℕ, [], ◌∷◌, inl, refl, arith}
use Rattle.pure_definitions.specs.Names.{fun_name}
use Rattle.pure_definitions.specs.Types.Typ.{Typ, TVar, none, also}
use Rattle.pure_definitions.specs.Types.Order.{Algebra, itself}
use Rattle.pure_definitions.specs.Terms.Subst.{typ_instance}
use Rattle.pure_tunify.specs.Asks.{IsMeet}
use Rattle.pure_tunify.specs.Steps.{setting, narrow, eliminate, occurs, solved, step, failed}
use Rattle.pure_tunify.specs.Examples.{NarrowedExample, OccursExample}

-- the map that is set: first the narrowing, then the variable
abbrev narrowed : Typ → Typ
narrowed v = typ_instance (λ w. typ_instance (λ u. u) (setting 0 0 (0 ∷ []) (TVar 0 1 (0 ∷ [])) w)) (setting 1 0 [] (TVar 0 1 (0 ∷ [])) v)

other_index : (i j : ℕ) → (i ≡ j → ⊥) → TVar 0 i (0 ∷ []) ≡ TVar 0 j (0 ∷ []) → ⊥
other_index i j other e = let same : i ≡ j = cc in other same

meet_example : (A : Algebra) → IsMeet A [] (0 ∷ []) (0 ∷ [])
meet_example A = record { left_above = tt; right_above = (inl itself, tt); greatest = λ t h k. k }

pub narrowed_example : NarrowedExample
narrowed_example A = (
  narrowed,
  step (narrow 0 0 (0 ∷ []) (TVar 1 0 []) 1 0 [] (0 ∷ []) (0 ∷ []) refl (λ typs sub h. h) (meet_example A))
      (step (eliminate 0 0 (0 ∷ []) (TVar 0 1 (0 ∷ [])) (other_index 0 1 (λ e. absurd (zero_one e))) (inl itself, tt)) solved),
  refl,
  refl,
)
  where
    zero_one : ◌≡◌ {A = ℕ} 0 1 → ⊥
    zero_one e = absurd (omega arith)

pub occurs_example : OccursExample
occurs_example A index n x i s range = failed (occurs x i fun_name s (also (TVar x i s) (also range none)) (inl refl))
