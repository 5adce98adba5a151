-- Each list of classes has a reduced sort: ascending, below the list, and without two classes of which one is below the other.
use Rattle.std.proofs.Common.{◌≡◌, ℕ, ◌+◌, ◌<◌, List, [], ◌∷◌, suc, zero, inl, inr, ◌⊎◌, ◌↔◌, refl, sym, ◌∙◌, arith}
use Rattle.std.specs.List.Sorted.{IsStrictlyIncreasing}
use Rattle.pure_text.specs.Lists.{IsIn, Each}
use Rattle.pure_text.proofs.ListLaws.{each_of, each_at, any_of, any_some}
use Rattle.pure_definitions.specs.Types.Order.{Algebra, IsClassBelow, HasClassBelow}
use Rattle.pure_definitions.proofs.OrderLaws.{below-trans, below_same}
use Rattle.pure_tunify.proofs.DecidedLaws.{is_decided, has_class_below_or_not}

-- Each number is below all that come after it.
abbrev Ascends : List ℕ → Type 0
Ascends [] = Unit {0}
Ascends (x ∷ xs) = Each (λ y. x < y) xs × Ascends xs

ascends_rises : (xs : List ℕ) → Ascends xs → IsStrictlyIncreasing xs
ascends_rises [] up k within = absurd (omega arith)
ascends_rises (x ∷ []) up k within = absurd (omega arith)
ascends_rises (x ∷ y ∷ ys) up zero within = up.0.0
ascends_rises (x ∷ y ∷ ys) up (suc k) within = let next : suc k + 1 ≡ suc (k + 1) = omega arith in rw next (ascends_rises (y ∷ ys) up.1 k (omega arith))

-- an ascending list of these members
abbrev Listed : (ℕ → Type 0) → Type 0
Listed P = (xs : List ℕ) × Ascends xs × ((c : ℕ) → IsIn c xs ↔ P c)

-- Those that have a property, of an ascending list.
kept : (P : ℕ → Type 0) → ((c : ℕ) → P c ⊎ ¬ P c) → (xs : List ℕ) → Ascends xs → Listed (λ c. IsIn c xs × P c)
kept P decided [] up = ([], tt, λ c. (λ m. absurd m, λ w. w.0))
kept P decided (x ∷ xs) up = by (kept P decided xs up.1) (decided x)
  where
    by : Listed (λ c. IsIn c xs × P c) → P x ⊎ ¬ P x → Listed (λ c. IsIn c (x ∷ xs) × P c)
    by rest (inl p) = (
      x ∷ rest.0,
      (each_of (λ y. x < y) rest.0 (λ y m. each_at (λ y. x < y) xs up.0 y ((rest.2 y).0 m).0), rest.1),
      λ c. (
        λ m. elim m [ inl e ↦ (inl e, rw e p) | inr n ↦ (inr ((rest.2 c).0 n).0, ((rest.2 c).0 n).1) ],
        λ w. elim w.0 [ inl e ↦ inl e | inr n ↦ inr ((rest.2 c).1 (n, w.1)) ],
      ),
    )
    by rest (inr nope) = (
      rest.0,
      rest.1,
      λ c. (
        λ m. (inr ((rest.2 c).0 m).0, ((rest.2 c).0 m).1),
        λ w. elim w.0 [ inl e ↦ absurd (nope (rw e at w.1)) | inr n ↦ (rest.2 c).1 (n, w.1) ],
      ),
    )

before_at_after : (x y : ℕ) → (x < y) ⊎ ((x ≡ y) ⊎ (y < x))
before_at_after x y = grind arith

-- One more of an ascending list.
put : (x : ℕ) (xs : List ℕ) → Ascends xs → Listed (λ c. (c ≡ x) ⊎ IsIn c xs)
put x [] up = (x ∷ [], (tt, tt), λ c. (λ m. m, λ m. m))
put x (y ∷ ys) up = by (put x ys up.1) (before_at_after x y)
  where
    by : Listed (λ c. (c ≡ x) ⊎ IsIn c ys) → (x < y) ⊎ ((x ≡ y) ⊎ (y < x)) → Listed (λ c. (c ≡ x) ⊎ IsIn c (y ∷ ys))
    by rest (inl before) = (
      x ∷ y ∷ ys,
      ((before, each_of (λ z. x < z) ys (λ z m. (let far = each_at (λ z. y < z) ys up.0 z m in omega arith))), up),
      λ c. (λ m. m, λ m. m),
    )
    by rest (inr (inl same)) = (y ∷ ys, up, λ c. (λ m. inr m, λ w. elim w [ inl e ↦ inl (e ∙ same) | inr m ↦ m ]))
    by rest (inr (inr after)) = (
      y ∷ rest.0,
      (each_of (λ z. y < z) rest.0 (λ z m. elim ((rest.2 z).0 m) [ inl e ↦ omega arith | inr n ↦ each_at (λ z. y < z) ys up.0 z n ]), rest.1),
      λ c. (
        λ m. elim m [ inl e ↦ inr (inl e) | inr n ↦ elim ((rest.2 c).0 n) [ inl e ↦ inl e | inr o ↦ inr (inr o) ] ],
        λ w. elim w [ inl e ↦ inr ((rest.2 c).1 (inl e)) | inr m ↦ elim m [ inl e ↦ inl e | inr n ↦ inr ((rest.2 c).1 (inr n)) ] ],
      ),
    )

-- The classes of the second list are among those of the first and below each of them, none is below another, and they ascend.
pub record AreReduced (A : Algebra) (xs us : List ℕ) : Type 0 where
  pub among : (c : ℕ) → IsIn c us → IsIn c xs
  pub below : (c : ℕ) → IsIn c xs → HasClassBelow A us c
  pub apart : (b c : ℕ) → IsIn b us → IsIn c us → IsClassBelow A b c → b ≡ c
  pub ascends : Ascends us

module _ (A : Algebra) (x : ℕ) (xs us : List ℕ) (h : AreReduced A xs us) where
  -- A class above one of the sort.
  covered : HasClassBelow A us x → AreReduced A (x ∷ xs) us
  covered below = record {
    among = λ c m. inr (h.among c m);
    below = λ c m. elim m [ inl e ↦ rw e below | inr n ↦ h.below c n ];
    apart = h.apart;
    ascends = h.ascends;
  }

  -- A class above none of it: those above it go.
  placed : ¬ HasClassBelow A us x → (vs : List ℕ) × AreReduced A (x ∷ xs) vs
  placed free = (
    added.0,
    record {
      among = λ c m. elim ((added.2 c).0 m) [ inl e ↦ inl e | inr n ↦ inr (h.among c ((others.2 c).0 n).0) ];
      below = λ c m. elim m [ inl e ↦ any_of (λ b. IsClassBelow A b c) x added.0 here (below_same A x c (sym e)) | inr n ↦ still c (h.below c n) ];
      apart = λ b c m n below. apart b c ((added.2 b).0 m) ((added.2 c).0 n) below;
      ascends = added.1;
    },
  )
    where
      not_above : (c : ℕ) → (¬ IsClassBelow A x c) ⊎ ¬ ¬ IsClassBelow A x c
      not_above c = elim (is_decided A x c) [ inl k ↦ inr (λ nope. nope k) | inr nope ↦ inl nope ]

      others : Listed (λ c. IsIn c us × ¬ IsClassBelow A x c)
      others = kept (λ c. ¬ IsClassBelow A x c) not_above us h.ascends

      added : Listed (λ c. (c ≡ x) ⊎ IsIn c others.0)
      added = put x others.0 others.1

      here : IsIn x added.0
      here = (added.2 x).1 (inl refl)

      still : (c : ℕ) → HasClassBelow A us c → HasClassBelow A added.0 c
      still c k =
          let b = any_some (λ b. IsClassBelow A b c) us k in
          elim (is_decided A x b.0) [
            | inl above ↦ any_of (λ b. IsClassBelow A b c) x added.0 here (below-trans above b.2)
            | inr nope ↦ any_of (λ b. IsClassBelow A b c) b.0 added.0 ((added.2 b.0).1 (inr ((others.2 b.0).1 (b.1, nope)))) b.2
          ]

      apart : (b c : ℕ) → (b ≡ x) ⊎ IsIn b others.0 → (c ≡ x) ⊎ IsIn c others.0 → IsClassBelow A b c → b ≡ c
      apart b c (inl e) (inl f) k = e ∙ sym f
      apart b c (inl e) (inr n) k = absurd (((others.2 c).0 n).1 (rw e at k))
      apart b c (inr m) (inl f) k = absurd (free (any_of (λ b. IsClassBelow A b x) b us ((others.2 b).0 m).0 (rw f at k)))
      apart b c (inr m) (inr n) k = h.apart b c ((others.2 b).0 m).0 ((others.2 c).0 n).0 k

pub reduced_of : (A : Algebra) (xs : List ℕ) → (us : List ℕ) × AreReduced A xs us
reduced_of A [] = ([], record { among = λ c m. m; below = λ c m. absurd m; apart = λ b c m n k. absurd m; ascends = tt })
reduced_of A (x ∷ xs) = by (reduced_of A xs)
  where
    by : ((us : List ℕ) × AreReduced A xs us) → (us : List ℕ) × AreReduced A (x ∷ xs) us
    by rest = elim (has_class_below_or_not A rest.0 x) [ inl below ↦ (rest.0, covered A x xs rest.0 rest.1 below) | inr free ↦ placed A x xs rest.0 rest.1 free ]

pub reduced_rises : (A : Algebra) (xs us : List ℕ) → AreReduced A xs us → IsStrictlyIncreasing us
reduced_rises A xs us h = ascends_rises us h.ascends
