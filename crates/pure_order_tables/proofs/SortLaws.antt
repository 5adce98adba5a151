-- The order of sorts by a row of bits.
use Rattle.std.proofs.Common.{◌≡◌, ◌↔◌, ◌⊎◌, ℕ, ◌+◌, ◌<◌, ◌≤◌, List, [], length, get_or, take, refl, inl, inr, arith, Bool, IsTrue}
use Rattle.pure_text.specs.Lists.{IsIn, AnyOf}
use Rattle.pure_text.proofs.ListLaws.{any_some, any_of, any_imply}
use Rattle.pure_text.proofs.LoopLaws.{any_turn}
use Rattle.pure_definitions.specs.Types.Order.{Algebra, IsClassBelow, HasClassBelow, itself, along}
use Rattle.pure_order_tables.specs.Rows.{Holds}
use Rattle.pure_order_tables.specs.Classes.{Follows, IsDeclared}
use Rattle.pure_order_tables.specs.ClassTable.{IsNumber, name_at}
use Rattle.pure_order_tables.specs.Sorts.{AreUpWords}
use Rattle.pure_order_tables.specs.Uncovered.{IsUpRow}
use Rattle.pure_order_tables.proofs.BelowLaws.{declared, declared_at, reaches}
use Rattle.pure_order_tables.proofs.ClassTableLaws.{declared_by}

pub words_start : (A : Algebra) (s words : List ℕ) → ((n : ℕ) → ¬ Holds words n) → AreUpWords A (take 0 s) words
words_start A s words none n within = (λ h. absurd (none n h), λ w. absurd w.1)

pub words_put : (A : Algebra) (s words words' row : List ℕ) (i c number : ℕ) → i < length s → c ≡ get_or s i c → IsNumber A.classes c number → IsUpRow A (name_at A.classes number) row → ((n : ℕ) → Holds words' n ↔ (Holds words n ⊎ ((n < 4096) × Holds row n)))
    → AreUpWords A (take i s) words → AreUpWords A (take (i + 1) s) words'
words_put A s words words' row i c number within read is up put before n few = (
  λ h. elim ((put n).0 h) [
    | inl o ↦ (let w = (before n few).0 o in (w.0, (turn n).1 (inl w.1)))
    | inr w ↦ (let v = (up n).0 w.1 in (v.0, (turn n).1 (inr (declared_by A.classes c number is, rw is.named at v.1))))
  ],
  λ w. elim ((turn n).0 w.1) [
    | inl old ↦ (put n).1 (inl ((before n few).1 (w.0, old)))
    | inr new ↦ (put n).1 (inr (few, (up n).1 (w.0, rw is.named new.1)))
  ],
)
  where
    turn : (n : ℕ) → AnyOf (λ b. IsDeclared A.classes b × IsClassBelow A b (name_at A.classes n)) (take (i + 1) s) ↔ (AnyOf (λ b. IsDeclared A.classes b × IsClassBelow A b (name_at A.classes n)) (take i s) ⊎ (IsDeclared A.classes c × IsClassBelow A c (name_at A.classes n)))
    turn n = any_turn (λ b. IsDeclared A.classes b × IsClassBelow A b (name_at A.classes n)) s i c within read

pub words_kept : (A : Algebra) (s words : List ℕ) (i c : ℕ) → i < length s → c ≡ get_or s i c → ¬ IsDeclared A.classes c → AreUpWords A (take i s) words → AreUpWords A (take (i + 1) s) words
words_kept A s words i c within read not before n few = (
  λ h. (let w = (before n few).0 h in (w.0, (turn n).1 (inl w.1))),
  λ w. elim ((turn n).0 w.1) [ inl old ↦ (before n few).1 (w.0, old) | inr new ↦ absurd (not new.0) ],
)
  where
    turn : (n : ℕ) → AnyOf (λ b. IsDeclared A.classes b × IsClassBelow A b (name_at A.classes n)) (take (i + 1) s) ↔ (AnyOf (λ b. IsDeclared A.classes b × IsClassBelow A b (name_at A.classes n)) (take i s) ⊎ (IsDeclared A.classes c × IsClassBelow A c (name_at A.classes n)))
    turn n = any_turn (λ b. IsDeclared A.classes b × IsClassBelow A b (name_at A.classes n)) s i c within read

-- A class of the sort that is below another class is declared, or is that class.
pub lower_declared : (A : Algebra) (b d : ℕ) → IsClassBelow A b d → (b ≡ d) ⊎ IsDeclared A.classes b
lower_declared A b d itself = inl refl
lower_declared A b d (along i h) = inr (declared A.classes i.0 b i.1 i.2)

pub below_by_number : (A : Algebra) (s words : List ℕ) (d number : ℕ) (b : Bool) → length A.classes ≤ 4096 → AreUpWords A s words → ¬ IsIn d s → IsNumber A.classes d number → (IsTrue b ↔ Holds words number) → IsTrue b ↔ HasClassBelow A s d
below_by_number A s words d number b most up not is test = (
  λ t. any_imply (λ b. IsDeclared A.classes b × IsClassBelow A b (name_at A.classes number)) (λ b. IsClassBelow A b d) s (λ c w. rw is.named at w.1) ((up number few).0 (test.0 t)).1,
  λ some. (let w = any_some (λ b. IsClassBelow A b d) s some in elim (lower_declared A w.0 d w.2) [
    | inl same ↦ absurd (not (rw same at w.1))
    | inr known ↦ test.1 ((up number few).1 (is.within, any_of (λ b. IsDeclared A.classes b × IsClassBelow A b (name_at A.classes number)) w.0 s w.1 (known, rw is.named w.2)))
  ]),
)
  where
    few : number < 4096
    few = let w = is.within in omega (arith, w, most)

pub below_by_none : (A : Algebra) → Follows [] A.classes → (s : List ℕ) (d : ℕ) → ¬ IsIn d s → ¬ IsDeclared A.classes d → ¬ HasClassBelow A s d
below_by_none A f s d not undeclared some =
    let w = any_some (λ b. IsClassBelow A b d) s some in
    elim (lower_declared A w.0 d w.2) [
      | inl same ↦ not (rw same at w.1)
      | inr known ↦ elim (reaches A f w.2) [ inl same ↦ undeclared (declared_at A.classes w.0 d same known) | inr there ↦ undeclared there ]
    ]
