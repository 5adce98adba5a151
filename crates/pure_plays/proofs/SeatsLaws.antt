-- The seats of a board, fresh and after calls.
use Rattle.std.proofs.Common.{◌≡◌, ◌∙◌, ◌<◌, ℕ, List, [], ◌∷◌, ◌++◌, length, take, drop, refl, sym, ap, subst, arith, inl, inr}
use Rattle.std.proofs.lemmas.Bool.{cases_lt}
use mathlib.Core.List.{IsPrefix}
use Rattle.pure_text.specs.Lists.{IsIn, Each, AnyOf, EachTwo}
use Rattle.pure_text.proofs.ListLaws.{each_at, two_long}
use Rattle.pure_machine.specs.Policy.{Opening}
use Rattle.pure_board.specs.Sight.{Plan, Sight}
use Rattle.pure_board_lock.proofs.HistoryLaws.{shorter-begins}
use Rattle.pure_board.specs.Boards.{IsFresh, AreAll, AreOpened, Ending, IsOfSeats}
use Rattle.pure_plays.specs.Seen.{BeginAlike}
use Rattle.pure_pool.specs.Seated.{IsSameSeat}

-- a list that is written over all of another
take-front : {A : Type 0} (xs ys : List A) → take (length xs) (xs ++ ys) ≡ xs
take-front [] ys = refl
take-front (x ∷ xs) ys = ap (λ l. x ∷ l) (take-front xs ys)

written : {A : Type 0} (len : ℕ) (new items : List A) → length new ≡ len → take len (new ++ drop (length new) items) ≡ new
written len new items long = subst (λ n. take n (new ++ drop (length new) items) ≡ new) long (take-front new (drop (length new) items))

module _ {W G C O : Type 0} (board : Plan W) (o : Opening) where
  -- the same seats are of the board
  same-plans : (old new : List (Sight W G C O)) → Each (IsFresh board o) old → EachTwo IsSameSeat old new → Each (λ s. s.plan ≡ board) new
  same-plans [] [] fresh same = tt
  same-plans [] (y ∷ ys) fresh same = absurd same
  same-plans (x ∷ xs) [] fresh same = absurd same
  same-plans (x ∷ xs) (y ∷ ys) fresh same = (same.0.plan ∙ fresh.0.plan, same-plans xs ys fresh.1 same.1)

  same-openings : (old new : List (Sight W G C O)) → Each (IsFresh board o) old → EachTwo IsSameSeat old new → Each (λ s. s.opening ≡ o) new
  same-openings [] [] fresh same = tt
  same-openings [] (y ∷ ys) fresh same = absurd same
  same-openings (x ∷ xs) [] fresh same = absurd same
  same-openings (x ∷ xs) (y ∷ ys) fresh same = (same.0.opening ∙ fresh.0.opening, same-openings xs ys fresh.1 same.1)

  same-number : (n : ℕ) (old new : List (Sight W G C O)) → EachTwo IsSameSeat old new → AnyOf (λ s. s.number ≡ n) old → AnyOf (λ s. s.number ≡ n) new
  same-number n [] [] same any = any
  same-number n [] (y ∷ ys) same any = absurd same
  same-number n (x ∷ xs) [] same any = absurd same
  same-number n (x ∷ xs) (y ∷ ys) same (inl here) = inl (same.0.number ∙ here)
  same-number n (x ∷ xs) (y ∷ ys) same (inr there) = inr (same-number n xs ys same.1 there)

  -- what stands in the vector of the seats after they were lent
  pub written-plans : (len : ℕ) (items old new : List (Sight W G C O)) → AreOpened board o items → old ≡ items → length old ≡ len → EachTwo IsSameSeat old new → Each (λ s. s.plan ≡ board) (take len (new ++ drop (length new) items))
  written-plans len items old new opened value long same =
      subst (Each (λ s. s.plan ≡ board)) (sym (written len new items (sym (two_long IsSameSeat old new same) ∙ long)))
      (same-plans old new (subst (Each (IsFresh board o)) (sym value) opened.fresh) same)

  pub written-all : (len : ℕ) (items old new : List (Sight W G C O)) → 0 < o.workers → AreOpened board o items → old ≡ items → length old ≡ len → EachTwo IsSameSeat old new
      → (p : Opening) × (0 < p.workers) × Each (λ s. s.opening ≡ p) (take len (new ++ drop (length new) items)) × AreAll p.workers (take len (new ++ drop (length new) items))
  written-all len items old new some opened value long same =
      let all : AreAll o.workers new = λ n below. same-number n old new same (subst (AnyOf (λ s. s.number ≡ n)) (sym value) (opened.all n below)) in
      let there = sym (written len new items (sym (two_long IsSameSeat old new same) ∙ long)) in (
        o,
        some,
        subst (Each (λ s. s.opening ≡ o)) there (same-openings old new (subst (Each (IsFresh board o)) (sym value) opened.fresh) same),
        subst (AreAll o.workers) there all,
      )

-- of what two seats of a closed board saw the longer begins with the shorter
pub begin-alike : {W G C O : Type 0} (seats : List (Sight W G C O)) (end : Ending W G C O) → IsOfSeats seats end → BeginAlike seats
begin-alike {W} {G} {C} {O} seats end of_seats a b in_a in_b =
    let begins : (s : Sight W G C O) → IsIn s seats → IsPrefix s.seen end.history = each_at (λ s. IsPrefix s.seen end.history) seats of_seats.begins in
    elim (cases_lt (length a.seen) (length b.seen)) [
      | inl shorter ↦ inl (shorter-begins a.seen b.seen end.history (begins a in_a) (begins b in_b) (omega (arith, shorter)))
      | inr longer ↦ inr (shorter-begins b.seen a.seen end.history (begins b in_b) (begins a in_a) longer)
    ]
