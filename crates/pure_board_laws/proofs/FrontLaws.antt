-- What the rule of an open desk says of all its seats at once.
use Rattle.std.proofs.Common.{◌⊎◌, ℕ, ◌<◌, ◌≤◌, List, length, Option, inl, inr, le_of_lt}
use Rattle.std.proofs.lemmas.Bool.{cases_lt}
use mathlib.Core.List.{IsPrefix}
use Rattle.atomic_table.specs.Table.{State}
use Rattle.pure_board_lock.specs.View.{View}
use Rattle.pure_board_lock.specs.Rule.{IsSettled}
use Rattle.pure_board_lock.proofs.HistoryLaws.{shorter-begins}
use Rattle.pure_board_lock.proofs.RuleLaws.{is-settled}
use Rattle.pure_board_laws.specs.Fronts.{IsOpen, OpenSeatsHaveOneHistory, OfTwoSeatsOneIsBehind}

-- of two fronts of one list the shorter is a front of the longer
by-length : {A : Type 0} (xs ys zs : List A) → IsPrefix xs zs → IsPrefix ys zs → (length xs < length ys) ⊎ (length ys ≤ length xs) → IsPrefix xs ys ⊎ IsPrefix ys xs
by-length xs ys zs p q (inl lt) = inl (shorter-begins xs ys zs p q (le_of_lt lt))
by-length xs ys zs p q (inr le) = inr (shorter-begins ys xs zs q p le)

module _ {C K O E : Type 0} (after : O → List (ℕ × E) → C) (legal : K → O → List (ℕ × E) → Type 0) (session : K) where
  settled : (s : State (Option C) (View K O E)) → IsOpen after legal session s → IsSettled after legal session s
  settled s o = is-settled after legal session s o.place o.seat o.kept o.there o.opened

  pub one-history : OpenSeatsHaveOneHistory after legal session
  one-history s o = let r = settled s o in record {
    opening = r.opening;
    log = r.log;
    lawful = r.lawful;
    openings = λ place v at. (r.fits place v at.there at.lives).opening_is;
    fronts = λ place v at. (r.fits place v at.there at.lives).saw;
    entries = λ place v at. (r.fits place v at.there at.lives).itself.entries;
  }

  pub one-behind : OfTwoSeatsOneIsBehind after legal session
  one-behind s o m n v w at at' = let h = one-history s o in by-length v.seen w.seen h.log (h.fronts m v at) (h.fronts n w at') (cases_lt (length v.seen) (length w.seen))
