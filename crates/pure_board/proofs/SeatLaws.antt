-- Seats as tokens, and back.
use Rattle.std.proofs.Common.{◌≡◌, ◌∙◌, ℕ, List, [], Bool, true, Option, Some, None, is_some, refl, sym, ap, subst}
use Rattle.atomic_table.specs.Seated.{TableId}
use Rattle.atomic_table.specs.Table.{Me}
use Rattle.pure_machine.specs.Policy.{Opening}
use Rattle.pure_machine.specs.State.{State, Event}
use Rattle.pure_board_lock.specs.View.{View}
use Rattle.pure_board.specs.Sight.{Sight}
use Rattle.pure_board.specs.Tokens.{value_there, sight, IsDone}
use Rattle.pure_board.proofs.HoldLaws.{some-same}

pub some-there : {A : Type 0} (o : Option A) (is : is_some o ≡ true) → o ≡ Some (value_there o is)
some-there (Some x) is = refl
some-there None is = absurd (cc is)

same-there : {A : Type 0} (o p : Option A) (e : is_some o ≡ true) (f : is_some p ≡ true) → p ≡ o → value_there p f ≡ value_there o e
same-there o p e f same = some-same (value_there p f) (value_there o e) p (some-there p f) (same ∙ some-there o e)

-- a token as a seat
pub token-value : {W G C O : Type 0} (name name' : TableId) (m : Me (Option (State G C O)) (View W Opening (Event G C O))) (v : View W Opening (Event G C O)) (e : is_some m.0.session ≡ true) (f : is_some m.0.opening ≡ true) (k : W) (o : Opening)
    → name' ≡ name → m ≡ (v, []) → v.session ≡ Some k → v.opening ≡ Some o → sight name' (value_there m.0.session e) (value_there m.0.opening f) m.0 ≡ sight name k o v
token-value {W} {G} {C} {O} name name' m v e f k o same is k-is o-is = let at = ap (λ (x : Me (Option (State G C O)) (View W Opening (Event G C O))). x.0) is in λ i. sight (same i)
    (some-same (value_there m.0.session e) k m.0.session (some-there m.0.session e) (ap (λ (x : View W Opening (Event G C O)). x.session) at ∙ k-is) i)
    (some-same (value_there m.0.opening f) o m.0.opening (some-there m.0.opening f) (ap (λ (x : View W Opening (Event G C O)). x.opening) at ∙ o-is) i)
    (at i)

-- what holds of a seat's session, opening and history holds of its token's
pub may-tokens : {W G C O : Type 0} (P : W → Opening → List (ℕ × Event G C O) → Type 0) (name : TableId) (v : View W Opening (Event G C O)) (e : is_some v.session ≡ true) (f : is_some v.opening ≡ true) (old : Sight W G C O)
    → sight name (value_there v.session e) (value_there v.opening f) v ≡ old → P old.plan.session old.opening old.seen → (k : W) → v.session ≡ Some k → (o : Opening) → v.opening ≡ Some o → P k o v.seen
may-tokens {W} {G} {C} {O} P name v e f old is has k k-is o o-is =
    let here : P (value_there v.session e) (value_there v.opening f) v.seen = subst (λ (x : Sight W G C O). P x.plan.session x.opening x.seen) (sym is) has in
    subst (λ (x : W × Opening). P x.0 x.1 v.seen) (λ i. (some-same (value_there v.session e) k v.session (some-there v.session e) k-is i, some-same (value_there v.opening f) o v.opening (some-there v.opening f) o-is i)) here

module _ {W G C O : Type 0} (shape : W → List (List ℕ)) (forks : W → ℕ → ℕ → ℕ → G → Type 0) (closes : W → ℕ → ℕ → C → Type 0) (may : W → G → O → Type 0) (is_fault : W → O → Bool) where
  abbrev V : Type 0
  V = View W Opening (Event G C O)

  abbrev S : Type 0
  S = Sight W G C O

  abbrev Done : (S → S → Type 0) → V → Me (Option (State G C O)) V → Type 0
  Done = IsDone shape forks closes may is_fault

  -- what a call tells of tokens, it tells of seats
  pub tells-seats : (P : S → S → Type 0) (name name' : TableId) (v : V) (m : Me (Option (State G C O)) V) (e : is_some v.session ≡ true) (f : is_some v.opening ≡ true) (e' : is_some m.0.session ≡ true) (f' : is_some m.0.opening ≡ true) (old : S)
      → Done P v m → name' ≡ name → sight name (value_there v.session e) (value_there v.opening f) v ≡ old → P old (sight name' (value_there m.0.session e') (value_there m.0.opening f') m.0)
  tells-seats P name name' v m e f e' f' old d same is =
      subst (λ (x : S). P x (sight name' (value_there m.0.session e') (value_there m.0.opening f') m.0)) is
      (subst (λ (x : TableId × W × Opening). P (sight name (value_there v.session e) (value_there v.opening f) v) (sight x.0 x.1 x.2 m.0))
      (λ i. (sym same i, sym (same-there v.session m.0.session e e' d.session_same) i, sym (same-there v.opening m.0.opening f f' d.opening_same) i))
      (d.told name (value_there v.session e) (value_there v.opening f) (some-there v.session e) (some-there v.opening f)))
