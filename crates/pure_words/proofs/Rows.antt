-- Rows of `clap` under one more use of an argument that wasn't used before.
use Rattle.std.proofs.Common.{◌≡◌, ◌∙◌, ℕ, Bool, true, false, not, cond, List, [], ◌∷◌, ◌++◌, refl, sym, ap, Option, Some, None, ◌||◌, append-nil}
use Rattle.std.specs.List.{find, list_any}
use Rattle.std.specs.Option.{is_some}
use Rattle.std.specs.Str.{bytes_eq}
use Rattle.std.proofs.lemmas.Bool.{false≢true}
use Rattle.clap.specs.Walk.{Row, Rule, Text, at_row, has_row, without}

-- the first row of an id
abbrev pub found : Text → List Row → Option Row
found id rows = find (λ r. bytes_eq r.id id) rows

pub some_not_none : {X : Type 0} (x : X) → Some x ≡ None → ⊥
some_not_none x e = false≢true (sym (ap (λ o. is_some o) e))

pub no_row : (id : Text) (rows : List Row) → found id rows ≡ None → has_row id rows ≡ false
no_row id [] e = refl
no_row id (r ∷ rs) e = go (bytes_eq r.id id) e (no_row id rs)
  where
    go : (b : Bool) → cond b (Some r) (found id rs) ≡ None → (found id rs ≡ None → has_row id rs ≡ false) → (b || has_row id rs) ≡ false
    go true e' rest = absurd (some_not_none r e')
    go false e' rest = rest e'

-- where an id has no row, what is there without one comes to the end
pub at_end : (id : Text) (change : Row → List Row) (missing : List Row) (rows : List Row) → found id rows ≡ None → at_row id change missing rows ≡ rows ++ missing
at_end id change missing [] e = refl
at_end id change missing (r ∷ rs) e = go (bytes_eq r.id id) e (at_end id change missing rs)
  where
    go : (b : Bool) → cond b (Some r) (found id rs) ≡ None → (found id rs ≡ None → at_row id change missing rs ≡ rs ++ missing)
        → cond b (change r ++ rs) (r ∷ at_row id change missing rs) ≡ r ∷ (rs ++ missing)
    go true e' rest = absurd (some_not_none r e')
    go false e' rest = ap (λ xs. r ∷ xs) (rest e')

pub found_new : (id : Text) (rows : List Row) (r : Row) → found id rows ≡ None → bytes_eq r.id id ≡ true → found id (rows ++ r ∷ []) ≡ Some r
found_new id [] r none same = rw same refl
found_new id (x ∷ xs) r none same = go (bytes_eq x.id id) none (λ e. found_new id xs r e same)
  where
    go : (b : Bool) → cond b (Some x) (found id xs) ≡ None → (found id xs ≡ None → found id (xs ++ r ∷ []) ≡ Some r)
        → cond b (Some x) (found id (xs ++ r ∷ [])) ≡ Some r
    go true e' rest = absurd (some_not_none x e')
    go false e' rest = rest e'

pub found_other : (id : Text) (rows : List Row) (r : Row) → bytes_eq r.id id ≡ false → found id (rows ++ r ∷ []) ≡ found id rows
found_other id [] r other = rw other refl
found_other id (x ∷ xs) r other = ap (λ o. cond (bytes_eq x.id id) (Some x) o) (found_other id xs r other)

-- an argument that has no row is used: its row comes to the end
pub used_at_end : (id : Text) (change : Row → List Row) (r : Row) (rows : List Row) → found id rows ≡ None
    → at_row id change (r ∷ []) (without id rows) ≡ rows ++ r ∷ []
used_at_end id change r rows e =
    let gone : without id rows ≡ rows = at_end id (λ _. []) [] rows e ∙ append-nil rows in
    ap (at_row id change (r ∷ [])) gone ∙ at_end id change (r ∷ []) rows e
