-- The groups that a list of cancellations cancels, one cancellation further.
use Rattle.std.proofs.Common.{◌≡◌, ◌∙◌, ◌<◌, ℕ, ◌+◌, List, [], ◌∷◌, ◌++◌, length, get_or, take, refl, sym, ap, append_assoc, append-nil, ne_eqb, if◌then◌else◌, inl, inr}
use Rattle.pure_text.proofs.LoopLaws.{longer_by}
use Rattle.pure_machine.specs.declared.policy.Group.{Group}
use Rattle.pure_machine.specs.declared.policy.Cancel.{Cancel}
use Rattle.pure_machine.specs.Policy.{due, due_one}
use Rattle.pure_machine.specs.Buckets.{bucket, IsPut}
use Rattle.pure_machine.specs.Parts.{IsScheduled}

due-more : (cs : List Cancel) (c : Cancel) (kept : ℕ) → due (cs ++ c ∷ []) kept ≡ due cs kept ++ due_one c kept
due-more [] c kept = nothing_behind (due_one c kept)
  where
    nothing_behind : (gs : List Group) → gs ++ [] ≡ gs
    nothing_behind [] = refl
    nothing_behind (g ∷ gs) = ap (λ hs. g ∷ hs) (nothing_behind gs)
due-more (d ∷ cs) c kept = ap (λ gs. due_one d kept ++ gs) (due-more cs c kept) ∙ sym (append_assoc (due_one d kept) (due cs kept) (due_one c kept))

pub due-turn : (cs : List Cancel) (k : ℕ) (c : Cancel) (kept : ℕ) (old now new : List Group) → k < length cs → c ≡ get_or cs k c → now ≡ old ++ due (take k cs) kept → new ≡ now ++ due_one c kept → new ≡ old ++ due (take (k + 1) cs) kept
due-turn cs k c kept old now new within read so_far more =
    rw (more, so_far, longer_by cs k c within read, due-more (take k cs) c kept) (append_assoc old (due (take k cs) kept) (due_one c kept))

-- one cancellation more, in its bucket and in the list
pub scheduled-turn : (cs : List Cancel) (k : ℕ) (c : Cancel) (key : ℕ) (old new : List (List Cancel)) → k < length cs → c ≡ get_or cs k c → key ≡ c.after → IsScheduled (take k cs) old → IsPut old new key c → IsScheduled (take (k + 1) cs) new
scheduled-turn cs k c key old new within read is so_far put kept = elim (put kept) [
  | inl more ↦ rw (more, longer_by cs k c within read, due-more (bucket old kept) c kept, due-more (take k cs) c kept) (ap (λ gs. gs ++ due_one c kept) (so_far kept))
  | inr same ↦
      let none : due_one c kept ≡ [] = ap (λ b. if b then (c.group ∷ []) else []) (ne_eqb c.after kept (λ e. same.1 (sym (is ∙ e)))) in
      rw (same.0, longer_by cs k c within read, due-more (take k cs) c kept, none, append-nil (due (take k cs) kept)) (so_far kept)
]

-- empty buckets have no cancellation
pub scheduled-none : (bs : List (List Cancel)) → ((kept : ℕ) → bucket bs kept ≡ []) → IsScheduled [] bs
scheduled-none bs empty kept = ap (λ cs. due cs kept) (empty kept)
