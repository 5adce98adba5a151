-- Which promises a mark more cancels.
use Rattle.std.proofs.Common.{◌≡◌, ◌≢◌, ◌∙◌, ◌⊎◌, ℕ, zero, suc, List, [], ◌∷◌, map, get_or, set, refl, sym, ap, subst, Bool, true, false, not, ◌&&◌, ◌||◌, if◌then◌else◌, Option, Some, None, slice_get, arith, inl, inr}
use Rattle.std.proofs.lemmas.Bool.{false≢true}
use Rattle.pure_machine.specs.declared.policy.Group.{Group}
use Rattle.pure_machine.specs.declared.policy.Group.TheVariants.{Session, Theory}
use Rattle.pure_machine.specs.State.{Promise, Standing, Ready, Taken, Settled, Cancelled, Marks, is_true_there, is_marked, is_theory_cancelled, with_mark, marked, all_marked, is_settled, cancelled_promise}
use Rattle.pure_machine.specs.Step.{IsOver}
use Rattle.pure_machine.specs.Parts.{is_false_there, is_unmarked, is_new}

-- Whoever is cancelled under the first marks is under the second.
abbrev pub Within : Marks → Marks → Type 0
Within m n = (i : ℕ) → is_theory_cancelled m i ≡ true → is_theory_cancelled n i ≡ true

true_there : (bs : List Bool) (k i : ℕ) → is_true_there (slice_get bs i) ≡ true → is_true_there (slice_get (set bs k true) i) ≡ true
true_there [] zero i e = e
true_there [] (suc k) i e = e
true_there (b ∷ bs) zero zero e = refl
true_there (b ∷ bs) zero (suc i) e = e
true_there (b ∷ bs) (suc k) zero e = e
true_there (b ∷ bs) (suc k) (suc i) e = true_there bs k i e

still_marked : (bs : List Bool) (k i : ℕ) → is_marked bs i ≡ true → is_marked (with_mark bs k) i ≡ true
still_marked bs zero i e = e
still_marked bs (suc k) zero e = e
still_marked bs (suc k) (suc i) e = true_there bs k i e

either : (a b c : Bool) → (b ≡ true → c ≡ true) → a || b ≡ true → a || c ≡ true
either true b c h e = refl
either false b c h e = h e

-- one group more
pub within-marked : (m : Marks) (g : Group) → Within m (marked m g)
within-marked m Session i e = refl
within-marked m (Theory k) i e = either m.session (is_marked m.theories i) (is_marked (with_mark m.theories k) i) (still_marked m.theories k i) e

-- some groups more
pub within-all : (m : Marks) (gs : List Group) → Within m (all_marked m gs)
within-all m [] i e = e
within-all m (g ∷ gs) i e = within-all (marked m g) gs i (within-marked m g i e)

same_other : (bs : List Bool) (k i : ℕ) → i ≢ k → slice_get (set bs k true) i ≡ slice_get bs i
same_other [] zero i ne = refl
same_other [] (suc k) i ne = refl
same_other (b ∷ bs) zero zero ne = absurd (ne refl)
same_other (b ∷ bs) zero (suc i) ne = refl
same_other (b ∷ bs) (suc k) zero ne = refl
same_other (b ∷ bs) (suc k) (suc i) ne = same_other bs k i (λ e. ne (ap suc e))

marked-other : (bs : List Bool) (k i : ℕ) → i ≢ k → is_marked (with_mark bs k) i ≡ is_marked bs i
marked-other bs zero i ne = refl
marked-other bs (suc k) zero ne = refl
marked-other bs (suc k) (suc i) ne = ap is_true_there (same_other bs k i (λ e. ne (ap suc e)))

set_true : (bs : List Bool) (k : ℕ) → is_false_there (slice_get bs k) ≡ false → set bs k true ≡ bs
set_true [] zero e = refl
set_true [] (suc k) e = refl
set_true (true ∷ bs) zero e = refl
set_true (false ∷ bs) zero e = absurd (false≢true (sym e))
set_true (b ∷ bs) (suc k) e = ap (λ cs. b ∷ cs) (set_true bs k e)

mark-again : (bs : List Bool) (k : ℕ) → is_unmarked bs k ≡ false → with_mark bs k ≡ bs
mark-again bs zero e = refl
mark-again bs (suc k) e = set_true bs k e

-- a group that is cancelled already
pub marked-again : (m : Marks) (g : Group) → is_new m g ≡ false → marked m g ≡ m
marked-again m Session e = session_again m.session e
  where
    session_again : (b : Bool) → not b ≡ false → ◌≡◌ {A = Marks} (record { session = true; theories = m.theories }) (record { session = b; theories = m.theories })
    session_again true e = refl
    session_again false e = search
marked-again m (Theory k) e = ap (λ bs. record { session = m.session; theories = bs }) (mark-again m.theories k e)

pub marked-stays : (m : Marks) (g : Group) (k : ℕ) (bs : List Bool) → g ≡ Theory k → bs ≡ m.theories → is_unmarked bs k ≡ false → m ≡ marked m g
marked-stays m g k bs here same e = sym (marked-again m g (subst (λ x. is_new m x ≡ false) (sym here) (subst (λ cs. is_unmarked cs k ≡ false) same e)))

-- once more, under marks that go further
pub cancelled-again : {G O : Type 0} (m n : Marks) (p : Promise G O) → Within m n → cancelled_promise n (cancelled_promise m p) ≡ cancelled_promise n p
cancelled-again {G} {O} m n p within = again (is_theory_cancelled m p.theory) (is_settled p.standing) refl (within p.theory)
  where
    again : (a s : Bool) → is_settled p.standing ≡ s → (a ≡ true → is_theory_cancelled n p.theory ≡ true) → cancelled_promise n (if a && not s then (record { theory = p.theory; command = p.command; goal = p.goal; standing = Cancelled }) else p) ≡ cancelled_promise n p
    again false s e h = refl
    again true true e h = refl
    again true false e h = rw (h refl, e) refl

-- under the same marks
pub cancelled-twice : {G O : Type 0} (m : Marks) (p : Promise G O) → cancelled_promise m (cancelled_promise m p) ≡ cancelled_promise m p
cancelled-twice m p = cancelled-again m m p (λ i e. e)

-- a promise of another theory than the one whose group is cancelled
pub cancelled-other : {G O : Type 0} (m : Marks) (k : ℕ) (p : Promise G O) → p.theory ≢ k → cancelled_promise (marked m (Theory k)) p ≡ cancelled_promise m p
cancelled-other m k p ne = rw (marked-other m.theories k p.theory ne) refl

-- where its group isn't cancelled
pub free-stays : {G O : Type 0} (m : Marks) (p : Promise G O) → is_theory_cancelled m p.theory ≡ false → cancelled_promise m p ≡ p
free-stays m p e = rw e refl

-- where it is settled
pub settled-stays : {G O : Type 0} (m : Marks) (p : Promise G O) → is_settled p.standing ≡ true → cancelled_promise m p ≡ p
settled-stays {G} {O} m p e = by_group (is_theory_cancelled m p.theory) (is_settled p.standing) e
  where
    by_group : (a s : Bool) → s ≡ true → (if a && not s then (record { theory = p.theory; command = p.command; goal = p.goal; standing = Cancelled }) else p) ≡ p
    by_group false s e = refl
    by_group true true e = refl
    by_group true false e = search

-- a promise that is ready and stays so has a group that isn't cancelled
pub ready-free : {G O : Type 0} (m : Marks) (p : Promise G O) → cancelled_promise m p ≡ p → p.standing ≡ Ready → is_theory_cancelled m p.theory ≡ false
ready-free {G} {O} m p stays ready = by_group (is_theory_cancelled m p.theory) (is_settled p.standing) (ap is_settled ready) stays
  where
    never : ◌≡◌ {A = Standing O} Cancelled Ready → ⊥
    never e = subst IsOver e tt

    by_group : (a s : Bool) → s ≡ false → (if a && not s then (record { theory = p.theory; command = p.command; goal = p.goal; standing = Cancelled }) else p) ≡ p → a ≡ false
    by_group false s e h = refl
    by_group true false e h = absurd (never (ap (λ q. q.standing) h ∙ ready))
    by_group true true e h = search

-- a new one, that is cancelled where its group is
pub new-stays : {G O : Type 0} (m : Marks) (p : Promise G O) → p.standing ≡ (if is_theory_cancelled m p.theory then Cancelled else Ready) → cancelled_promise m p ≡ p
new-stays {G} {O} m p stands = by_group (is_theory_cancelled m p.theory) refl
  where
    by_group : (a : Bool) → is_theory_cancelled m p.theory ≡ a → cancelled_promise m p ≡ p
    by_group false e = free-stays m p e
    by_group true e =
        let here : p.standing ≡ Cancelled = rw e at stands in
        rw (e, here) refl

-- the theory is as it was
pub cancelled-theory : {G O : Type 0} (m : Marks) (p : Promise G O) → (cancelled_promise m p).theory ≡ p.theory
cancelled-theory {G} {O} m p = by_both (is_theory_cancelled m p.theory && not (is_settled p.standing))
  where
    by_both : (b : Bool) → (if b then (record { theory = p.theory; command = p.command; goal = p.goal; standing = Cancelled }) else p).theory ≡ p.theory
    by_both true = refl
    by_both false = refl
