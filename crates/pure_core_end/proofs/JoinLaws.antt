-- What theories left where all is finished.
use Rattle.std.proofs.Common.{◌≡◌, ◌∙◌, ◌<◌, ◌≤◌, ℕ, suc, ◌+◌, List, [], ◌∷◌, length, filter, filter_map, cond, nat_eq, refl, sym, ap, subst, arith, Bool, true, false, Some, slice_get, inl, inr, eq-eqb}
use Rattle.std.specs.List.{cons_option}
use Rattle.pure_text.specs.Lists.{IsIn, Each}
use Rattle.pure_text.proofs.ListLaws.{each_of, each_imply, each-right}
use Rattle.pure_machine.specs.State.{Progress, Waiting, Running, Closed, Promise, Standing, Ready, Taken, Settled, Cancelled, State, theory_at}
use Rattle.pure_machine.specs.Step.{IsClosed, IsOver, IsFinished, value_of, forks_of}
use Rattle.pure_machine.proofs.ReadyLaws.{theory_at-number}
use Rattle.pure_machine.proofs.FinishLaws.{each_element}
use Rattle.pure_core.specs.Legal.{IsLegal}
use Rattle.pure_core.proofs.RunLaws.{kept-legal}
use Rattle.pure_core.proofs.PlaceLaws.{closed_there, each_there}
use Rattle.pure_core_end.specs.Promises.{promises_of, AreInOrder}
use Rattle.pure_core_end.specs.Joined.{EndsSo, IsJoined, AreJoinedFrom, AreJoined}
use Rattle.pure_core_end.proofs.OriginLaws.{origin, length-goals_at, goal-at, origin-at}
use Rattle.pure_core_end.proofs.ToldLaws.{IsTold, told-legal}
use Rattle.pure_core_end.proofs.OrderLaws.{Rises, rises, cut}

each-filter : {A : Type 0} (P : A → Type 0) (t : A → Bool) (xs : List A) → Each P xs → Each P (filter t xs)
each-filter P t [] h = tt
each-filter {A} P t (x ∷ xs) h = by_test (t x) (each-filter P t xs h.1)
  where
    by_test : (b : Bool) → Each P (filter t xs) → Each P (cond b (x ∷ filter t xs) (filter t xs))
    by_test true rest = (h.0, rest)
    by_test false rest = rest

pub in-filter : {A : Type 0} (t : A → Bool) (x : A) (xs : List A) → IsIn x xs → t x ≡ true → IsIn x (filter t xs)
in-filter t x [] at e = absurd at
in-filter {A} t x (y ∷ ys) (inl same) e = subst (λ b. IsIn x (cond b (y ∷ filter t ys) (filter t ys))) (sym (ap t (sym same) ∙ e)) (inl same)
in-filter {A} t x (y ∷ ys) (inr there) e = by_test (t y) (in-filter t x ys there e)
  where
    by_test : (b : Bool) → IsIn x (filter t ys) → IsIn x (cond b (y ∷ filter t ys) (filter t ys))
    by_test true rest = inr rest
    by_test false rest = rest

pub filter-in : {A : Type 0} (t : A → Bool) (x : A) (xs : List A) → IsIn x (filter t xs) → IsIn x xs
filter-in t x [] at = absurd at
filter-in {A} t x (y ∷ ys) at = by_test (t y) (filter-in t x ys) at
  where
    by_test : (b : Bool) → (IsIn x (filter t ys) → IsIn x ys) → IsIn x (cond b (y ∷ filter t ys) (filter t ys)) → IsIn x (y ∷ ys)
    by_test true rest (inl same) = inl same
    by_test true rest (inr there) = inr (rest there)
    by_test false rest there = inr (rest there)

pub place-of : {A : Type 0} (x : A) (xs : List A) → IsIn x xs → (n : ℕ) × (slice_get xs n ≡ Some x)
place-of x [] at = absurd at
place-of x (y ∷ ys) (inl same) = (0, ap Some (sym same))
place-of x (y ∷ ys) (inr there) = let rest = place-of x ys there in (suc rest.0, rest.1)

-- a promise in load order is one of them
pub in-ordered : {G O : Type 0} (promises ordered : List (Promise G O)) → AreInOrder promises ordered → (p : Promise G O) → IsIn p ordered → IsIn p promises
in-ordered promises ordered in_order p at =
    let among : IsIn p (promises_of p.theory ordered) = in-filter (λ q. nat_eq q.theory p.theory) p ordered at (eq-eqb p.theory p.theory refl) in
    filter-in (λ q. nat_eq q.theory p.theory) p promises (subst (IsIn p) (in_order.same p.theory) among)

-- how a promise ends
ends-so : {G O : Type 0} (may : G → O → Type 0) (g : G) (s : Standing O) → IsOver s → ((o : O) → s ≡ Settled o → may g o) → EndsSo may g s
ends-so may g Ready over h = absurd over
ends-so may g Taken over h = absurd over
ends-so may g (Settled o) over h = h o refl
ends-so may g Cancelled over h = tt

-- what one theory left
value-so : {C : Type 0} (closes : ℕ → C → Type 0) (t : Progress C) (n : ℕ) → IsClosed t → ((k : ℕ) (c : C) → t ≡ Closed k c → closes k c × (k ≡ n)) → (c : C) × (value_of t ≡ Some c) × closes n c
value-so closes Waiting n over h = absurd over
value-so closes (Running k) n over h = absurd over
value-so closes (Closed k c) n over h = let so = h k c refl in (c, refl, subst (λ m. closes m c) so.1 so.0)

count-of : {C : Type 0} (q : Progress C) (k : ℕ) (c : C) → q ≡ Closed k c → forks_of q ≡ k
count-of q k c e = ap forks_of e

pub theory-joined : {G C O : Type 0} (shape : List (List ℕ)) (forks : ℕ → ℕ → ℕ → G → Type 0) (closes : ℕ → ℕ → C → Type 0) (may : G → O → Type 0) (is_fault : O → Bool) (s : State G C O) → IsLegal shape forks closes may is_fault s → IsFinished s
    → (i : ℕ) (t : Progress C) → theory_at s.theories i ≡ Some t → (value : C) × (value_of t ≡ Some value) × IsJoined forks closes may i value (promises_of i s.promises)
theory-joined {G} {C} {O} shape forks closes may is_fault s legal finished i t at = (
  closed.0,
  closed.1,
  record {
    closed = closed.2;
    forked = λ n p e. told.goals i n p.command p.goal (goal-at i s.promises n p e);
    ended = each-filter (λ p. EndsSo may p.goal p.standing) (λ p. nat_eq p.theory i) s.promises ended-all;
  },
)
  where
    told : IsTold forks may s
    told = told-legal shape forks closes may is_fault s legal

    ended-all : Each (λ p. EndsSo may p.goal p.standing) s.promises
    ended-all = each_element (λ p. EndsSo may p.goal p.standing) s.promises (λ n p e. ends-so may p.goal p.standing (each_there (λ q. IsOver q.standing) s.promises n p finished.promises e) (λ o standing. told.outcomes n p o e standing))

    closed : (c : C) × (value_of t ≡ Some c) × closes i (length (promises_of i s.promises)) c
    closed = value-so (closes i) t (length (promises_of i s.promises)) (closed_there s.theories i t finished.theories at) (λ k c e. (
      (kept-legal shape forks closes may is_fault s legal).closed i k c (at ∙ ap Some e),
      sym (count-of t k c e) ∙ told.count i t at ∙ length-goals_at i s.promises,
    ))

-- all from one number on
joined-from : {G C O : Type 0} (forks : ℕ → ℕ → ℕ → G → Type 0) (closes : ℕ → ℕ → C → Type 0) (may : G → O → Type 0) (ts : List (Progress C)) (i : ℕ) (ps : List (Promise G O)) → Rises i ps → Each (λ p. p.theory < i + length ts) ps
    → ((k j : ℕ) (t : Progress C) → j ≡ i + k → slice_get ts k ≡ Some t → (c : C) × (value_of t ≡ Some c) × IsJoined forks closes may j c (promises_of j ps)) → AreJoinedFrom forks closes may i (filter_map value_of ts) ps
joined-from forks closes may [] i [] r below h = refl
joined-from forks closes may [] i (p ∷ ps) r below h = absurd (omega (arith, r.0, below.0))
joined-from {G} {C} {O} forks closes may (t ∷ ts) i ps r below h =
    let parts = cut i ps r in
    let here = h 0 i t (omega arith) refl in
    subst (λ o. AreJoinedFrom forks closes may i (cons_option o (filter_map value_of ts)) ps) (sym here.1) (
      parts.0,
      parts.1,
      parts.2,
      subst (IsJoined forks closes may i here.0) parts.3 here.2,
      joined-from forks closes may ts (suc i) parts.1 parts.4
          (each_imply (λ (p : Promise G O). p.theory < i + length (t ∷ ts)) (λ p. p.theory < suc i + length ts) parts.1 (λ p low. omega (arith, low)) (each-right (λ (p : Promise G O). p.theory < i + length (t ∷ ts)) parts.0 parts.1 (subst (Each (λ p. p.theory < i + length (t ∷ ts))) parts.2 below)))
          (λ k j u e at. let there = h (suc k) j u (omega (arith, e)) at in (there.0, there.1, subst (IsJoined forks closes may j there.0) (parts.5 j (omega (arith, e))) there.2)),
    )

-- the value of each closed theory
length-values : {C : Type 0} (ts : List (Progress C)) → Each IsClosed ts → length (filter_map value_of ts) ≡ length ts
length-values [] h = refl
length-values (Waiting ∷ ts) h = absurd h.0
length-values (Running k ∷ ts) h = absurd h.0
length-values (Closed k c ∷ ts) h = ap suc (length-values ts h.1)

raised : {G O : Type 0} (a b : ℕ) (ps : List (Promise G O)) → Each (λ p. b ≤ p.theory) ps → Rises a ps → Rises b ps
raised a b [] low r = tt
raised a b (p ∷ ps) low r = (low.0, r.1)

pub core-joined : {G C O : Type 0} (shape : List (List ℕ)) (forks : ℕ → ℕ → ℕ → G → Type 0) (closes : ℕ → ℕ → C → Type 0) (may : G → O → Type 0) (is_fault : O → Bool) (s : State G C O) → IsLegal shape forks closes may is_fault s → IsFinished s
    → (values : List C) (ordered : List (Promise G O)) → values ≡ filter_map value_of s.theories → AreInOrder s.promises ordered → AreJoined shape forks closes may values ordered
core-joined {G} {C} {O} shape forks closes may is_fault s legal finished values ordered values_are in_order = record {
  all = ap length values_are ∙ length-values s.theories finished.theories ∙ told.long ∙ ap length legal.shaped;
  left = subst (λ vs. AreJoinedFrom forks closes may 1 vs ordered) (sym values_are) (joined-from forks closes may s.theories 1 ordered
      (raised 0 1 ordered (each_imply (λ (p : Promise G O). (0 < p.theory) × (p.theory ≤ length s.theories)) (λ p. 1 ≤ p.theory) ordered (λ p b. omega (arith, b.0)) bounds) (rises 0 ordered in_order.rise (λ d within. omega arith)))
      (each_imply (λ (p : Promise G O). (0 < p.theory) × (p.theory ≤ length s.theories)) (λ p. p.theory < 1 + length s.theories) ordered (λ p b. omega (arith, b.1)) bounds)
      (λ k j t e at. subst (λ ps. (c : C) × (value_of t ≡ Some c) × IsJoined forks closes may j c ps) (sym (in_order.same j)) (theory-joined shape forks closes may is_fault s legal finished j t (ap (theory_at s.theories) (e ∙ one-more k) ∙ at))));
}
  where
    told : IsTold forks may s
    told = told-legal shape forks closes may is_fault s legal

    one-more : (k : ℕ) → 1 + k ≡ suc k
    one-more k = omega arith

    bound : (p : Promise G O) → IsIn p ordered → (0 < p.theory) × (p.theory ≤ length s.theories)
    bound p at =
        let old = place-of p s.promises (in-ordered s.promises ordered in_order p at) in
        let there = told.theirs old.0 (origin p) (origin-at s.promises old.0 p old.1) in
        theory_at-number s.theories p.theory there.0 there.1

    bounds : Each (λ p. (0 < p.theory) × (p.theory ≤ length s.theories)) ordered
    bounds = each_of (λ (p : Promise G O). (0 < p.theory) × (p.theory ≤ length s.theories)) ordered bound
