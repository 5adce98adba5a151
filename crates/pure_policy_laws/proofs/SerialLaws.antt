-- With one worker theories run in load order, then proofs in order of their numbers; so a promise is cancelled just where the policy asks for it by those before it.
use Rattle.std.proofs.Common.{◌≡◌, ◌≢◌, ◌∙◌, ◌≤◌, ◌<◌, ℕ, zero, suc, ◌+◌, List, [], ◌∷◌, ◌++◌, length, take, refl, sym, ap, subst, arith, Bool, true, false, if◌then◌else◌, Some, slice_get, inl, inr, ◌⊎◌}
use Rattle.std.proofs.lemmas.Option.{same_Some, none-some, slice_get_within}
use Rattle.std.proofs.lemmas.Bool.{cases_lt}
use Rattle.pure_text.specs.Lists.{IsIn}
use Rattle.pure_text.proofs.ListLaws.{each_at}
use Rattle.pure_machine.specs.Policy.{Opening}
use Rattle.pure_machine.specs.State.{Progress, Waiting, Running, Closed, Promise, Standing, Ready, Taken, Settled, Cancelled, Event, TakeTheory, Fork, CloseTheory, State, theory_at, is_theory_cancelled, is_settled, opened}
use Rattle.pure_machine.specs.Step.{Stands, IsOver, IsShape, IsNextTheory, NoneReadyBelow, closed_value, closed_values, joined_values, Allows, IsRunFrom, forked_once, closed_by, is_cancelled_standing, after, after_all}
use Rattle.pure_machine.proofs.FinishLaws.{element_there}
use Rattle.pure_machine.proofs.ReadyLaws.{no_wait}
use Rattle.pure_core.proofs.KeptLaws.{IsKept, kept-after, kept-opened}
use Rattle.pure_core_runs.specs.Seats.{IsTake}
use Rattle.pure_core_runs.proofs.ChangeLaws.{Became, stayed, was_forked, was_taken, was_settled, was_cancelled, became, Came, left_so, began, went_on, ended, came, allowed_there}
use Rattle.pure_core_runs.proofs.ToldLaws.{IsTold, told-after, told-opened, take-ready, take-waits, fork-runs, close-runs, deliver-out, opened-none, opened-waits}
use Rattle.pure_core_runs.proofs.StayLaws.{IsLater, promise-later, over-cases}
use Rattle.pure_core_runs.proofs.GroupLaws.{AreGone, gone-after, gone-opened}
use Rattle.pure_policy_laws.specs.Heeded.{is_due}
use Rattle.pure_policy_laws.proofs.CountLaws.{one_if, one_if-le}
use Rattle.pure_policy_laws.proofs.OrderLaws.{IsAmong}
use Rattle.pure_policy_laws.proofs.TallyLaws.{passes, tally, taken-now}
use Rattle.pure_policy_laws.proofs.DueLaws.{IsPolicied, policied-after, policied-opened, not_due, due-grows}

-- The proof was begun: it runs, or it is settled.
abbrev pub HasBegun : {O : Type 0} → Standing O → Type 0
HasBegun Taken = Unit {0}
HasBegun (Settled o) = Unit {0}
HasBegun _ = ⊥

-- Nothing runs.
pub record IsResting {G C O : Type 0} (s : State G C O) : Type 0 where
  pub theories : (i k : ℕ) → theory_at s.theories i ≢ Some (Running k)
  pub promises : (n : ℕ) (p : Promise G O) → Stands s n p → p.standing ≢ Taken

-- how many of the first promises are settled so
abbrev pub fronted : {G O : Type 0} → (h : ℕ → O → Bool) → (n : ℕ) → List (Promise G O) → ℕ
fronted h n ps = tally h (take n ps)

-- What is so with one worker: before a proof that was begun all are over; theories never fall, and are begun in order, one after the other; and of what is over, that is cancelled which the policy asks for by those before it.
pub record IsSerial {G C O : Type 0} (is_fault : O → Bool) (o : Opening) (s : State G C O) : Type 0 where
  pub order : (n m : ℕ) (p q : Promise G O) → n < m → Stands s n p → Stands s m q → HasBegun q.standing → IsOver p.standing
  pub rise : (n m : ℕ) (p q : Promise G O) → n ≤ m → Stands s n p → Stands s m q → p.theory ≤ q.theory
  pub moved : (n : ℕ) (p : Promise G O) → Stands s n p → theory_at s.theories p.theory ≢ Some Waiting
  pub fronts : (i j : ℕ) (q : Progress C) → i < j → theory_at s.theories i ≡ Some Waiting → theory_at s.theories j ≡ Some q → q ≡ Waiting
  pub alone : (i j k : ℕ) (q : Progress C) → i < j → theory_at s.theories i ≡ Some (Running k) → theory_at s.theories j ≡ Some q → q ≡ Waiting
  pub exact : (n : ℕ) (p : Promise G O) → Stands s n p → IsOver p.standing → is_cancelled_standing p.standing ≡ is_due o.policy (fronted (λ i x. true) n s.promises) (fronted (λ i x. is_fault x) n s.promises) p.theory

new-not_begun : (O : Type 0) (b : Bool) → HasBegun {O = O} (if b then Cancelled else Ready) → ⊥
new-not_begun O true h = h
new-not_begun O false h = h

new-over : (O : Type 0) (b : Bool) → IsOver {O = O} (if b then Cancelled else Ready) → ◌≡◌ {A = Standing O} (if b then Cancelled else Ready) Cancelled
new-over O true h = refl
new-over O false h = absurd h

passes-not_settled : {O : Type 0} (h : ℕ → O → Bool) (i : ℕ) (t : Standing O) → (is_settled t ≡ true → ⊥) → passes h i t ≡ false
passes-not_settled h i Ready none = refl
passes-not_settled h i Taken none = refl
passes-not_settled h i (Settled o) none = absurd (none refl)
passes-not_settled h i Cancelled none = refl

settled-begun : {O : Type 0} (t : Standing O) → is_settled t ≡ true → HasBegun t
settled-begun Ready is = absurd (cc)
settled-begun Taken is = tt
settled-begun (Settled o) is = tt
settled-begun Cancelled is = absurd (cc)

module _ {G O : Type 0} where
  -- a front of promises against one where more are settled
  fronted-le : (h : ℕ → O → Bool) (n : ℕ) (xs ys : List (Promise G O)) → ((k : ℕ) (x : Promise G O) → k < n → slice_get xs k ≡ Some x → (y : Promise G O) × (slice_get ys k ≡ Some y) × (passes h x.theory x.standing ≡ true → passes h y.theory y.standing ≡ true)) → fronted h n xs ≤ fronted h n ys
  fronted-le h zero xs ys f = omega arith
  fronted-le h (suc n) [] ys f = omega arith
  fronted-le h (suc n) (x ∷ xs) [] f = absurd (let at = f zero x (omega arith) refl in none-some at.0 at.1)
  fronted-le h (suc n) (x ∷ xs) (y ∷ ys) f =
      let here = f zero x (omega arith) refl in
      let one = one_if-le (passes h x.theory x.standing) (passes h y.theory y.standing) (λ is. ap (λ (z : Promise G O). passes h z.theory z.standing) (same_Some y here.0 here.1) ∙ here.2 is) in
      let rest = fronted-le h n xs ys (λ k z low at. f (suc k) z (omega arith) at) in
      omega arith

  -- where nothing from a place on is settled, the front has all
  fronted-all : (h : ℕ → O → Bool) (n : ℕ) (xs : List (Promise G O)) → ((k : ℕ) (x : Promise G O) → n ≤ k → slice_get xs k ≡ Some x → passes h x.theory x.standing ≡ false) → fronted h n xs ≡ tally h xs
  fronted-all h zero [] f = refl
  fronted-all h zero (x ∷ xs) f = let none = ap one_if (f zero x (omega arith) refl) in let rest = fronted-all h zero xs (λ k z low at. f (suc k) z (omega arith) at) in omega arith
  fronted-all h (suc n) [] f = refl
  fronted-all h (suc n) (x ∷ xs) f = ap (λ k. one_if (passes h x.theory x.standing) + k) (fronted-all h n xs (λ k z low at. f (suc k) z (omega arith) at))

module _ {G C O : Type 0} (forks : ℕ → ℕ → ℕ → G → Type 0) (closes : ℕ → ℕ → C → Type 0) (may : G → O → Type 0) (is_fault : O → Bool) (o : Opening) (shaped : IsShape o.shape) where
  module _ (s : State G C O) (e : Event G C O) (a : Allows forks closes may is_fault s e) (kept : IsKept forks closes s) (told : IsTold s) (dead : AreGone s) (due : IsPolicied {G = G} {C = C} is_fault o s) (rest : IsTake e → IsResting s) (h : IsSerial is_fault o s) where
    due-after : IsPolicied {G = G} {C = C} is_fault o (after s e)
    due-after = policied-after {G = G} {C = C} is_fault forks closes may o s e a kept told dead due

    became-by : (n : ℕ) (q : Promise G O) → Stands (after s e) n q → Became s e n q
    became-by n q at = became s e n q (allowed_there forks closes may is_fault s e a) at

    -- what a promise was
    was : (n : ℕ) (q : Promise G O) → Stands (after s e) n q → n < length s.promises → (p : Promise G O) × Stands s n p × IsLater p q
    was n q at low =
        let there = element_there s.promises n low in
        let later = promise-later forks closes may is_fault s e a kept told n there.0 there.1 in
        (there.0, there.1, subst (IsLater there.0) (same_Some later.0 q (sym later.1 ∙ at)) later.2)

    -- it is new, or was there
    old-or-new : (n : ℕ) (q : Promise G O) → Became s e n q → (n < length s.promises) ⊎ ((i : ℕ) × (m : ℕ) × (g : G) × (e ≡ Fork i m g) × (n ≡ length s.promises) × (q.theory ≡ i))
    old-or-new n q (stayed at leaves) = inl (slice_get_within s.promises n q at)
    old-or-new n q (was_forked i m g what last new) = inr (i, m, g, what, last, sym (ap (λ x. x.theory) new))
    old-or-new n q (was_taken p what at new) = inl (slice_get_within s.promises n p at)
    old-or-new n q (was_settled p x f what at lives new) = inl (slice_get_within s.promises n p at)
    old-or-new n q (was_cancelled p other m x f what apart there lives at unsettled marked new) = inl (slice_get_within s.promises n p at)

    still-over : (p q : Promise G O) → IsLater p q → IsOver p.standing → IsOver q.standing
    still-over p q later over = subst IsOver (sym (later.stays over)) over

    -- what is begun after the event was begun before it, or is taken
    order-so : (n m : ℕ) (p q : Promise G O) → n < m → Stands (after s e) n p → Became s e m q → HasBegun q.standing → IsOver p.standing
    order-so n m p q low at_p (stayed old leaves) begun = let before = was n p at_p (let within = slice_get_within s.promises m q old in omega arith) in still-over before.0 p before.2 (h.order n m before.0 q low before.1 old begun)
    order-so n m p q low at_p (was_forked i k g what last new) begun = absurd (new-not_begun O (is_theory_cancelled s.cancelled i) (subst HasBegun (sym (ap (λ x. x.standing) new)) begun))
    order-so n m p q low at_p (was_taken q0 what old new) begun =
        let before = was n p at_p (let within = slice_get_within s.promises m q0 old in omega arith) in
        still-over before.0 p before.2 (by_standing before.0 before.1 before.0.standing refl)
      where
        by_standing : (p0 : Promise G O) → Stands s n p0 → (t : Standing O) → p0.standing ≡ t → IsOver p0.standing
        by_standing p0 at Ready is = absurd ((take-ready forks closes may is_fault s e a kept told m what).1.2 n low p0 at is)
        by_standing p0 at Taken is = absurd ((rest (subst IsTake (sym what) tt)).promises n p0 at is)
        by_standing p0 at (Settled x) is = subst IsOver (sym is) tt
        by_standing p0 at Cancelled is = subst IsOver (sym is) tt
    order-so n m p q low at_p (was_settled q0 x f what old lives new) begun =
        let before = was n p at_p (let within = slice_get_within s.promises m q0 old in omega arith) in
        let taken : q0.standing ≡ Taken = taken-now forks closes may is_fault s m q0 told old (deliver-out forks closes may is_fault s e a kept told m x f what) lives in
        still-over before.0 p before.2 (h.order n m before.0 q0 low before.1 old (subst HasBegun (sym taken) tt))
    order-so n m p q low at_p (was_cancelled q0 other k x f what apart there lives old unsettled marked new) begun = absurd (subst HasBegun (sym (ap (λ y. y.standing) new)) begun)

    theory-there : (i : ℕ) → IsAmong (length o.shape) i → (q : Progress C) × (theory_at s.theories i ≡ Some q)
    theory-there zero among = absurd (let low = among.0 in omega arith)
    theory-there (suc i) among = element_there s.theories i (let same = due.stages in let high = among.1 in omega arith)

    -- a promise that was there is of no later theory than one that runs
    not-later : (n i m : ℕ) (g : G) (p : Promise G O) → e ≡ Fork i m g → Stands s n p → p.theory ≤ i
    not-later n i m g p what at = elim (cases_lt i p.theory) [
      | inl late ↦ absurd (
          let run = fork-runs forks closes may is_fault s e a kept told i m g what in
          let there = theory-there p.theory (due.among n p at) in
          h.moved n p at (there.1 ∙ ap Some (h.alone i p.theory run.0 there.0 late run.1 there.1)))
      | inr early ↦ early
    ]

    rise-so : (n m : ℕ) (p q : Promise G O) → n ≤ m → Stands (after s e) n p → Stands (after s e) m q → p.theory ≤ q.theory
    rise-so n m p q low at_p at_q = elim (old-or-new m q (became-by m q at_q)) [
      | inl within ↦ (
          let one = was n p at_p (omega arith) in
          let two = was m q at_q within in
          let before = h.rise n m one.0 two.0 low one.1 two.1 in
          let same_p = one.2.theory_is in
          let same_q = two.2.theory_is in
          omega arith)
      | inr new ↦ elim (cases_lt n m) [
        | inl below ↦ (
            let last = new.4 in
            let one = was n p at_p (omega arith) in
            let before = not-later n new.0 new.1 new.2 one.0 new.3 one.1 in
            let same_p = one.2.theory_is in
            let same_q = new.5 in
            omega arith)
        | inr above ↦ (
            let place : n ≡ m = omega arith in
            let same = ap (λ (x : Promise G O). x.theory) (same_Some p q (sym at_p ∙ ap (slice_get (after s e).promises) place ∙ at_q)) in
            omega arith)
      ]
    ]

    waits-before : (i : ℕ) → Came s e i Waiting → theory_at s.theories i ≡ Some Waiting
    waits-before i (left_so at leaves) = at
    waits-before i (began what new) = absurd (cc)
    waits-before i (went_on m g what new) = absurd (let run = fork-runs forks closes may is_fault s e a kept told i m g what in let two : ◌≡◌ {A = Progress C} (Running (run.0 + 1)) Waiting = sym (ap forked_once run.1) ∙ new in cc)
    waits-before i (ended c what new) = absurd (let run = close-runs forks closes may is_fault s e a kept told i c what in let two : ◌≡◌ {A = Progress C} (Closed run.0 c) Waiting = sym (ap (λ x. closed_by x c) run.1) ∙ new in cc)

    moved-so : (n : ℕ) (q : Promise G O) → Stands (after s e) n q → theory_at (after s e).theories q.theory ≢ Some Waiting
    moved-so n q at waits =
        let before : theory_at s.theories q.theory ≡ Some Waiting = waits-before q.theory (came s e q.theory Waiting waits) in
        elim (old-or-new n q (became-by n q at)) [
          | inl within ↦ (let one = was n q at within in h.moved n one.0 one.1 (ap (theory_at s.theories) (sym one.2.theory_is) ∙ before))
          | inr new ↦ (let run = fork-runs forks closes may is_fault s e a kept told new.0 new.1 new.2 new.3 in no_wait run.0 (same_Some (Running run.0) Waiting (sym run.1 ∙ ap (theory_at s.theories) (sym new.5) ∙ before)))
        ]

    -- below the theory that is taken none waits
    parents-closed : (numbers : List ℕ) → ((i : ℕ) → IsIn i numbers → (c : C) × (closed_value (theory_at s.theories i) ≡ Some c)) → (cs : List C) × (closed_values s.theories numbers ≡ Some cs)
    parents-closed [] f = ([], refl)
    parents-closed (i ∷ is) f =
        let one = f i (inl refl) in
        let more = parents-closed is (λ k m. f k (inr m)) in
        (one.0 ∷ more.0, ap (λ x. joined_values x (closed_values s.theories is)) one.1 ∙ ap (joined_values (Some one.0)) more.1)

    none-waits : (j : ℕ) → NoneReadyBelow o.shape s.theories j → IsResting s → (b i : ℕ) → i < b → i < j → theory_at s.theories i ≢ Some Waiting
    none-waits j none free zero i low early waits = absurd (omega arith)
    none-waits j none free (suc b) i low early waits = elim (cases_lt i b) [
      | inl below ↦ none-waits j none free b i below early waits
      | inr here ↦ not-ready i waits early (λ k less. none-waits j none free b k (omega arith) (omega arith))
    ]
      where
        not-ready : (x : ℕ) → theory_at s.theories x ≡ Some Waiting → x < j → ((k : ℕ) → k < x → theory_at s.theories k ≢ Some Waiting) → ⊥
        not-ready zero at less before = none-some Waiting at
        not-ready (suc x) at less before =
            let numbers = element_there o.shape x (let within = slice_get_within s.theories x Waiting at in let same = due.stages in omega arith) in
            let values = parents-closed numbers.0 (λ k m. closed-one k (each_at (λ (p : ℕ). (0 < p) × (p < suc x)) numbers.0 (shaped (suc x) numbers.0 numbers.1) k m)) in
            none (suc x) less values.0 (record { waits = at; numbers = numbers.0; parents_are = numbers.1; closed = values.1 })
          where
            closed-one : (k : ℕ) → (0 < k) × (k < suc x) → (c : C) × (closed_value (theory_at s.theories k) ≡ Some c)
            closed-one k bounds =
                let there = theory-there k (let low = bounds.0 in omega arith, (let high = bounds.1 in let within = slice_get_within s.theories x Waiting at in let same = due.stages in omega arith)) in
                by_progress k bounds.1 there.0 there.1
              where
                by_progress : (l : ℕ) → l < suc x → (q : Progress C) → theory_at s.theories l ≡ Some q → (c : C) × (closed_value (theory_at s.theories l) ≡ Some c)
                by_progress l high Waiting at_l = absurd (before l high at_l)
                by_progress l high (Running n) at_l = absurd (free.theories l n at_l)
                by_progress l high (Closed n c) at_l = (c, ap closed_value at_l)

    fronts-so : (i j : ℕ) (q : Progress C) → i < j → theory_at (after s e).theories i ≡ Some Waiting → Came s e j q → q ≡ Waiting
    fronts-so i j q low waits (left_so at leaves) = h.fronts i j q low (waits-before i (came s e i Waiting waits)) at
    fronts-so i j q low waits (began what new) = absurd (
        let next : (s.stopped ≡ false) × ((cs : List C) × IsNextTheory s j cs) = subst (Allows forks closes may is_fault s) what a in
        none-waits j (subst (λ x. NoneReadyBelow x.shape s.theories j) due.opening_is next.1.1.1) (rest (subst IsTake (sym what) tt)) j i low low (waits-before i (came s e i Waiting waits)))
    fronts-so i j q low waits (went_on m g what new) = absurd (let run = fork-runs forks closes may is_fault s e a kept told j m g what in no_wait run.0 (h.fronts i j (Running run.0) low (waits-before i (came s e i Waiting waits)) run.1))
    fronts-so i j q low waits (ended c what new) = absurd (let run = close-runs forks closes may is_fault s e a kept told j c what in no_wait run.0 (h.fronts i j (Running run.0) low (waits-before i (came s e i Waiting waits)) run.1))

    alone-by : (i j k : ℕ) (q : Progress C) → i < j → theory_at s.theories i ≡ Some (Running k) → Came s e j q → q ≡ Waiting
    alone-by i j k q low run_i (left_so at leaves) = h.alone i j k q low run_i at
    alone-by i j k q low run_i (began what new) = absurd ((rest (subst IsTake (sym what) tt)).theories i k run_i)
    alone-by i j k q low run_i (went_on m g what new) = absurd (let run = fork-runs forks closes may is_fault s e a kept told j m g what in no_wait run.0 (h.alone i j k (Running run.0) low run_i run.1))
    alone-by i j k q low run_i (ended c what new) = absurd (let run = close-runs forks closes may is_fault s e a kept told j c what in no_wait run.0 (h.alone i j k (Running run.0) low run_i run.1))

    alone-begun : (i j : ℕ) (q : Progress C) → i < j → e ≡ TakeTheory i → Came s e j q → q ≡ Waiting
    alone-begun i j q low what (left_so at leaves) = h.fronts i j q low (take-waits forks closes may is_fault s e a kept told i what) at
    alone-begun i j q low what (began also new) = absurd (let two : ◌≡◌ {A = Event G C O} (TakeTheory i) (TakeTheory j) = sym what ∙ also in let same : i ≡ j = cc in omega arith)
    alone-begun i j q low what (went_on m g also new) = absurd (let two : ◌≡◌ {A = Event G C O} (TakeTheory i) (Fork j m g) = sym what ∙ also in cc)
    alone-begun i j q low what (ended c also new) = absurd (let two : ◌≡◌ {A = Event G C O} (TakeTheory i) (CloseTheory j c) = sym what ∙ also in cc)

    alone-so : (i j k : ℕ) (q : Progress C) → i < j → Came s e i (Running k) → Came s e j q → q ≡ Waiting
    alone-so i j k q low (left_so at leaves) there = alone-by i j k q low at there
    alone-so i j k q low (began what new) there = alone-begun i j q low what there
    alone-so i j k q low (went_on m g what new) there = let run = fork-runs forks closes may is_fault s e a kept told i m g what in alone-by i j run.0 q low run.1 there
    alone-so i j k q low (ended c what new) there = absurd (let run = close-runs forks closes may is_fault s e a kept told i c what in let two : ◌≡◌ {A = Progress C} (Closed run.0 c) (Running k) = sym (ap (λ x. closed_by x c) run.1) ∙ new in cc)

    -- counts of fronts never fall, and stay where all in front is over
    passes-later : (t : ℕ → O → Bool) (p q : Promise G O) → IsLater p q → passes t p.theory p.standing ≡ true → passes t q.theory q.standing ≡ true
    passes-later t p q later is = ap (λ i. passes t i q.standing) later.theory_is ∙ ap (passes t p.theory) (later.stays (settled-over p.standing is)) ∙ is
      where
        settled-over : (x : Standing O) → passes t p.theory x ≡ true → IsOver x
        settled-over Ready pass = absurd (cc)
        settled-over Taken pass = absurd (cc)
        settled-over (Settled y) pass = tt
        settled-over Cancelled pass = absurd (cc)

    fronted-grows : (t : ℕ → O → Bool) (n : ℕ) → fronted t n s.promises ≤ fronted t n (after s e).promises
    fronted-grows t n = fronted-le t n s.promises (after s e).promises (λ k x low at. (let later = promise-later forks closes may is_fault s e a kept told k x at in (later.0, later.1, passes-later t x later.0 later.2)))

    fronted-stays : (t : ℕ → O → Bool) (n : ℕ) → n ≤ length s.promises → ((k : ℕ) (x : Promise G O) → k < n → Stands s k x → IsOver x.standing) → fronted t n (after s e).promises ≡ fronted t n s.promises
    fronted-stays t n within over =
        let more = fronted-grows t n in
        let less = fronted-le t n (after s e).promises s.promises (λ k y low at. (
        let before = was k y at (omega arith) in
        (before.0, before.1, λ is. ap (λ i. passes t i before.0.standing) (sym before.2.theory_is) ∙ ap (passes t y.theory) (sym (before.2.stays (over k before.0 low before.1))) ∙ is))) in
        omega arith

    -- what is due by all is due by a front behind which nothing is settled
    due-by_front : (u : State G C O) (n i : ℕ) → u.kept ≡ tally (λ j x. true) u.promises → ((k : ℕ) (x : Promise G O) → n ≤ k → Stands u k x → is_settled x.standing ≡ true → ⊥) → is_due o.policy u.kept (tally (λ j x. is_fault x) u.promises) i ≡ is_due o.policy (fronted (λ j x. true) n u.promises) (fronted (λ j x. is_fault x) n u.promises) i
    due-by_front u n i same none =
        ap (λ k. is_due o.policy k (tally (λ j x. is_fault x) u.promises) i) (same ∙ sym (fronted-all (λ j x. true) n u.promises (λ k x high at. passes-not_settled (λ j y. true) x.theory x.standing (none k x high at))))
        ∙ ap (λ f. is_due o.policy (fronted (λ j x. true) n u.promises) f i) (sym (fronted-all (λ j x. is_fault x) n u.promises (λ k x high at. passes-not_settled (λ j y. is_fault y) x.theory x.standing (none k x high at))))

    -- what is settled after the event was begun before it
    settled-before : (k : ℕ) (x : Promise G O) → Became s e k x → is_settled x.standing ≡ true → (p : Promise G O) × Stands s k p × HasBegun p.standing
    settled-before k x (stayed at leaves) is = (x, at, settled-begun x.standing is)
    settled-before k x (was_forked i m g what last new) is = absurd (new-not_begun O (is_theory_cancelled s.cancelled i) (subst HasBegun (sym (ap (λ y. y.standing) new)) (settled-begun x.standing is)))
    settled-before k x (was_taken p what at new) is = absurd (let two : ◌≡◌ {A = Bool} false true = ap (λ y. is_settled y.standing) new ∙ is in cc)
    settled-before k x (was_settled p y f what at lives new) is = (p, at, subst HasBegun (sym (taken-now forks closes may is_fault s k p told at (deliver-out forks closes may is_fault s e a kept told k y f what) lives)) tt)
    settled-before k x (was_cancelled p other m y f what apart there lives at unsettled marked new) is = absurd (let two : ◌≡◌ {A = Bool} false true = ap (λ z. is_settled z.standing) new ∙ is in cc)

    -- what is cancelled by the event is due by those before it
    newly : (n : ℕ) (q : Promise G O) → Stands (after s e) n q → q.standing ≡ Cancelled → ((k : ℕ) (p : Promise G O) → n < k → Stands s k p → HasBegun p.standing → ⊥) → is_cancelled_standing q.standing ≡ is_due o.policy (fronted (λ i x. true) n (after s e).promises) (fronted (λ i x. is_fault x) n (after s e).promises) q.theory
    newly n q at is none =
        ap is_cancelled_standing is
        ∙ sym (due-after.gone n q at is)
        ∙ due-after.due_is q.theory (due-after.among n q at)
        ∙ due-by_front (after s e) n q.theory due-after.kept_is not-behind
      where
        not-behind : (k : ℕ) (x : Promise G O) → n ≤ k → Stands (after s e) k x → is_settled x.standing ≡ true → ⊥
        not-behind k x high at_k settled = elim (cases_lt n k) [
          | inl behind ↦ (let before = settled-before k x (became-by k x at_k) settled in none k before.0 behind before.1 before.2)
          | inr here ↦ absurd (
              let place : k ≡ n = omega arith in
              let same = same_Some x q (sym at_k ∙ ap (slice_get (after s e).promises) place ∙ at) in
              let two : ◌≡◌ {A = Bool} false true = ap is_settled (sym (ap (λ (y : Promise G O). y.standing) same ∙ is)) ∙ settled in cc)
        ]

    -- what was cancelled stays due
    still-due : (n : ℕ) (p : Promise G O) (i : ℕ) → Stands s n p → p.standing ≡ Cancelled → p.theory ≡ i → true ≡ is_due o.policy (fronted (λ j x. true) n (after s e).promises) (fronted (λ j x. is_fault x) n (after s e).promises) i
    still-due n p i at is same =
        let before : is_due o.policy (fronted (λ j x. true) n s.promises) (fronted (λ j x. is_fault x) n s.promises) p.theory ≡ true = sym (h.exact n p at (subst IsOver (sym is) tt)) ∙ ap is_cancelled_standing is in
        sym (due-grows o.policy (fronted (λ j x. true) n s.promises) (fronted (λ j x. true) n (after s e).promises) (fronted (λ j x. is_fault x) n s.promises) (fronted (λ j x. is_fault x) n (after s e).promises) i (fronted-grows (λ j x. true) n) (fronted-grows (λ j x. is_fault x) n) (subst (λ y. is_due o.policy (fronted (λ j x. true) n s.promises) (fronted (λ j x. is_fault x) n s.promises) y ≡ true) same before))

    -- where all in front was over, what is due by the front stays
    due-stays : (n i : ℕ) → n ≤ length s.promises → ((k : ℕ) (x : Promise G O) → k < n → Stands s k x → IsOver x.standing) → is_due o.policy (fronted (λ j x. true) n s.promises) (fronted (λ j x. is_fault x) n s.promises) i ≡ is_due o.policy (fronted (λ j x. true) n (after s e).promises) (fronted (λ j x. is_fault x) n (after s e).promises) i
    due-stays n i within over =
        ap (λ k. is_due o.policy k (fronted (λ j x. is_fault x) n s.promises) i) (sym (fronted-stays (λ j x. true) n within over))
        ∙ ap (λ f. is_due o.policy (fronted (λ j x. true) n (after s e).promises) f i) (sym (fronted-stays (λ j x. is_fault x) n within over))

    exact-so : (n : ℕ) (q : Promise G O) → Stands (after s e) n q → IsOver q.standing → Became s e n q → is_cancelled_standing q.standing ≡ is_due o.policy (fronted (λ i x. true) n (after s e).promises) (fronted (λ i x. is_fault x) n (after s e).promises) q.theory
    exact-so n q at over (stayed old leaves) = elim (over-cases q.standing over) [
      | inl settled ↦ h.exact n q old over ∙ due-stays n q.theory (let within = slice_get_within s.promises n q old in omega arith) (λ k x low at_k. h.order k n x q low at_k old (settled-begun q.standing settled))
      | inr gone ↦ ap is_cancelled_standing gone ∙ still-due n q q.theory old gone refl
    ]
    exact-so n q at over (was_forked i m g what last new) = newly n q at (sym (ap (λ x. x.standing) new) ∙ new-over O (is_theory_cancelled s.cancelled i) (subst IsOver (sym (ap (λ x. x.standing) new)) over)) (λ k p behind at_k begun. absurd (let within = slice_get_within s.promises k p at_k in omega arith))
    exact-so n q at over (was_taken p what old new) = absurd (subst IsOver (sym (ap (λ x. x.standing) new)) over)
    exact-so n q at over (was_settled p x f what old lives new) =
        ap (λ y. is_cancelled_standing y.standing) (sym new)
        ∙ sym (not_due {G = G} {C = C} is_fault forks closes may o s e a kept told dead due n p old taken)
        ∙ due-by_front s n p.theory due.kept_is not-behind
        ∙ due-stays n p.theory (let within = slice_get_within s.promises n p old in omega arith) (λ k y low at_k. h.order k n y p low at_k old begun)
        ∙ ap (is_due o.policy (fronted (λ i y. true) n (after s e).promises) (fronted (λ i y. is_fault y) n (after s e).promises)) (ap (λ y. y.theory) new)
      where
        taken : p.standing ≡ Taken
        taken = taken-now forks closes may is_fault s n p told old (deliver-out forks closes may is_fault s e a kept told n x f what) lives

        begun : HasBegun p.standing
        begun = subst HasBegun (sym taken) tt

        not-behind : (k : ℕ) (y : Promise G O) → n ≤ k → Stands s k y → is_settled y.standing ≡ true → ⊥
        not-behind k y high at_k settled = elim (cases_lt n k) [
          | inl behind ↦ subst IsOver taken (h.order n k p y behind old at_k (settled-begun y.standing settled))
          | inr here ↦ absurd (
              let place : k ≡ n = omega arith in
              let same = same_Some y p (sym at_k ∙ ap (slice_get s.promises) place ∙ old) in
              let two : ◌≡◌ {A = Bool} false true = ap is_settled (sym (ap (λ (z : Promise G O). z.standing) same ∙ taken)) ∙ settled in cc)
        ]
    exact-so n q at over (was_cancelled p other m x f what apart there lives old unsettled marked new) = by_standing p.standing refl
      where
        goes : q.standing ≡ Cancelled
        goes = sym (ap (λ y. y.standing) new)

        by_standing : (t : Standing O) → p.standing ≡ t → is_cancelled_standing q.standing ≡ is_due o.policy (fronted (λ i y. true) n (after s e).promises) (fronted (λ i y. is_fault y) n (after s e).promises) q.theory
        by_standing Ready is = newly n q at goes (λ k y behind at_k begun. absurd (subst IsOver is (h.order n k p y behind old at_k begun)))
        by_standing Taken is = newly n q at goes (λ k y behind at_k begun. absurd (subst IsOver is (h.order n k p y behind old at_k begun)))
        by_standing (Settled y) is = absurd (let two : ◌≡◌ {A = Bool} true false = ap is_settled (sym is) ∙ unsettled in cc)
        by_standing Cancelled is = ap is_cancelled_standing goes ∙ still-due n p q.theory old is (ap (λ y. y.theory) new)

    pub serial-after : IsSerial is_fault o (after s e)
    serial-after = record {
      order = λ n m p q low at_p at_q begun. order-so n m p q low at_p (became-by m q at_q) begun;
      rise = rise-so;
      moved = moved-so;
      fronts = λ i j q low waits at. fronts-so i j q low waits (came s e j q at);
      alone = λ i j k q low run at. alone-so i j k q low (came s e i (Running k) run) (came s e j q at);
      exact = λ n q at over. exact-so n q at over (became-by n q at);
    }

  -- after a legal run in which nothing runs where something is taken
  serial-after_all : (s : State G C O) (es : List (Event G C O)) → IsRunFrom forks closes may is_fault s es → ((bs fs : List (Event G C O)) (e : Event G C O) → es ≡ bs ++ e ∷ fs → IsTake e → IsResting (after_all s bs)) → IsKept forks closes s → IsTold s → AreGone s → IsPolicied {G = G} {C = C} is_fault o s → IsSerial is_fault o s → IsSerial is_fault o (after_all s es)
  serial-after_all s [] run rests kept told dead due h = h
  serial-after_all s (e ∷ es) run rests kept told dead due h =
      serial-after_all (after s e) es run.1 (λ bs fs f cut take. rests (e ∷ bs) fs f (ap (λ l. e ∷ l) cut) take)
      (kept-after forks closes may is_fault s e run.0 kept) (told-after forks closes may is_fault s e run.0 kept told) (gone-after forks closes may is_fault s e run.0 dead)
      (policied-after {G = G} {C = C} is_fault forks closes may o s e run.0 kept told dead due)
      (serial-after s e run.0 kept told dead due (λ take. rests [] es e refl take) h)

  serial-opened : IsSerial {G = G} {C = C} is_fault o (opened o)
  serial-opened = record {
    order = λ n m p q low at_p at_q begun. absurd (opened-none G C O o n p at_p);
    rise = λ n m p q low at_p at_q. absurd (opened-none G C O o n p at_p);
    moved = λ n p at. absurd (opened-none G C O o n p at);
    fronts = λ i j q low waits at. opened-waits G C O o j q at;
    alone = λ i j k q low run at. opened-waits G C O o j q at;
    exact = λ n p at over. absurd (opened-none G C O o n p at);
  }

  pub serial-run : (es : List (Event G C O)) → IsRunFrom forks closes may is_fault (opened o) es → ((bs fs : List (Event G C O)) (e : Event G C O) → es ≡ bs ++ e ∷ fs → IsTake e → IsResting (after_all (opened o) bs)) → IsSerial is_fault o (after_all (opened o) es)
  serial-run es run rests = serial-after_all (opened o) es run rests (kept-opened forks closes o) (told-opened {G = G} {C = C} {O = O} o) (gone-opened {G = G} {C = C} {O = O} o) (policied-opened {G = G} {C = C} is_fault o) serial-opened
