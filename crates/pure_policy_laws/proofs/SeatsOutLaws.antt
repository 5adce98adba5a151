-- In an orderly run, before a kept promise of a theory fewer cancelled ones stand than there are workers: when it was taken, each of these was out at a seat of its own.
use Rattle.std.proofs.Common.{◌≡◌, ◌∙◌, ◌≤◌, ◌<◌, ℕ, zero, suc, ◌+◌, List, [], ◌∷◌, ◌++◌, length, refl, sym, ap, subst, arith, append_assoc, nat_eq, Bool, true, false, ◌&&◌, Some, slice_get, inl, inr}
use Rattle.std.proofs.lemmas.Option.{same_Some, none-some, slice_get_within}
use Rattle.std.proofs.lemmas.Bool.{eqb-true}
use Rattle.pure_text.specs.Lists.{IsIn, AreDistinct}
use Rattle.pure_text.proofs.ListLaws.{each_at, in-append_left, in-append_right}
use Rattle.pure_machine.specs.Policy.{Opening}
use Rattle.pure_machine.specs.State.{Promise, Standing, Ready, Taken, Settled, Cancelled, Event, TakeProof, Deliver, State, is_theory_cancelled, is_settled, opened}
use Rattle.pure_machine.specs.Step.{Stands, IsOut, IsOver, IsNextPromise, NoTheoryReady, is_cancelled_standing}
use Rattle.pure_machine.proofs.FinishLaws.{element_there}
use Rattle.pure_core_runs.specs.Seats.{events_of, own, state_of, IsNumberedRun, HasNothingOpen, IsOrderly}
use Rattle.pure_core_runs.proofs.SplitLaws.{split_in, entered-by, in-own, either_first}
use Rattle.pure_core_runs.proofs.ToldLaws.{IsTold}
use Rattle.pure_core_runs.proofs.StayLaws.{IsLater}
use Rattle.pure_core_runs.proofs.SeatLaws.{run-begins, run-told, run-allows, promise-keeps, state-history}
use Rattle.pure_core_runs.proofs.FewLaws.{few_distinct}
use Rattle.pure_core_runs.proofs.GroupLaws.{AreGone, gone-opened, gone-after_all}
use Rattle.pure_policy_laws.proofs.CountLaws.{one_if, counted}
use Rattle.pure_policy_laws.proofs.DueLaws.{IsPolicied, policied-legal}

taken-not_over : {O : Type 0} (t : Standing O) → t ≡ Taken → IsOver t → ⊥
taken-not_over t is over = subst IsOver is over

both : (a b : Bool) → (a && b) ≡ true → (a ≡ true) × (b ≡ true)
both true b e = (refl, e)
both false b e = absurd (cc)

-- whether a promise is cancelled, and of this theory
abbrev pub gone_of : {G O : Type 0} → (theory : ℕ) → Promise G O → Bool
gone_of i q = is_cancelled_standing q.standing && nat_eq q.theory i

module _ {G C O : Type 0} (forks : ℕ → ℕ → ℕ → G → Type 0) (closes : ℕ → ℕ → C → Type 0) (may : G → O → Type 0) (is_fault : O → Bool) (o : Opening) (acts : List (ℕ × Event G C O)) (r : IsNumberedRun forks closes may is_fault o acts) (orderly : IsOrderly o acts) where
  module _ (before after : List (ℕ × Event G C O)) (c m : ℕ) (cut : acts ≡ before ++ (c, TakeProof m) ∷ after) where
    whole : IsNumberedRun forks closes may is_fault o (before ++ (c, TakeProof m) ∷ after)
    whole = subst (IsNumberedRun forks closes may is_fault o) cut r

    front : IsNumberedRun forks closes may is_fault o before
    front = run-begins forks closes may is_fault o before ((c, TakeProof m) ∷ after) whole

    told : IsTold (state_of o before)
    told = run-told forks closes may is_fault o before front

    next : (p : Promise G O) × IsNextPromise (state_of o before) m p
    next = let a : ((state_of o before).stopped ≡ false) × NoTheoryReady (state_of o before) × ((p : Promise G O) × IsNextPromise (state_of o before) m p) = run-allows forks closes may is_fault o acts before after c (TakeProof m) r cut in a.2

    -- what a seat took before it takes anew is over at the later place too
    over-at : (b more : List (ℕ × Event G C O)) (x n k : ℕ) → before ≡ b ++ (x, TakeProof n) ∷ more → IsIn (x, TakeProof k) b → (q : Promise G O) → Stands (state_of o before) k q → IsOver q.standing
    over-at b more x n k is m' q at =
        let whole_cut : acts ≡ b ++ (x, TakeProof n) ∷ (more ++ (c, TakeProof m) ∷ after) = cut ∙ ap (λ l. l ++ (c, TakeProof m) ∷ after) is ∙ append_assoc b ((x, TakeProof n) ∷ more) ((c, TakeProof m) ∷ after) in
        let free : HasNothingOpen (state_of o b) (own x b) = orderly x b (more ++ (c, TakeProof m) ∷ after) (TakeProof n) whole_cut tt in
        let old = free.promises k (in-own x (TakeProof k) b m') in
        let later = promise-keeps forks closes may is_fault o b ((x, TakeProof n) ∷ more) k old.0 (subst (IsNumberedRun forks closes may is_fault o) is front) old.1 in
        let same : q ≡ later.0 = same_Some q later.0 (sym at ∙ subst (λ l. Stands (state_of o l) k later.0) (sym is) later.1) in
        subst (λ y. IsOver y.standing) (sym same) (subst IsOver (sym (later.2.stays old.2)) old.2)

    -- a seat has one proof out at most
    one-out : (x n k : ℕ) (p q : Promise G O) → IsIn (x, TakeProof n) before → IsIn (x, TakeProof k) before → Stands (state_of o before) n p → p.standing ≡ Taken → Stands (state_of o before) k q → q.standing ≡ Taken → n ≡ k
    one-out x n k p q m1 m2 at1 t1 at2 t2 =
        let s1 = split_in (x, TakeProof n) before m1 in
        elim (either_first (x, TakeProof n) (x, TakeProof k) s1.0 s1.1 (subst (IsIn (x, TakeProof k)) s1.2 m2)) [
          | inl earlier ↦ absurd (taken-not_over q.standing t2 (over-at s1.0 s1.1 x n k s1.2 earlier q at2))
          | inr rest ↦ elim rest [
            | inl same ↦ (let two : ◌≡◌ {A = Event G C O} (TakeProof k) (TakeProof n) = ap (λ y. y.1) same in cc)
            | inr later ↦ absurd (behind s1.0 s1.1 s1.2 (split_in (x, TakeProof k) s1.1 later))
          ]
        ]
      where
        behind : (b more : List (ℕ × Event G C O)) → before ≡ b ++ (x, TakeProof n) ∷ more → ((b2 : List (ℕ × Event G C O)) × (a2 : List (ℕ × Event G C O)) × (more ≡ b2 ++ (x, TakeProof k) ∷ a2)) → ⊥
        behind b more is s2 = taken-not_over p.standing t1 (over-at (b ++ (x, TakeProof n) ∷ s2.0) s2.1 x k n (is ∙ ap (λ l. b ++ (x, TakeProof n) ∷ l) s2.2 ∙ sym (append_assoc b ((x, TakeProof n) ∷ s2.0) ((x, TakeProof k) ∷ s2.1))) (in-append_right (x, TakeProof n) b ((x, TakeProof n) ∷ s2.0) (inl refl)) p at1)

    -- and the seat that takes one has none
    none-out : (n : ℕ) (p : Promise G O) → IsIn (c, TakeProof n) before → Stands (state_of o before) n p → p.standing ≡ Taken → ⊥
    none-out n p m1 at t =
        let free : HasNothingOpen (state_of o before) (own c before) = orderly c before after (TakeProof m) cut tt in
        let old = free.promises n (in-own c (TakeProof n) before m1) in
        taken-not_over p.standing t (subst (λ y. IsOver y.standing) (same_Some old.0 p (sym old.1 ∙ at)) old.2)

    -- the seat at which a promise is out
    record IsOutAt (x n : ℕ) : Type 0 where
      took : IsIn (x, TakeProof n) before
      promise : Promise G O
      stands : Stands (state_of o before) n promise
      is_taken : promise.standing ≡ Taken

    -- the seats at which the cancelled ones of a theory are out, in a part of the promises from a place on
    record AreOut (i start : ℕ) (qs : List (Promise G O)) : Type 0 where
      seats : List ℕ
      as_many : length seats ≡ counted (gone_of i) qs
      distinct : AreDistinct seats
      out : (x : ℕ) → IsIn x seats → (n : ℕ) × (start ≤ n) × IsOutAt x n

    out-more : (i start : ℕ) (q : Promise G O) (qs : List (Promise G O)) → (gone_of i q ≡ true → (x : ℕ) × IsOutAt x start) → AreOut i (suc start) qs → AreOut i start (q ∷ qs)
    out-more i start q qs here rest = by_flag (gone_of i q) refl
      where
        by_flag : (b : Bool) → gone_of i q ≡ b → AreOut i start (q ∷ qs)
        by_flag true is = record {
          seats = new.0 ∷ rest.seats;
          as_many = (let same = rest.as_many in let bit = ap one_if is in omega arith);
          distinct = (λ m1. absurd (apart (rest.out new.0 m1)), rest.distinct);
          out = λ x m1. elim m1 [
            | inl same ↦ (start, omega arith, subst (λ y. IsOutAt y start) (sym same) new.1)
            | inr old ↦ (let at = rest.out x old in let low = at.1 in (at.0, omega arith, at.2))
          ];
        }
          where
            new : (x : ℕ) × IsOutAt x start
            new = here is

            apart : ((n : ℕ) × (suc start ≤ n) × IsOutAt new.0 n) → ⊥
            apart at =
                let low = at.1 in
                let same = one-out new.0 start at.0 new.1.promise at.2.promise new.1.took at.2.took new.1.stands new.1.is_taken at.2.stands at.2.is_taken in
                absurd (omega arith)
        by_flag false is = record {
          seats = rest.seats;
          as_many = (let same = rest.as_many in let bit = ap one_if is in omega arith);
          distinct = rest.distinct;
          out = λ x m1. (let at = rest.out x m1 in let low = at.1 in (at.0, omega arith, at.2));
        }

    outs : (i start : ℕ) (qs : List (Promise G O)) → ((k : ℕ) (q : Promise G O) → slice_get qs k ≡ Some q → gone_of i q ≡ true → (x : ℕ) × IsOutAt x (start + k)) → AreOut i start qs
    outs i start [] known = record { seats = []; as_many = refl; distinct = tt; out = λ x m1. absurd m1 }
    outs i start (q ∷ qs) known = out-more i start q qs (λ is. subst (λ n. (x : ℕ) × IsOutAt x n) (plus-none start) (known zero q refl is)) (outs i (suc start) qs (λ k p at is. subst (λ n. (x : ℕ) × IsOutAt x n) (plus-next start k) (known (suc k) p at is)))
      where
        plus-none : (a : ℕ) → a + 0 ≡ a
        plus-none a = omega arith

        plus-next : (a k : ℕ) → a + suc k ≡ suc a + k
        plus-next a k = omega arith

    -- a cancelled promise of the theory, forked before the one that is taken, is out
    was-out : (p : Promise G O) (n : ℕ) (q : Promise G O) → Stands (state_of o acts) m p → n < m → Stands (state_of o acts) n q → gone_of p.theory q ≡ true → (x : ℕ) × IsOutAt x n
    was-out p n q at_p low at_q is = out-of (by_standing old.standing refl)
      where
        s : State G C O
        s = state_of o before

        there : (q' : Promise G O) × Stands s n q'
        there = element_there s.promises n (let within = slice_get_within s.promises m next.0 next.1.0 in omega arith)

        old : Promise G O
        old = there.0

        later-q : IsLater old q
        later-q = let later = promise-keeps forks closes may is_fault o before ((c, TakeProof m) ∷ after) n old whole there.1 in subst (IsLater old) (same_Some later.0 q (sym (subst (λ l. Stands (state_of o l) n later.0) (sym cut) later.1) ∙ at_q)) later.2

        later-p : IsLater next.0 p
        later-p = let later = promise-keeps forks closes may is_fault o before ((c, TakeProof m) ∷ after) m next.0 whole next.1.0 in subst (IsLater next.0) (same_Some later.0 p (sym (subst (λ l. Stands (state_of o l) m later.0) (sym cut) later.1) ∙ at_p)) later.2

        parts : (is_cancelled_standing q.standing ≡ true) × (nat_eq q.theory p.theory ≡ true)
        parts = both (is_cancelled_standing q.standing) (nat_eq q.theory p.theory) is

        same-theory : old.theory ≡ next.0.theory
        same-theory = sym later-q.theory_is ∙ eqb-true q.theory p.theory parts.1 ∙ later-p.theory_is

        dead : AreGone s
        dead = gone-after_all forks closes may is_fault (opened o) (events_of before) front.run (gone-opened {G = G} {C = C} {O = O} o)

        due : IsPolicied {G = G} {C = C} is_fault o s
        due = policied-legal {G = G} {C = C} is_fault forks closes may o (events_of before) front.run

        by_standing : (t : Standing O) → old.standing ≡ t → old.standing ≡ Taken
        by_standing Ready e = absurd (next.1.2 n low old there.1 e)
        by_standing Taken e = e
        by_standing (Settled x) e = absurd (
            let stays : q.standing ≡ old.standing = later-q.stays (subst IsOver (sym e) tt) in
            let gone : is_cancelled_standing q.standing ≡ false = ap is_cancelled_standing (stays ∙ e) in
            let same = parts.0 in cc)
        by_standing Cancelled e = absurd (subst IsOver next.1.1 (dead.gone m next.0 next.1.0 (ap (is_theory_cancelled s.cancelled) (sym same-theory) ∙ due.gone n old there.1 e)))

        out-of : old.standing ≡ Taken → (x : ℕ) × IsOutAt x n
        out-of e =
            let by = entered-by (TakeProof n) before (subst (IsIn (TakeProof n)) (state-history o before) (told.taken n old there.1 e).taken) in
            (by.0, record { took = by.1; promise = old; stands = there.1; is_taken = e })

    in-front-at : (b a : List (Promise G O)) (p : Promise G O) (k : ℕ) (q : Promise G O) → slice_get b k ≡ Some q → slice_get (b ++ p ∷ a) k ≡ Some q
    in-front-at [] a p k q at = absurd (none-some q at)
    in-front-at (y ∷ b) a p zero q at = at
    in-front-at (y ∷ b) a p (suc k) q at = in-front-at b a p k q at

    -- so there are fewer of them than workers
    pub few-gone : (b a : List (Promise G O)) (p : Promise G O) → (state_of o acts).promises ≡ b ++ p ∷ a → m ≡ length b → Stands (state_of o acts) m p → counted (gone_of p.theory) b < o.workers
    few-gone b a p is place at =
        let most = few_distinct o.workers (c ∷ all.seats) ((λ m1. absurd (unlike (all.out c m1))), all.distinct) below in
        let same = all.as_many in
        omega arith
      where
        all : AreOut p.theory zero b
        all = outs p.theory zero b (λ k q at_q gone. (
            let low = slice_get_within b k q at_q in
            let here : Stands (state_of o acts) k q = ap (λ l. slice_get l k) is ∙ in-front-at b a p k q at_q in
            subst (λ n. (x : ℕ) × IsOutAt x n) (zero-plus k) (was-out p k q at (omega arith) here gone)))
          where
            zero-plus : (k : ℕ) → k ≡ 0 + k
            zero-plus k = omega arith

        unlike : ((n : ℕ) × (zero ≤ n) × IsOutAt c n) → ⊥
        unlike w = none-out w.0 w.2.promise w.2.took w.2.stands w.2.is_taken

        in_acts : (x : ℕ) (e : Event G C O) → IsIn (x, e) before → IsIn (x, e) acts
        in_acts x e m1 = subst (IsIn (x, e)) (sym cut) (in-append_left (x, e) before ((c, TakeProof m) ∷ after) m1)

        below : (x : ℕ) → IsIn x (c ∷ all.seats) → x < o.workers
        below x m1 = elim m1 [
          | inl same ↦ subst (λ y. y < o.workers) (sym same) (each_at (λ (e : ℕ × Event G C O). e.0 < o.workers) acts r.few (c, TakeProof m) (subst (IsIn (c, TakeProof m)) (sym cut) (in-append_right (c, TakeProof m) before ((c, TakeProof m) ∷ after) (inl refl))))
          | inr old ↦ (let w = all.out x old in each_at (λ (e : ℕ × Event G C O). e.0 < o.workers) acts r.few (x, TakeProof w.0) (in_acts x (TakeProof w.0) w.2.took))
        ]

  -- a promise that is settled was taken
  pub was-taken : (m : ℕ) (p : Promise G O) → Stands (state_of o acts) m p → is_settled p.standing ≡ true → (c : ℕ) × IsIn (c, TakeProof m) acts
  was-taken m p at is =
      let told = run-told forks closes may is_fault o acts r in
      let given = told.settled m p at is in
      let by = entered-by (Deliver m given.0 given.1) acts (subst (IsIn (Deliver m given.0 given.1)) (state-history o acts) given.2) in
      let s1 = split_in (by.0, Deliver m given.0 given.1) acts by.1 in
      let a : (q : Promise G O) × Stands (state_of o s1.0) m q × IsOut (state_of o s1.0).history m × may q.goal given.0 × (given.1 ≡ is_fault given.0) = run-allows forks closes may is_fault o acts s1.0 s1.1 by.0 (Deliver m given.0 given.1) r s1.2 in
      let took = entered-by (TakeProof m) s1.0 (subst (IsIn (TakeProof m)) (state-history o s1.0) a.2.taken) in
      (took.0, subst (IsIn (took.0, TakeProof m)) (sym s1.2) (in-append_left (took.0, TakeProof m) s1.0 ((by.0, Deliver m given.0 given.1) ∷ s1.1) took.1))

  pub in-order : (b a : List (Promise G O)) (p : Promise G O) → (state_of o acts).promises ≡ b ++ p ∷ a → is_settled p.standing ≡ true → counted (gone_of p.theory) b < o.workers
  in-order b a p is settled =
      let at : Stands (state_of o acts) (length b) p = ap (λ l. slice_get l (length b)) is ∙ here b in
      let took = was-taken (length b) p at settled in
      let s1 = split_in (took.0, TakeProof (length b)) acts took.1 in
      few-gone s1.0 s1.1 took.0 (length b) s1.2 b a p is refl at
    where
      here : (xs : List (Promise G O)) → slice_get (xs ++ p ∷ a) (length xs) ≡ Some p
      here [] = refl
      here (x ∷ xs) = here xs
