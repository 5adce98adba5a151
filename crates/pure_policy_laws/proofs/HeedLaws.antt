-- Of an orderly run that has come to Finished, the promises are cancelled as its policy asks for.
use Rattle.std.proofs.Common.{◌≡◌, ◌∙◌, ◌≤◌, ◌<◌, ℕ, zero, suc, ◌+◌, List, [], ◌∷◌, ◌++◌, map, length, take, refl, sym, ap, subst, arith, nat_eq, Bool, true, false, cond, ◌&&◌, Some, slice_get, inl}
use Rattle.std.proofs.lemmas.Option.{same_Some}
use Rattle.pure_text.specs.Lists.{IsIn, Each}
use Rattle.pure_text.proofs.ListLaws.{each_at, in-append_left, in-append_right}
use Rattle.pure_machine.specs.Policy.{Opening}
use Rattle.pure_machine.specs.State.{Running, Promise, Standing, Ready, Taken, Settled, Cancelled, Event, TakeTheory, TakeProof, State, is_settled, opened}
use Rattle.pure_machine.specs.Step.{Stands, IsOver, IsClosed, IsShape, IsFinished, is_cancelled_standing, after_all}
use Rattle.pure_core_end.specs.Promises.{promises_of, AreInOrder}
use Rattle.pure_core_runs.specs.Seats.{events_of, own, state_of, IsNumberedRun, HasNothingOpen, IsTake, IsOrderly}
use Rattle.pure_core_runs.proofs.SplitLaws.{entered-by, in-own}
use Rattle.pure_core_runs.proofs.ToldLaws.{IsTold}
use Rattle.pure_core_runs.proofs.SeatLaws.{run-begins, run-told, state-history}
use Rattle.pure_policy_laws.specs.Heeded.{Lot, kept, faults, is_due, is_licensed, gone_in, IsHeeded, lot_of}
use Rattle.pure_policy_laws.proofs.CountLaws.{one_if, counted, count-counted, counted-map}
use Rattle.pure_policy_laws.proofs.OrderLaws.{Rises, rising-by_theory, cut-by_theory}
use Rattle.pure_policy_laws.proofs.TallyLaws.{tally}
use Rattle.pure_policy_laws.proofs.DueLaws.{IsPolicied, policied-legal}
use Rattle.pure_policy_laws.proofs.FinishLaws.{among-all, order-is, licensed-part, one_fault-part, obeyed-part, kept-is, faults-are}
use Rattle.pure_policy_laws.proofs.SeatsOutLaws.{gone_of, in-order}
use Rattle.pure_policy_laws.proofs.SerialLaws.{IsResting, IsSerial, serial-run}

-- a cut of a mapped list is one of the list
cut_more : {A B : Type 0} (f : A → B) (x : A) (xs : List A) (b : B) (before after : List B) (y : B) → f x ≡ b → ((c : List A) × (a : List A) × (z : A) × (xs ≡ c ++ z ∷ a) × (map f c ≡ before) × (f z ≡ y)) → (c : List A) × (a : List A) × (z : A) × (x ∷ xs ≡ c ++ z ∷ a) × (map f c ≡ b ∷ before) × (f z ≡ y)
cut_more f x xs b before after y head rest = (x ∷ rest.0, rest.1, rest.2, ap (λ l. x ∷ l) rest.3, ap (λ z. z ∷ map f rest.0) head ∙ ap (λ l. b ∷ l) rest.4, rest.5)

cut_map : {A B : Type 0} (f : A → B) (xs : List A) (before after : List B) (y : B) → map f xs ≡ before ++ y ∷ after → (b : List A) × (a : List A) × (x : A) × (xs ≡ b ++ x ∷ a) × (map f b ≡ before) × (f x ≡ y)
cut_map f [] [] after y e = absurd (cc)
cut_map f [] (b ∷ before) after y e = absurd (cc)
cut_map f (x ∷ xs) [] after y e = ([], xs, x, refl, refl, cc)
cut_map f (x ∷ xs) (b ∷ before) after y e = cut_more f x xs b before after y (cc) (cut_map f xs before after y (cc))

here-at : {A : Type 0} (xs ys : List A) (x : A) → slice_get (xs ++ x ∷ ys) (length xs) ≡ Some x
here-at [] ys x = refl
here-at (z ∷ xs) ys x = here-at xs ys x

front-of : {A : Type 0} (xs ys : List A) → take (length xs) (xs ++ ys) ≡ xs
front-of [] ys = refl
front-of (x ∷ xs) ys = ap (λ l. x ∷ l) (front-of xs ys)

-- promises that never fall by their places rise
rises-of : {G O : Type 0} (ps : List (Promise G O)) → ((n m : ℕ) (p q : Promise G O) → n ≤ m → slice_get ps n ≡ Some p → slice_get ps m ≡ Some q → p.theory ≤ q.theory) → Rises ps
rises-of [] h = tt
rises-of {G} {O} (p ∷ ps) h = (above ps (λ k q at. h zero (suc k) p q (omega arith) refl at), rises-of ps (λ n m x y low at_x at_y. h (suc n) (suc m) x y (omega arith) at_x at_y))
  where
    above : (qs : List (Promise G O)) → ((k : ℕ) (q : Promise G O) → slice_get qs k ≡ Some q → p.theory ≤ q.theory) → Each (λ q. p.theory ≤ q.theory) qs
    above [] f = tt
    above (q ∷ qs) f = (f zero q refl, above qs (λ k x at. f (suc k) x at))

-- how many of a theory are gone, among those of the theory and among all
gone-among : {G O : Type 0} (i : ℕ) (ps : List (Promise G O)) → counted (gone_of i) ps ≡ counted (λ (q : Promise G O). is_cancelled_standing q.standing) (promises_of i ps)
gone-among i [] = refl
gone-among {G} {O} i (p ∷ ps) = by_flag (nat_eq p.theory i) (gone-among i ps)
  where
    none : (a : Bool) → (a && false) ≡ false
    none true = refl
    none false = refl

    same : (a : Bool) → (a && true) ≡ a
    same true = refl
    same false = refl

    by_flag : (b : Bool) → counted (gone_of i) ps ≡ counted (λ (q : Promise G O). is_cancelled_standing q.standing) (promises_of i ps) → one_if (is_cancelled_standing p.standing && b) + counted (gone_of i) ps ≡ counted (λ (q : Promise G O). is_cancelled_standing q.standing) (cond b (p ∷ promises_of i ps) (promises_of i ps))
    by_flag true rest = ap (λ a. one_if a + counted (gone_of i) ps) (same (is_cancelled_standing p.standing)) ∙ ap (λ k. one_if (is_cancelled_standing p.standing) + k) rest
    by_flag false rest = ap (λ a. one_if a + counted (gone_of i) ps) (none (is_cancelled_standing p.standing)) ∙ (let out = rest in omega arith)

gone_in-is : {G O : Type 0} (is_fault : O → Bool) (i : ℕ) (ps : List (Promise G O)) → gone_in i (map (lot_of is_fault) ps) ≡ counted (gone_of i) ps
gone_in-is is_fault i ps = count-counted _ (map (lot_of is_fault) ps) ∙ counted-map _ (lot_of is_fault) ps

-- what is over and not cancelled is settled
settled-kept : {O : Type 0} (t : Standing O) → IsOver t → is_cancelled_standing t ≡ false → is_settled t ≡ true
settled-kept Ready over is = absurd over
settled-kept Taken over is = absurd over
settled-kept (Settled x) over is = refl
settled-kept Cancelled over is = absurd (cc)

module _ {G C O : Type 0} (forks : ℕ → ℕ → ℕ → G → Type 0) (closes : ℕ → ℕ → C → Type 0) (may : G → O → Type 0) (is_fault : O → Bool) (o : Opening) (acts : List (ℕ × Event G C O)) (shaped : IsShape o.shape) (r : IsNumberedRun forks closes may is_fault o acts) (orderly : IsOrderly o acts) where
  -- with one worker nothing runs where something is taken
  same-seat : (x y : ℕ) → o.workers ≡ 1 → x < o.workers → y < o.workers → x ≡ y
  same-seat x y one low_x low_y = omega arith

  rests-at : o.workers ≡ 1 → (before after : List (ℕ × Event G C O)) (x : ℕ) (e : Event G C O) → acts ≡ before ++ (x, e) ∷ after → IsTake e → IsResting (state_of o before)
  rests-at one before after x e cut take = record {
    theories = λ i k run. (
        let closed = free.theories i (mine (TakeTheory i) (subst (IsIn (TakeTheory i)) (state-history o before) (told.moved i (Running k) run (λ two. cc)))) in
        subst IsClosed (same_Some closed.0 (Running k) (sym closed.1 ∙ run)) closed.2);
    promises = λ n p at is. (
        let over = free.promises n (mine (TakeProof n) (subst (IsIn (TakeProof n)) (state-history o before) (told.taken n p at is).taken)) in
        subst IsOver (ap (λ (y : Promise G O). y.standing) (same_Some over.0 p (sym over.1 ∙ at)) ∙ is) over.2);
  }
    where
      told : IsTold (state_of o before)
      told = run-told forks closes may is_fault o before (run-begins forks closes may is_fault o before ((x, e) ∷ after) (subst (IsNumberedRun forks closes may is_fault o) cut r))

      free : HasNothingOpen (state_of o before) (own x before)
      free = orderly x before after e cut take

      below : (a : ℕ × Event G C O) → IsIn a acts → a.0 < o.workers
      below a m = each_at (λ (y : ℕ × Event G C O). y.0 < o.workers) acts r.few a m

      mine : (f : Event G C O) → IsIn f (events_of before) → IsIn f (own x before)
      mine f m =
          let by = entered-by f before m in
          subst (λ y. IsIn f (own y before)) (same-seat by.0 x one (below (by.0, f) (subst (IsIn (by.0, f)) (sym cut) (in-append_left (by.0, f) before ((x, e) ∷ after) by.1))) (below (x, e) (subst (IsIn (x, e)) (sym cut) (in-append_right (x, e) before ((x, e) ∷ after) (inl refl))))) (in-own by.0 f before by.1)

  serial : o.workers ≡ 1 → IsSerial is_fault o (state_of o acts)
  serial one = serial-run forks closes may is_fault o shaped (events_of acts) r.run (λ bs fs e cut take. (
      let at = cut_map (λ (a : ℕ × Event G C O). a.1) acts bs fs e cut in
      subst (λ l. IsResting (after_all (opened o) l)) at.4 (rests-at one at.0 at.1 at.2.0 at.2.1 at.3 (subst IsTake (sym at.5) take))))

  module _ (ordered : List (Promise G O)) (f : IsFinished (state_of o acts)) (order : AreInOrder (state_of o acts).promises ordered) where
    s : State G C O
    s = state_of o acts

    due : IsPolicied {G = G} {C = C} is_fault o (state_of o acts)
    due = policied-legal {G = G} {C = C} is_fault forks closes may o (events_of acts) r.run

    over : (q : Promise G O) → IsIn q (state_of o acts).promises → IsOver q.standing
    over q m = each_at (λ (p : Promise G O). IsOver p.standing) (state_of o acts).promises f.promises q m

    in_order-part : (before after : List Lot) (l : Lot) → map (lot_of is_fault) ordered ≡ before ++ l ∷ after → l.gone ≡ false → gone_in l.theory before < o.workers
    in_order-part before after l cut kept_one =
        let at = cut_map (lot_of is_fault) ordered before after l cut in
        let all = cut-by_theory (length o.shape) (state_of o acts).promises at.0 at.1 at.2 (sym (order-is {G = G} {C = C} is_fault o (state_of o acts) ordered due f order) ∙ at.3) in
        let stands : is_cancelled_standing at.2.standing ≡ false = ap (λ (y : Lot). y.gone) at.5 ∙ kept_one in
        let settled = settled-kept at.2.standing (over at.2 (subst (IsIn at.2) (sym all.2) (in-append_right at.2 all.0 (at.2 ∷ all.1) (inl refl)))) stands in
        let few = in-order forks closes may is_fault o acts r orderly all.0 all.1 at.2 all.2 settled in
        let same : gone_in l.theory before ≡ counted (gone_of at.2.theory) all.0 =
        ap (λ k. gone_in k before) (sym (ap (λ (y : Lot). y.theory) at.5)) ∙ ap (gone_in at.2.theory) (sym at.4) ∙ gone_in-is is_fault at.2.theory at.0
        ∙ gone-among at.2.theory at.0 ∙ ap (counted (λ (q : Promise G O). is_cancelled_standing q.standing)) all.3 ∙ sym (gone-among at.2.theory all.0) in
        omega arith

    one_worker-part : o.workers ≡ 1 → (before after : List Lot) (l : Lot) → map (lot_of is_fault) ordered ≡ before ++ l ∷ after → l.gone ≡ is_licensed o.policy before l
    one_worker-part one before after l cut = by_cut (cut_map (lot_of is_fault) ordered before after l cut)
      where
        alone : IsSerial is_fault o (state_of o acts)
        alone = serial one

        same-order : ordered ≡ (state_of o acts).promises
        same-order = order-is {G = G} {C = C} is_fault o (state_of o acts) ordered due f order ∙ rising-by_theory (length o.shape) (state_of o acts).promises (rises-of (state_of o acts).promises alone.rise) (among-all {G = G} {C = C} is_fault o (state_of o acts) ordered due f order)

        by_cut : ((b : List (Promise G O)) × (a : List (Promise G O)) × (x : Promise G O) × (ordered ≡ b ++ x ∷ a) × (map (lot_of is_fault) b ≡ before) × (lot_of is_fault x ≡ l)) → l.gone ≡ is_licensed o.policy before l
        by_cut at =
            let is : (state_of o acts).promises ≡ at.0 ++ at.2 ∷ at.1 = sym same-order ∙ at.3 in
            let stands : Stands (state_of o acts) (length at.0) at.2 = ap (λ l. slice_get l (length at.0)) is ∙ here-at at.0 at.1 at.2 in
            let front : take (length at.0) (state_of o acts).promises ≡ at.0 = ap (take (length at.0)) is ∙ front-of at.0 (at.2 ∷ at.1) in
            let over_b : (q : Promise G O) → IsIn q at.0 → IsOver q.standing = (λ q m. over q (subst (IsIn q) (sym is) (in-append_left q at.0 (at.2 ∷ at.1) m))) in
            let here : IsOver at.2.standing = over at.2 (subst (IsIn at.2) (sym is) (in-append_right at.2 at.0 (at.2 ∷ at.1) (inl refl))) in
            ap (λ (y : Lot). y.gone) (sym at.5)
            ∙ alone.exact (length at.0) at.2 stands here
            ∙ ap (λ ps. is_due o.policy (tally (λ i x. true) ps) (tally (λ i x. is_fault x) ps) at.2.theory) front
            ∙ ap (λ k. is_due o.policy k (tally (λ i x. is_fault x) at.0) at.2.theory) (sym (kept-is is_fault at.0 over_b))
            ∙ ap (λ k. is_due o.policy (kept (map (lot_of is_fault) at.0)) k at.2.theory) (sym (faults-are is_fault at.0 over_b))
            ∙ ap (λ ls. is_due o.policy (kept ls) (faults ls) at.2.theory) at.4
            ∙ ap (λ (y : Lot). is_due o.policy (kept before) (faults before) y.theory) at.5

    pub heeded : IsHeeded o.policy o.workers (map (lot_of is_fault) ordered)
    heeded = record {
      licensed = licensed-part {G = G} {C = C} is_fault o (state_of o acts) ordered due f order;
      one_fault = one_fault-part {G = G} {C = C} is_fault o (state_of o acts) ordered due f order;
      obeyed = obeyed-part {G = G} {C = C} is_fault o (state_of o acts) ordered due f order;
      in_order = in_order-part;
      one_worker = one_worker-part;
    }
