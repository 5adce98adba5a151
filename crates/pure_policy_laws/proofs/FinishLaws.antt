-- What is so at Finished: which promises might be cancelled, how many are kept, and how many of these are at fault.
use Rattle.std.proofs.Common.{◌≡◌, ◌∙◌, ◌≤◌, ℕ, zero, suc, List, [], ◌∷◌, map, length, refl, sym, ap, subst, arith, Bool, true, not, ◌&&◌, Some, slice_get, inl, inr}
use Rattle.std.specs.Prelude.{IsTrue}
use Rattle.pure_text.specs.Lists.{IsIn, Each}
use Rattle.pure_text.proofs.ListLaws.{each_at, each_of}
use Rattle.pure_machine.specs.declared.policy.Group.{Group}
use Rattle.pure_machine.specs.declared.policy.Cancel.{Cancel}
use Rattle.pure_machine.specs.Policy.{Opening}
use Rattle.pure_machine.specs.State.{Promise, Standing, Ready, Taken, Settled, Cancelled, State}
use Rattle.pure_machine.specs.Step.{IsOver, IsFinished, is_cancelled_standing}
use Rattle.pure_core_end.specs.Promises.{AreInOrder}
use Rattle.pure_policy_laws.specs.Heeded.{Lot, has_theory, kept, kept_of, faults, is_due, is_licensed, is_at_fault, lot_of}
use Rattle.pure_policy_laws.proofs.CountLaws.{count-counted, counted-map, counted-agree}
use Rattle.pure_policy_laws.proofs.OrderLaws.{IsAmong, by_theory, ordered-is, count-by_theory, in-by_theory}
use Rattle.pure_policy_laws.proofs.TallyLaws.{passes, tally}
use Rattle.pure_policy_laws.proofs.DueLaws.{IsPolicied, faulty, settled_ones, settled_of}

-- where an element of a list stands
pub in-at : {A : Type 0} (x : A) (xs : List A) → IsIn x xs → (n : ℕ) × (slice_get xs n ≡ Some x)
in-at x [] m = absurd m
in-at x (y ∷ xs) m = elim m [
  | inl same ↦ (zero, ap Some (sym same))
  | inr old ↦ (let at = in-at x xs old in (suc at.0, at.1))
]

in-map_back : {A B : Type 0} (f : A → B) (y : B) (xs : List A) → IsIn y (map f xs) → (x : A) × IsIn x xs × (y ≡ f x)
in-map_back f y [] m = absurd m
in-map_back f y (x ∷ xs) m = elim m [
  | inl same ↦ (x, inl refl, same)
  | inr old ↦ (let at = in-map_back f y xs old in (at.0, inr at.1, at.2))
]

-- of a promise that is over, what a policy sees is what its outcome says
pub kept-over : {O : Type 0} (i : ℕ) (t : Standing O) → IsOver t → not (is_cancelled_standing t) ≡ passes (λ j o. true) i t
kept-over i Ready over = absurd over
kept-over i Taken over = absurd over
kept-over i (Settled o) over = refl
kept-over i Cancelled over = refl

pub group-over : {O : Type 0} (g : Group) (i : ℕ) (t : Standing O) → IsOver t → (not (is_cancelled_standing t) && has_theory g i) ≡ passes (λ j o. has_theory g j) i t
group-over g i Ready over = absurd over
group-over g i Taken over = absurd over
group-over g i (Settled o) over = refl
group-over g i Cancelled over = refl

pub fault-over : {O : Type 0} (is_fault : O → Bool) (i : ℕ) (t : Standing O) → IsOver t → (not (is_cancelled_standing t) && is_at_fault is_fault t) ≡ passes (λ j o. is_fault o) i t
fault-over is_fault i Ready over = absurd over
fault-over is_fault i Taken over = absurd over
fault-over is_fault i (Settled o) over = refl
fault-over is_fault i Cancelled over = refl

pub gone-is : {O : Type 0} (t : Standing O) → is_cancelled_standing t ≡ true → t ≡ Cancelled
gone-is Ready is = absurd (cc)
gone-is Taken is = absurd (cc)
gone-is (Settled o) is = absurd (cc)
gone-is Cancelled is = refl

module _ {G O : Type 0} (is_fault : O → Bool) where
  -- counts over promises that are over
  pub kept-is : (ps : List (Promise G O)) → ((q : Promise G O) → IsIn q ps → IsOver q.standing) → kept (map (lot_of is_fault) ps) ≡ settled_ones ps
  kept-is ps over = count-counted _ (map (lot_of is_fault) ps) ∙ counted-map _ (lot_of is_fault) ps ∙ counted-agree _ _ ps (λ q m. kept-over q.theory q.standing (over q m))

  pub faults-are : (ps : List (Promise G O)) → ((q : Promise G O) → IsIn q ps → IsOver q.standing) → faults (map (lot_of is_fault) ps) ≡ faulty is_fault ps
  faults-are ps over = count-counted _ (map (lot_of is_fault) ps) ∙ counted-map _ (lot_of is_fault) ps ∙ counted-agree _ _ ps (λ q m. fault-over is_fault q.theory q.standing (over q m))

  pub kept_of-is : (g : Group) (ps : List (Promise G O)) → ((q : Promise G O) → IsIn q ps → IsOver q.standing) → kept_of g (map (lot_of is_fault) ps) ≡ settled_of g ps
  kept_of-is g ps over = count-counted _ (map (lot_of is_fault) ps) ∙ counted-map _ (lot_of is_fault) ps ∙ counted-agree _ _ ps (λ q m. group-over g q.theory q.standing (over q m))

module _ {G C O : Type 0} (is_fault : O → Bool) where
  module _ (o : Opening) (s : State G C O) (ordered : List (Promise G O)) (h : IsPolicied {G = G} {C = C} is_fault o s) (f : IsFinished s) (order : AreInOrder s.promises ordered) where
    pub among-all : (q : Promise G O) → IsIn q s.promises → IsAmong (length o.shape) q.theory
    among-all q m = let at = in-at q s.promises m in h.among at.0 q at.1

    pub order-is : ordered ≡ by_theory (length o.shape) s.promises
    order-is = ordered-is (length o.shape) s.promises ordered order among-all

    pub in-all : (q : Promise G O) → IsIn q ordered → IsIn q s.promises
    in-all q m = (in-by_theory (length o.shape) q s.promises (subst (IsIn q) order-is m)).0

    over-all : (q : Promise G O) → IsIn q ordered → IsOver q.standing
    over-all q m = each_at (λ (p : Promise G O). IsOver p.standing) s.promises f.promises q (in-all q m)

    tally-ordered : (t : ℕ → O → Bool) → tally t ordered ≡ tally t s.promises
    tally-ordered t = ap (tally t) order-is ∙ count-by_theory (λ (p : Promise G O). passes t p.theory p.standing) (length o.shape) s.promises among-all

    pub finish-kept : kept (map (lot_of is_fault) ordered) ≡ s.kept
    finish-kept = kept-is is_fault ordered over-all ∙ tally-ordered (λ j x. true) ∙ sym h.kept_is

    pub finish-faults : faults (map (lot_of is_fault) ordered) ≡ faulty is_fault s.promises
    finish-faults = faults-are is_fault ordered over-all ∙ tally-ordered (λ j x. is_fault x)

    -- each that is cancelled might be
    pub licensed-part : Each (λ (l : Lot). IsTrue l.gone → IsTrue (is_licensed o.policy (map (lot_of is_fault) ordered) l)) (map (lot_of is_fault) ordered)
    licensed-part = each_of _ (map (lot_of is_fault) ordered) (λ l m is. shown l (in-map_back (lot_of is_fault) l ordered m) is)
      where
        shown : (l : Lot) → ((q : Promise G O) × IsIn q ordered × (l ≡ lot_of is_fault q)) → l.gone ≡ true → is_licensed o.policy (map (lot_of is_fault) ordered) l ≡ true
        shown l from is =
            let q : Promise G O = from.0 in
            let at = in-at q s.promises (in-all q from.1) in
            let gone : q.standing ≡ Cancelled = gone-is q.standing (ap (λ x. x.gone) (sym from.2) ∙ is) in
            ap (λ k. is_due o.policy k (faults (map (lot_of is_fault) ordered)) l.theory) finish-kept
            ∙ ap (λ k. is_due o.policy s.kept k l.theory) finish-faults
            ∙ ap (λ x. is_due o.policy s.kept (faulty is_fault s.promises) x.theory) from.2
            ∙ sym (h.due_is q.theory (h.among at.0 q at.1))
            ∙ h.gone at.0 q at.1 gone

    pub one_fault-part : IsTrue o.policy.fail_fast → faults (map (lot_of is_fault) ordered) ≤ 1
    one_fault-part fast = let same = finish-faults in let most = h.one_fault fast in omega arith

    pub obeyed-part : Each (λ (c : Cancel). kept_of c.group (map (lot_of is_fault) ordered) ≤ c.after) o.policy.cancels
    obeyed-part = each_of _ o.policy.cancels (λ c m. (
        let most = each_at (λ (x : Cancel). settled_of x.group s.promises ≤ x.after) o.policy.cancels h.obeyed c m in
        let same = kept_of-is is_fault c.group ordered over-all ∙ tally-ordered (λ j x. has_theory c.group j) in
        omega arith))
