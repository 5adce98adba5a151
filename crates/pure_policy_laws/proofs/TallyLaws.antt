-- What each event does to the count of kept deliveries, to the settled promises and to the cancelled groups.
use Rattle.std.proofs.Common.{◌≡◌, ◌≢◌, ◌∙◌, ◌≤◌, ◌<◌, ℕ, zero, suc, ◌+◌, List, [], ◌∷◌, map, length, set, refl, sym, ap, subst, arith, nat_eq, Bool, true, false, not, ◌&&◌, ◌||◌, if◌then◌else◌, Some, slice_get}
use Rattle.std.specs.List.{list_any}
use Rattle.std.proofs.lemmas.Bool.{eqb-true, eq-eqb}
use Rattle.pure_machine.specs.declared.policy.Group.{Group}
use Rattle.pure_machine.specs.declared.policy.Group.TheVariants.{Session, Theory}
use Rattle.pure_machine.specs.State.{Promise, Standing, Ready, Taken, Settled, Cancelled, Event, TakeTheory, TakeProof, Fork, CloseTheory, Deliver, Stop, Marks, State, with_standing, restood, is_theory_cancelled, is_marked, is_true_there, with_mark, marked, all_marked, is_settled, cancelled_promise, with_cancelled}
use Rattle.pure_machine.specs.Step.{Stands, IsOut, new_promise, is_cancelled_standing, is_cancelled_promise, cancelled_by, after, Allows}
use Rattle.pure_core.proofs.PlaceLaws.{standing_so}
use Rattle.pure_core.proofs.KeptLaws.{delivered_state}
use Rattle.pure_core_runs.proofs.ChangeLaws.{kept_state}
use Rattle.pure_core_runs.proofs.ToldLaws.{IsTold}
use Rattle.pure_policy_laws.specs.Heeded.{has_theory}
use Rattle.pure_policy_laws.proofs.CountLaws.{one_if, counted, counted-append, counted-set}

-- whether a promise is settled by an outcome that passes a test on its theory and the outcome
abbrev pub passes : {O : Type 0} → (h : ℕ → O → Bool) → (theory : ℕ) → Standing O → Bool
passes h i (Settled o) = h i o
passes h i _ = false

module _ {G O : Type 0} where
  -- how many promises are settled so
  abbrev pub tally : (h : ℕ → O → Bool) → List (Promise G O) → ℕ
  tally h ps = counted (λ (p : Promise G O). passes h p.theory p.standing) ps

  passes-cancelled : (h : ℕ → O → Bool) (m : Marks) (i c : ℕ) (g : G) (t : Standing O) (b : Bool) → passes h i (Promise.standing (if b && not (is_settled t) then (record { theory = i; command = c; goal = g; standing = Cancelled }) else (record { theory = i; command = c; goal = g; standing = t }))) ≡ passes h i t
  passes-cancelled h m i c g Ready true = refl
  passes-cancelled h m i c g Ready false = refl
  passes-cancelled h m i c g Taken true = refl
  passes-cancelled h m i c g Taken false = refl
  passes-cancelled h m i c g (Settled o) true = refl
  passes-cancelled h m i c g (Settled o) false = refl
  passes-cancelled h m i c g Cancelled true = refl
  passes-cancelled h m i c g Cancelled false = refl

  theory-cancelled : (m : Marks) (p : Promise G O) → (cancelled_promise m p).theory ≡ p.theory
  theory-cancelled m p = by_flag (is_theory_cancelled m p.theory && not (is_settled p.standing))
    where
      by_flag : (b : Bool) → Promise.theory (if b then (record { theory = p.theory; command = p.command; goal = p.goal; standing = Cancelled }) else p) ≡ p.theory
      by_flag true = refl
      by_flag false = refl

  tally-recancelled : (h : ℕ → O → Bool) (m : Marks) (ps : List (Promise G O)) → tally h (map (cancelled_promise m) ps) ≡ tally h ps
  tally-recancelled h m [] = refl
  tally-recancelled h m (p ∷ ps) =
      let one : passes h (cancelled_promise m p).theory (cancelled_promise m p).standing ≡ passes h p.theory p.standing = ap (λ i. passes h i (cancelled_promise m p).standing) (theory-cancelled m p) ∙ passes-cancelled h m p.theory p.command p.goal p.standing (is_theory_cancelled m p.theory) in
      ap (λ b. one_if b + tally h (map (cancelled_promise m) ps)) one ∙ ap (λ k. one_if (passes h p.theory p.standing) + k) (tally-recancelled h m ps)

  pub tally-with : {C : Type 0} (h : ℕ → O → Bool) (s : State G C O) (gs : List Group) → tally h (with_cancelled s gs).promises ≡ tally h s.promises
  tally-with h s [] = refl
  tally-with h s (g ∷ gs) = tally-recancelled h (all_marked s.cancelled (g ∷ gs)) s.promises

  -- a promise that stands otherwise
  tally-restood : (h : ℕ → O → Bool) (ps : List (Promise G O)) (n : ℕ) (p : Promise G O) (t : Standing O) → slice_get ps n ≡ Some p → tally h (with_standing ps n t) + one_if (passes h p.theory p.standing) ≡ tally h ps + one_if (passes h p.theory t)
  tally-restood h ps n p t at = subst (λ found. tally h (restood ps n found t) + one_if (passes h p.theory p.standing) ≡ tally h ps + one_if (passes h p.theory t)) (sym at) (counted-set (λ (q : Promise G O). passes h q.theory q.standing) ps n p (standing_so p t) at)

-- the test on marks, group by group
pub or-assoc : (a b c : Bool) → ((a || b) || c) ≡ (a || (b || c))
or-assoc true b c = refl
or-assoc false b c = refl

or-false : (a : Bool) → (a || false) ≡ a
or-false true = refl
or-false false = refl

pub or-true : (a : Bool) → (a || true) ≡ true
or-true true = refl
or-true false = refl

-- the marks have a place for the theory
abbrev pub HasPlace : List Bool → ℕ → Type 0
HasPlace bs i = (1 ≤ i) × (i ≤ length bs)

eq-differ : (a b : ℕ) → a ≢ b → nat_eq a b ≡ false
eq-differ a b other = by_flag (nat_eq a b) refl
  where
    by_flag : (c : Bool) → nat_eq a b ≡ c → nat_eq a b ≡ false
    by_flag true e = absurd (other (eqb-true a b e))
    by_flag false e = e

eq-suc : (a b : ℕ) → nat_eq (suc a) (suc b) ≡ nat_eq a b
eq-suc a b = by_flag (nat_eq a b) refl
  where
    by_flag : (c : Bool) → nat_eq a b ≡ c → nat_eq (suc a) (suc b) ≡ nat_eq a b
    by_flag true e = eq-eqb (suc a) (suc b) (ap suc (eqb-true a b e)) ∙ sym e
    by_flag false e = eq-differ (suc a) (suc b) (λ same. absurd (let lower : a ≡ b = omega arith in let found = eq-eqb a b lower in cc)) ∙ sym e

or-not_one : (a : Bool) (i : ℕ) → a ≡ (a || nat_eq zero (suc i))
or-not_one a i = sym (or-false a) ∙ ap (λ x. a || x) (sym (eq-differ zero (suc i) (λ same. absurd (omega arith))))

true-there : (bs : List Bool) (j i : ℕ) → i < length bs → is_true_there (slice_get (set bs j true) i) ≡ (is_true_there (slice_get bs i) || nat_eq j i)
true-there [] j i within = absurd (omega (arith, within))
true-there (b ∷ bs) zero zero within = sym (or-true b)
true-there (b ∷ bs) zero (suc i) within = or-not_one (is_true_there (slice_get bs i)) i
true-there (b ∷ bs) (suc j) zero within = sym (or-false b) ∙ ap (λ x. b || x) (sym (eq-differ (suc j) zero (λ same. absurd (omega arith))))
true-there (b ∷ bs) (suc j) (suc i) within = true-there bs j i (omega (arith, within)) ∙ ap (λ x. is_true_there (slice_get bs i) || x) (sym (eq-suc j i))

marked-there : (bs : List Bool) (j i : ℕ) → HasPlace bs i → is_marked (with_mark bs j) i ≡ (is_marked bs i || nat_eq j i)
marked-there bs j zero place = absurd (let low = place.0 in omega arith)
marked-there bs zero (suc i) place = or-not_one (is_true_there (slice_get bs i)) i
marked-there bs (suc j) (suc i) place = true-there bs j i (let high = place.1 in omega arith) ∙ ap (λ x. is_true_there (slice_get bs i) || x) (sym (eq-suc j i))

pub marked-is : (m : Marks) (g : Group) (i : ℕ) → HasPlace m.theories i → is_theory_cancelled (marked m g) i ≡ (is_theory_cancelled m i || has_theory g i)
marked-is m Session i place = sym (or-true (is_theory_cancelled m i))
marked-is m (Theory j) i place = ap (λ b. m.session || b) (marked-there m.theories j i place) ∙ sym (or-assoc m.session (is_marked m.theories i) (nat_eq j i))

length-mark : (bs : List Bool) (j : ℕ) → length (with_mark bs j) ≡ length bs
length-mark bs zero = refl
length-mark bs (suc j) = set-length bs j
  where
    set-length : (xs : List Bool) (k : ℕ) → length (set xs k true) ≡ length xs
    set-length [] zero = refl
    set-length [] (suc k) = refl
    set-length (x ∷ xs) zero = refl
    set-length (x ∷ xs) (suc k) = ap suc (set-length xs k)

length-marked : (m : Marks) (g : Group) → length (marked m g).theories ≡ length m.theories
length-marked m Session = refl
length-marked m (Theory j) = length-mark m.theories j

pub length-all_marked : (m : Marks) (gs : List Group) → length (all_marked m gs).theories ≡ length m.theories
length-all_marked m [] = refl
length-all_marked m (g ∷ gs) = length-all_marked (marked m g) gs ∙ length-marked m g

pub all_marked-is : (m : Marks) (gs : List Group) (i : ℕ) → HasPlace m.theories i → is_theory_cancelled (all_marked m gs) i ≡ (is_theory_cancelled m i || list_any (λ g. has_theory g i) gs)
all_marked-is m [] i place = sym (or-false (is_theory_cancelled m i))
all_marked-is m (g ∷ gs) i place =
    all_marked-is (marked m g) gs i (place.0, (let same = length-marked m g in let high = place.1 in omega arith))
    ∙ ap (λ b. b || list_any (λ x. has_theory x i) gs) (marked-is m g i place)
    ∙ or-assoc (is_theory_cancelled m i) (has_theory g i) (list_any (λ x. has_theory x i) gs)

pub cancelled-is : {G C O : Type 0} (s : State G C O) (gs : List Group) (i : ℕ) → HasPlace s.cancelled.theories i → is_theory_cancelled (with_cancelled s gs).cancelled i ≡ (is_theory_cancelled s.cancelled i || list_any (λ g. has_theory g i) gs)
cancelled-is s [] i place = sym (or-false (is_theory_cancelled s.cancelled i))
cancelled-is s (g ∷ gs) i place = all_marked-is s.cancelled (g ∷ gs) i place

pub cancelled-length : {G C O : Type 0} (s : State G C O) (gs : List Group) → length (with_cancelled s gs).cancelled.theories ≡ length s.cancelled.theories
cancelled-length s [] = refl
cancelled-length s (g ∷ gs) = length-all_marked s.cancelled (g ∷ gs)

cancelled-kept : {G C O : Type 0} (s : State G C O) (gs : List Group) → (with_cancelled s gs).kept ≡ s.kept
cancelled-kept s [] = refl
cancelled-kept s (g ∷ gs) = refl

-- The second state counts as the first and has the same groups cancelled.
pub record IsQuiet {G C O : Type 0} (s t : State G C O) : Type 0 where
  pub kept_is : t.kept ≡ s.kept
  pub marks_are : t.cancelled ≡ s.cancelled
  pub tally_is : (h : ℕ → O → Bool) → tally h t.promises ≡ tally h s.promises

-- In the second state one delivery more is kept, of this promise with this outcome, and the policy has cancelled by it.
pub record HasScored {G C O : Type 0} (s t : State G C O) (n : ℕ) (p : Promise G O) (o : O) (fault : Bool) : Type 0 where
  pub stood : Stands s n p
  pub was_taken : p.standing ≡ Taken
  pub kept_is : t.kept ≡ s.kept + 1
  pub length_is : length t.cancelled.theories ≡ length s.cancelled.theories
  pub marks_are : (i : ℕ) → HasPlace s.cancelled.theories i → is_theory_cancelled t.cancelled i ≡ (is_theory_cancelled s.cancelled i || list_any (λ g. has_theory g i) (cancelled_by s.opening.policy (s.kept + 1) fault))
  pub tally_is : (h : ℕ → O → Bool) → tally h t.promises ≡ tally h s.promises + one_if (h p.theory o)

-- An event is quiet, or a delivery that is kept.
pub data Scores {G C O : Type 0} (is_fault : O → Bool) (s : State G C O) (e : Event G C O) : Type 0 where
  quiet : IsQuiet s (after s e) → Scores is_fault s e
  scored : (n : ℕ) (p : Promise G O) (o : O) → e ≡ Deliver n o (is_fault o) → HasScored s (after s e) n p o (is_fault o) → Scores is_fault s e

passes-new : {O : Type 0} (h : ℕ → O → Bool) (i : ℕ) (b : Bool) → passes h i (if b then Cancelled else Ready) ≡ false
passes-new h i true = refl
passes-new h i false = refl

module _ {G C O : Type 0} (forks : ℕ → ℕ → ℕ → G → Type 0) (closes : ℕ → ℕ → C → Type 0) (may : G → O → Type 0) (is_fault : O → Bool) where
  pub taken-now : (s : State G C O) (n : ℕ) (p : Promise G O) → IsTold s → Stands s n p → IsOut s.history n → is_cancelled_standing p.standing ≡ false → p.standing ≡ Taken
  taken-now s n p told at out lives = by_standing p.standing refl
    where
      by_standing : (t : Standing O) → p.standing ≡ t → p.standing ≡ Taken
      by_standing Ready is = absurd (told.ready n p at is out.taken)
      by_standing Taken is = is
      by_standing (Settled o) is = absurd (let old = told.settled n p at (ap is_settled is) in out.open_still old.0 old.1 old.2)
      by_standing Cancelled is = absurd (let gone : is_cancelled_standing p.standing ≡ true = ap is_cancelled_standing is in cc)

  -- what an event that may happen does
  pub scores : (s : State G C O) (e : Event G C O) → Allows forks closes may is_fault s e → IsTold s → Scores is_fault s e
  scores s (TakeTheory i) a told = quiet (record { kept_is = refl; marks_are = refl; tally_is = λ h. refl })
  scores s (TakeProof n) a told = quiet (record {
    kept_is = refl;
    marks_are = refl;
    tally_is = λ h. (
        let p : Promise G O = a.2.0 in
        let none : one_if (passes h p.theory p.standing) ≡ 0 = ap (λ t. one_if (passes h p.theory t)) a.2.1.1 in
        let both = tally-restood h s.promises n p Taken a.2.1.0 in
        omega arith);
  })
  scores s (Fork i c g) a told = quiet (record {
    kept_is = refl;
    marks_are = refl;
    tally_is = λ h. (
        let sum = counted-append (λ (p : Promise G O). passes h p.theory p.standing) s.promises (new_promise s i c g ∷ []) in
        let none = ap one_if (passes-new h i (is_theory_cancelled s.cancelled i)) in
        omega arith);
  })
  scores s (CloseTheory i c) a told = quiet (record { kept_is = refl; marks_are = refl; tally_is = λ h. refl })
  scores s (Deliver n o fault) a told = by_flag (is_cancelled_standing old.standing) refl
    where
      old : Promise G O
      old = a.0

      between : State G C O
      between = kept_state s n o

      dropped : is_cancelled_promise (slice_get s.promises n) ≡ true → IsQuiet s (after s (Deliver n o fault))
      dropped e = subst (λ b. IsQuiet s (delivered_state s n o fault b)) (sym e) (record { kept_is = refl; marks_are = refl; tally_is = λ h. refl })

      counts : old.standing ≡ Taken → HasScored s (delivered_state s n o (is_fault o) false) n old o (is_fault o)
      counts taken = record {
        stood = a.1;
        was_taken = taken;
        kept_is = cancelled-kept between (cancelled_by s.opening.policy (s.kept + 1) (is_fault o));
        length_is = cancelled-length between (cancelled_by s.opening.policy (s.kept + 1) (is_fault o));
        marks_are = λ i place. cancelled-is between (cancelled_by s.opening.policy (s.kept + 1) (is_fault o)) i place;
        tally_is = λ h. (
            let same = tally-with h between (cancelled_by s.opening.policy (s.kept + 1) (is_fault o)) in
            let none : one_if (passes h old.theory old.standing) ≡ 0 = ap (λ t. one_if (passes h old.theory t)) taken in
            let both = tally-restood h s.promises n old (Settled o) a.1 in
            omega arith);
      }

      kept_one : is_cancelled_promise (slice_get s.promises n) ≡ false → old.standing ≡ Taken → Scores is_fault s (Deliver n o fault)
      kept_one e taken = scored n old o (ap (Deliver n o) a.4) (subst (λ f. HasScored s (after s (Deliver n o f)) n old o (is_fault o)) (sym a.4) (subst (λ b. HasScored s (delivered_state s n o (is_fault o) b) n old o (is_fault o)) (sym e) (counts taken)))

      by_flag : (b : Bool) → is_cancelled_standing old.standing ≡ b → Scores is_fault s (Deliver n o fault)
      by_flag true e = quiet (dropped (ap is_cancelled_promise a.1 ∙ e))
      by_flag false e = kept_one (ap is_cancelled_promise a.1 ∙ e) (taken-now s n old told a.1 a.2 e)
  scores s Stop a told = quiet (record { kept_is = refl; marks_are = refl; tally_is = λ h. refl })
