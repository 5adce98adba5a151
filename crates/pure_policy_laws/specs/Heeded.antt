-- Which promises may be cancelled: a condition on the policy, the number of workers and the promises in order of their theories, without any history.
use Rattle.std.specs.Prelude.{◌≡◌, ℕ, ◌<◌, ◌≤◌, Bool, true, false, IsTrue, not, ◌&&◌, ◌||◌, List, ◌∷◌, ◌++◌, nat_le, nat_eq}
use Rattle.std.specs.List.{list_any, count_by}
use Rattle.pure_text.specs.Lists.{Each}
use Rattle.pure_machine.specs.declared.policy.Group.{Group}
use Rattle.pure_machine.specs.declared.policy.Group.TheVariants.{Session, Theory}
use Rattle.pure_machine.specs.declared.policy.Cancel.{Cancel}
use Rattle.pure_machine.specs.Policy.{Policy}
use Rattle.pure_machine.specs.State.{Standing, Settled, Promise}
use Rattle.pure_machine.specs.Step.{is_cancelled_standing}

-- a promise as a policy sees it: its theory, whether it is cancelled, and whether its outcome is a fault
pub record Lot : Type 0 where
  pub theory : ℕ
  pub gone : Bool
  pub fault : Bool

-- whether the group has the promises of the theory: the session has those of each
abbrev pub has_theory : Group → (theory : ℕ) → Bool
has_theory Session i = true
has_theory (Theory j) i = nat_eq j i

-- whether it is kept, which is whether it isn't cancelled
abbrev pub is_kept : Lot → Bool
is_kept l = not l.gone

-- how many are kept
abbrev pub kept : List Lot → ℕ
kept ls = count_by is_kept ls

-- how many of a group are kept
abbrev pub kept_of : Group → List Lot → ℕ
kept_of g ls = count_by (λ l. is_kept l && has_theory g l.theory) ls

-- how many kept ones are at fault
abbrev pub faults : List Lot → ℕ
faults ls = count_by (λ l. is_kept l && l.fault) ls

-- whether the cancellation has come for a theory, where so many are kept
abbrev pub has_come : (count theory : ℕ) → Cancel → Bool
has_come count i c = has_theory c.group i && nat_le c.after count

-- whether the promises of a theory are to be cancelled, where so many are kept and so many of these at fault: one is, and the first fault cancels all, or a cancellation of a group of the theory has come
abbrev pub is_due : Policy → (count faulty theory : ℕ) → Bool
is_due p count faulty i = (p.fail_fast && nat_le 1 faulty) || list_any (has_come count i) p.cancels

-- whether the promise may be cancelled where these became so
abbrev pub is_licensed : Policy → List Lot → Lot → Bool
is_licensed p ls l = is_due p (kept ls) (faults ls) l.theory

-- how many promises of the theory are cancelled
abbrev pub gone_in : (theory : ℕ) → List Lot → ℕ
gone_in i ls = count_by (λ l. l.gone && nat_eq l.theory i) ls

-- Of the promises, in order of their theories and of their numbers, those are cancelled that the policy asks for: each that is cancelled might be, as all became; where the first fault cancels all, one kept promise at most is at fault; of a group that is cancelled after some number no more are kept;
-- in each theory fewer cancelled promises than there are workers stand before a kept one; and with one worker a promise is cancelled exactly where it might be by those before it.
pub record IsHeeded (p : Policy) (workers : ℕ) (ls : List Lot) : Type 0 where
  pub licensed : Each (λ l. IsTrue l.gone → IsTrue (is_licensed p ls l)) ls
  pub one_fault : IsTrue p.fail_fast → faults ls ≤ 1
  pub obeyed : Each (λ c. kept_of c.group ls ≤ c.after) p.cancels
  pub in_order : (before after : List Lot) (l : Lot) → ls ≡ before ++ l ∷ after → l.gone ≡ false → gone_in l.theory before < workers
  pub one_worker : workers ≡ 1 → (before after : List Lot) (l : Lot) → ls ≡ before ++ l ∷ after → l.gone ≡ is_licensed p before l

-- whether a promise that stands so has a fault as its outcome
abbrev pub is_at_fault : {O : Type 0} → (is_fault : O → Bool) → Standing O → Bool
is_at_fault is_fault (Settled outcome) = is_fault outcome
is_at_fault is_fault _ = false

-- a promise as a policy sees it
abbrev pub lot_of : {G O : Type 0} → (is_fault : O → Bool) → Promise G O → Lot
lot_of is_fault p = record { theory = p.theory; gone = is_cancelled_standing p.standing; fault = is_at_fault is_fault p.standing }
