-- What the parts of a machine hold.
use Rattle.std.specs.Prelude.{◌≡◌, ◌⊎◌, ℕ, zero, suc, Some, None, Option, slice_get, List, [], ◌∷◌, ◌++◌, map, Bool, true, false, not, if◌then◌else◌}
use Rattle.pure_text.specs.Lists.{IsIn}
use Rattle.pure_machine.specs.declared.policy.Group.{Group}
use Rattle.pure_machine.specs.declared.policy.Group.TheVariants.{Session, Theory}
use Rattle.pure_machine.specs.declared.policy.Cancel.{Cancel}
use Rattle.pure_machine.specs.Policy.{Policy, due}
use Rattle.pure_machine.specs.Buckets.{bucket}
use Rattle.pure_machine.specs.State.{Progress, Promise, Standing, Ready, Taken, Cancelled, Event, Stop, Marks, State, cancelled_promise, is_settled, marked}

-- how many workers may stop the work, and what happened
pub record Logged (G C O : Type 0) : Type 0 where
  pub workers : ℕ
  pub events : List (Event G C O)

-- the log with one event more
abbrev pub entered : {G C O : Type 0} → Logged G C O → Event G C O → Logged G C O
entered l e = record l { events = l.events ++ e ∷ [] }

-- whether a worker stopped the work
abbrev pub is_stop : {G C O : Type 0} → Event G C O → Bool
is_stop Stop = true
is_stop _ = false

-- the parents of each theory, and what became of each
pub record Stages (C : Type 0) : Type 0 where
  pub shape : List (List ℕ)
  pub progress : List (Progress C)

-- the promise that a fork makes, by whether it is cancelled at once
abbrev pub made_promise : {G O : Type 0} → (theory command : ℕ) → G → (cancelled : Bool) → Promise G O
made_promise i c g b = record { theory = i; command = c; goal = g; standing = if b then Cancelled else Ready }

-- No proof runs.
abbrev pub NoneTaken : {G O : Type 0} → List (Promise G O) → Type 0
NoneTaken {G} {O} ps = (n : ℕ) (p : Promise G O) → slice_get ps n ≡ Some p → ¬ (p.standing ≡ Taken)

-- The bucket of each number of deliveries holds all cancellations that come then, in their order.
abbrev pub IsScheduled : List Cancel → (buckets : List (List Cancel)) → Type 0
IsScheduled cs bs = (kept : ℕ) → due (bucket bs kept) kept ≡ due cs kept

-- the truth value there turned round, and false where there is none
abbrev pub is_false_there : Option Bool → Bool
is_false_there None = false
is_false_there (Some b) = not b

-- whether there is such a theory and its own group isn't cancelled
abbrev pub is_unmarked : List Bool → (number : ℕ) → Bool
is_unmarked bs zero = false
is_unmarked bs (suc i) = is_false_there (slice_get bs i)

-- whether to cancel the group changes which groups are cancelled
abbrev pub is_new : Marks → Group → Bool
is_new m Session = not m.session
is_new m (Theory i) = is_unmarked m.theories i

-- the list with what the function makes of one element in its place
abbrev pub changed_at : {A : Type 0} → (A → A) → List A → (place : ℕ) → List A
changed_at f [] n = []
changed_at f (x ∷ xs) zero = f x ∷ xs
changed_at f (x ∷ xs) (suc n) = x ∷ changed_at f xs n

-- the list with some elements changed so, one after the other
abbrev pub all_changed : {A : Type 0} → (A → A) → List A → (places : List ℕ) → List A
all_changed f xs [] = xs
all_changed f xs (n ∷ ns) = all_changed f (changed_at f xs n) ns

-- promises, and which groups of them are cancelled
pub record Grouped (G O : Type 0) : Type 0 where
  pub list : List (Promise G O)
  pub marks : Marks

-- the promises once these groups are cancelled
abbrev pub regrouped : {G O : Type 0} → Grouped G O → Marks → Grouped G O
regrouped g m = record { list = map (cancelled_promise m) g.list; marks = m }

-- the promises once these groups are cancelled beside those that are, one after the other
abbrev pub all_regrouped : {G O : Type 0} → Grouped G O → List Group → Grouped G O
all_regrouped g [] = g
all_regrouped g (x ∷ xs) = all_regrouped (regrouped g (marked g.marks x)) xs

-- The promises of cancelled groups are settled or cancelled.
abbrev pub AreFixed : {G O : Type 0} → Marks → List (Promise G O) → Type 0
AreFixed {G} {O} m ps = (n : ℕ) (p : Promise G O) → slice_get ps n ≡ Some p → cancelled_promise m p ≡ p

-- The number of each promise stands in the bucket of its theory.
abbrev pub AreListed : {G O : Type 0} → (buckets : List (List ℕ)) → List (Promise G O) → Type 0
AreListed {G} {O} bs ps = (n : ℕ) (p : Promise G O) → slice_get ps n ≡ Some p → IsIn n (bucket bs p.theory)

-- The promise may come to stand so whatever groups are cancelled: it is settled, or it was ready.
abbrev pub MayStand : {G O : Type 0} → List (Promise G O) → (number : ℕ) → Standing O → Type 0
MayStand {G} {O} ps n s = (is_settled s ≡ true) ⊎ ((p : Promise G O) × (slice_get ps n ≡ Some p) × (p.standing ≡ Ready))

-- the state of which these are the parts
abbrev pub whole : {G C O : Type 0} → Stages C → List (Promise G O) → Marks → Policy → (kept : ℕ) → (stopped : Bool) → Logged G C O → State G C O
whole t ps m p k b l = record { opening = record { shape = t.shape; policy = p; workers = l.workers }; theories = t.progress; promises = ps; cancelled = m; kept = k; stopped = b; history = l.events }
