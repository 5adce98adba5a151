-- The state of a machine: what became of each theory and of each promise, and how it came to be so.
use Rattle.std.specs.Prelude.{ℕ, zero, suc, List, [], ◌∷◌, map, Bool, true, false, ◌&&◌, ◌||◌, not, if◌then◌else◌, Option, Some, None, slice_get, slice_set}
use Rattle.pure_machine.specs.declared.policy.Group.{Group}
use Rattle.pure_machine.specs.declared.policy.Group.TheVariants.{Session, Theory}
use Rattle.pure_machine.specs.Policy.{Opening, due}

-- what became of a theory: it waits; or it runs, and its commands have made so many forks; or a value closed it after so many
pub data Progress (C : Type 0) : Type 0 where
  Waiting : Progress C
  Running : (forks : ℕ) → Progress C
  Closed : (forks : ℕ) → (value : C) → Progress C

-- what became of a promise: it is ready; or its proof runs; or it is settled by an outcome; or it is cancelled
pub data Standing (O : Type 0) : Type 0 where
  Ready : Standing O
  Taken : Standing O
  Settled : (outcome : O) → Standing O
  Cancelled : Standing O

-- a promise: the theory whose command forked it, the place of this command from 0, its goal, and what became of it
pub record Promise (G O : Type 0) : Type 0 where
  pub theory : ℕ
  pub command : ℕ
  pub goal : G
  pub standing : Standing O

-- what happens to a machine: a theory or a proof is taken; a running theory forks a promise under a command, with a goal, or is closed by a value; a proof's outcome is delivered, which is a fault or none; a worker stops the work
pub data Event (G C O : Type 0) : Type 0 where
  TakeTheory : (number : ℕ) → Event G C O
  TakeProof : (number : ℕ) → Event G C O
  Fork : (theory command : ℕ) → (goal : G) → Event G C O
  CloseTheory : (number : ℕ) → (value : C) → Event G C O
  Deliver : (number : ℕ) → (outcome : O) → (fault : Bool) → Event G C O
  Stop : Event G C O

-- which groups are cancelled: whether the session's is, and of theory i entry i - 1 says it
pub record Marks : Type 0 where
  pub session : Bool
  pub theories : List Bool

-- a state: what became of theory i is entry i - 1, promise n is entry n; the cancelled groups; how many deliveries were kept; whether the work was stopped; and all events so far, in order
pub record State (G C O : Type 0) : Type 0 where
  pub opening : Opening
  pub theories : List (Progress C)
  pub promises : List (Promise G O)
  pub cancelled : Marks
  pub kept : ℕ
  pub stopped : Bool
  pub history : List (Event G C O)

-- what became of the theory of this number, if there is one
abbrev pub theory_at : {C : Type 0} → List (Progress C) → (number : ℕ) → Option (Progress C)
theory_at ts zero = None
theory_at ts (suc i) = slice_get ts i

-- the numbers of its parents
abbrev pub parents_at : List (List ℕ) → (number : ℕ) → Option (List ℕ)
parents_at ps zero = None
parents_at ps (suc i) = slice_get ps i

-- the theories, of which this one has come so far
abbrev pub with_progress : {C : Type 0} → List (Progress C) → (number : ℕ) → Progress C → List (Progress C)
with_progress ts zero p = ts
with_progress ts (suc i) p = slice_set ts i p

-- the promises with this one in the place of what stood there
abbrev pub restood : {G O : Type 0} → List (Promise G O) → (number : ℕ) → Option (Promise G O) → Standing O → List (Promise G O)
restood ps n None s = ps
restood ps n (Some p) s = slice_set ps n (record { theory = p.theory; command = p.command; goal = p.goal; standing = s })

-- the promises, of which this one stands so
abbrev pub with_standing : {G O : Type 0} → List (Promise G O) → (number : ℕ) → Standing O → List (Promise G O)
with_standing ps n s = restood ps n (slice_get ps n) s

-- the truth value there, and false where there is none
abbrev pub is_true_there : Option Bool → Bool
is_true_there None = false
is_true_there (Some b) = b

-- whether the theory's own group is cancelled
abbrev pub is_marked : List Bool → (number : ℕ) → Bool
is_marked bs zero = false
is_marked bs (suc i) = is_true_there (slice_get bs i)

-- whether the promises of the theory are in a cancelled group: its own, or the session's above
abbrev pub is_theory_cancelled : Marks → (number : ℕ) → Bool
is_theory_cancelled m i = m.session || is_marked m.theories i

-- the list with a mark for the theory, if there is one
abbrev pub with_mark : List Bool → (number : ℕ) → List Bool
with_mark bs zero = bs
with_mark bs (suc i) = slice_set bs i true

-- the cancelled groups and this one
abbrev pub marked : Marks → Group → Marks
marked m Session = record { session = true; theories = m.theories }
marked m (Theory i) = record { session = m.session; theories = with_mark m.theories i }

-- the cancelled groups and these
abbrev pub all_marked : Marks → List Group → Marks
all_marked m [] = m
all_marked m (g ∷ gs) = all_marked (marked m g) gs

-- whether the promise is settled
abbrev pub is_settled : {O : Type 0} → Standing O → Bool
is_settled (Settled o) = true
is_settled _ = false

-- the promise, cancelled where its group or the one above is, unless it is settled
abbrev pub cancelled_promise : {G O : Type 0} → Marks → Promise G O → Promise G O
cancelled_promise m p = if is_theory_cancelled m p.theory && not (is_settled p.standing) then record { theory = p.theory; command = p.command; goal = p.goal; standing = Cancelled } else p

-- the state in which these groups are cancelled, and so are their promises that aren't settled
abbrev pub recancelled : {G C O : Type 0} → State G C O → Marks → State G C O
recancelled s m = record s { promises = map (cancelled_promise m) s.promises; cancelled = m }

-- the state once these groups are cancelled, if there are any: each of their promises that isn't settled is, and so are those that are forked there later
abbrev pub with_cancelled : {G C O : Type 0} → State G C O → List Group → State G C O
with_cancelled s [] = s
with_cancelled s (g ∷ gs) = recancelled s (all_marked s.cancelled (g ∷ gs))

-- all theories of the shape, each of which waits
abbrev pub waiting : {C : Type 0} → List (List ℕ) → List (Progress C)
waiting = map (λ _. Waiting)

-- no group cancelled
abbrev pub unmarked : List (List ℕ) → Marks
unmarked shape = record { session = false; theories = map (λ _. false) shape }

-- the state at the opening: all theories wait, there is no promise, and the groups whose number is 0 are cancelled
abbrev pub opened : {G C O : Type 0} → Opening → State G C O
opened o = with_cancelled (record { opening = o; theories = waiting o.shape; promises = []; cancelled = unmarked o.shape; kept = 0; stopped = false; history = [] }) (due o.policy.cancels 0)
