-- What a take reads of the parts of a machine.
use Rattle.std.proofs.Common.{◌≡◌, ◌∙◌, ◌<◌, ℕ, List, length, refl, sym, ap, subst, inr, Bool, false, Some, slice_get}
use Rattle.std.specs.Prelude.{Result, MatchResult}
use Rattle.pure_machine.specs.declared.answers.Task as task
use Rattle.pure_machine.specs.Calls.{Takes}
use Rattle.std.proofs.lemmas.Option.{slice_get_within, same_Some}
use Rattle.pure_machine.specs.Policy.{Policy}
use Rattle.pure_machine.specs.State.{State, Promise, Standing, Ready, Taken, Marks, TakeProof, with_standing}
use Rattle.pure_machine.specs.Step.{NoTheoryReady, NoPromiseReadyBelow, IsNothingReady, IsReadyIn, IsClosed, IsFinished, IsNextPromise, after}
use Rattle.pure_machine.specs.Parts.{Stages, Logged, Grouped, NoneTaken, MayStand, entered, whole}
use Rattle.pure_text.specs.Lists.{Each}
use Rattle.pure_machine.proofs.FinishLaws.{all_over}

-- nothing is ready, by the parts
pub nothing-whole : {G C O : Type 0} (s : State G C O) (t : Stages C) (g g' : Grouped G O) (p : Policy) (k : ℕ) (b : Bool) (l : Logged G C O) → whole t g.list g.marks p k b l ≡ s → NoTheoryReady s → g' ≡ g → NoPromiseReadyBelow g.list (length g.list) → IsNothingReady (whole t g'.list g'.marks p k b l)
nothing-whole s t g g' p k b l view none same below =
    subst (λ h. IsNothingReady (whole t h.list h.marks p k b l)) (sym same) (record { theories = subst NoTheoryReady (sym view) none; promises = λ n q at. below n (slice_get_within g.list n q at) q at })

-- a promise that was found has its place
pub found-within : {G O : Type 0} (g g' : Grouped G O) (n : ℕ) → g' ≡ g → (p : Promise G O) × (slice_get g.list n ≡ Some p) × (p.standing ≡ Ready) × NoPromiseReadyBelow g.list n → n < length g'.list
found-within g g' n same found = subst (λ h. n < length h.list) (sym same) (slice_get_within g.list n found.0 found.1)

-- its proof may run
pub found-may : {G O : Type 0} (g g' : Grouped G O) (n : ℕ) (s : Standing O) → g' ≡ g → (p : Promise G O) × (slice_get g.list n ≡ Some p) × (p.standing ≡ Ready) × NoPromiseReadyBelow g.list n → MayStand g'.list n s
found-may g g' n s same found = subst (λ h. MayStand h.list n s) (sym same) (inr (found.0, found.1, found.2))

-- all is finished, by the parts
pub finished-whole : {G C O : Type 0} (s : State G C O) (t : Stages C) (ps : List (Promise G O)) (m : Marks) (p : Policy) (k : ℕ) (b : Bool) (l : Logged G C O) → whole t ps m p k b l ≡ s → s.stopped ≡ false → IsNothingReady s
    → (((i : ℕ) (cs : List C) → ¬ IsReadyIn t.shape t.progress i cs) → Each IsClosed t.progress) → NoneTaken ps → IsFinished s
finished-whole {G} {C} {O} s t ps m p k b l view going nothing closed still =
    let here : IsNothingReady (whole t ps m p k b l) = subst IsNothingReady (sym view) nothing in
    subst IsFinished view (record { goes_on = subst (λ r. r.stopped ≡ false) (sym view) going; theories = closed here.theories; promises = all_over ps (λ n within q at. here.promises n q at) still })

-- a promise that was found and taken, by the parts
pub taken-whole : {G C O : Type 0} (s : State G C O) (t : Stages C) (g g' g'' : Grouped G O) (p : Policy) (k : ℕ) (b : Bool) (l l' : Logged G C O) (n : ℕ) (q : Promise G O) → whole t g.list g.marks p k b l ≡ s → g' ≡ g
    → (x : Promise G O) × (slice_get g.list n ≡ Some x) × (x.standing ≡ Ready) × NoPromiseReadyBelow g.list n → slice_get g'.list n ≡ Some q → g'' ≡ record { list = with_standing g'.list n Taken; marks = g'.marks } → l' ≡ entered l (TakeProof n)
    → ((x : Promise G O) × IsNextPromise s n x × (q.goal ≡ x.goal)) × (whole t g''.list g''.marks p k b l' ≡ after s (TakeProof n))
taken-whole {G} {C} {O} s t g g' g'' p k b l l' n q view same found at stands e =
    let there : slice_get g.list n ≡ Some q = subst (λ h. slice_get h.list n ≡ Some q) same at in
    let goal_is : q.goal ≡ found.0.goal = ap (λ x. x.goal) (same_Some q found.0 (sym there ∙ found.1)) in
    let new : whole t g''.list g''.marks p k b l' ≡ after (whole t g.list g.marks p k b l) (TakeProof n) = rw (stands, same, e) refl in
    subst (λ r. ((x : Promise G O) × IsNextPromise r n x × (q.goal ≡ x.goal)) × (whole t g''.list g''.marks p k b l' ≡ after r (TakeProof n))) view ((found.0, (found.1, found.2, found.3), goal_is), new)

-- an answer from a state that is another
pub takes-same : {G C O E : Type 0} (r : Result (task.Task G C) E) (old s new : State G C O) → old ≡ s → MatchResult r (λ x. Takes old new x) (λ _. new ≡ old) → MatchResult r (λ x. Takes s new x) (λ _. new ≡ s)
takes-same r old s new same h = subst (λ z. MatchResult r (λ x. Takes z new x) (λ _. new ≡ z)) same h
