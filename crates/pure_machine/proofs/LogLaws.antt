-- How often the work was stopped, one event further.
use Rattle.std.proofs.Common.{◌≡◌, ℕ, ◌+◌, List, [], ◌∷◌, ◌++◌, refl, ap, Bool, true, false}
use Rattle.pure_machine.specs.State.{Event, TakeTheory, TakeProof, Fork, CloseTheory, Deliver, Stop}
use Rattle.pure_machine.specs.Step.{stops}
use Rattle.pure_machine.specs.Parts.{is_stop}

-- an event that is no stop leaves the count
pub stops-other : {G C O : Type 0} (es : List (Event G C O)) (e : Event G C O) → is_stop e ≡ false → stops (es ++ e ∷ []) ≡ stops es
stops-other [] (TakeTheory i) h = refl
stops-other [] (TakeProof n) h = refl
stops-other [] (Fork i c g) h = refl
stops-other [] (CloseTheory i c) h = refl
stops-other [] (Deliver n o f) h = refl
stops-other [] Stop h = search
stops-other (TakeTheory i ∷ es) e h = stops-other es e h
stops-other (TakeProof n ∷ es) e h = stops-other es e h
stops-other (Fork i c g ∷ es) e h = stops-other es e h
stops-other (CloseTheory i c ∷ es) e h = stops-other es e h
stops-other (Deliver n o f ∷ es) e h = stops-other es e h
stops-other (Stop ∷ es) e h = ap (λ n. n + 1) (stops-other es e h)

-- a stop counts
pub stops-one_more : {G C O : Type 0} (es : List (Event G C O)) → stops (es ++ Stop ∷ []) ≡ stops es + 1
stops-one_more [] = refl
stops-one_more (TakeTheory i ∷ es) = stops-one_more es
stops-one_more (TakeProof n ∷ es) = stops-one_more es
stops-one_more (Fork i c g ∷ es) = stops-one_more es
stops-one_more (CloseTheory i c ∷ es) = stops-one_more es
stops-one_more (Deliver n o f ∷ es) = stops-one_more es
stops-one_more (Stop ∷ es) = ap (λ n. n + 1) (stops-one_more es)
