-- What became of each lemma by itself, which lemmas it reaches, and its fate (Wenzel, Parallel Proof Checking in Isabelle/Isar, 2009).
use Rattle.std.specs.Prelude.{◌≡◌, ◌↔◌, ◌⊎◌, List, [], ◌∷◌, map}
use Rattle.std.specs.declared.cmp.Ordering.TheVariants.{Less}
use Rattle.pure_text.specs.Lists.{IsIn, Each}
use Rattle.pure_definitions.specs.Names.{Label}
use Rattle.pure_theorem.specs.Sets.{label_cmp, IsLabelSet}

-- What became of a lemma by itself: it is shown, by a proof that rests on these promises; its proof is at fault; or it was cancelled.
pub data Own : Type 0 where
  Shown : (rests : List Label) → Own
  Fault : Own
  Cancelled : Own

-- No proof shows it.
abbrev pub IsNotShown : Own → Type 0
IsNotShown own = (own ≡ Fault) ⊎ (own ≡ Cancelled)

-- a lemma by the label of its promise, and what became of it
pub record Entry : Type 0 where
  pub label : Label
  pub own : Own

-- One of the lemmas is of this label, and this became of it.
pub record Became (es : List Entry) (l : Label) (own : Own) : Type 0 where
  pub entry : Entry
  pub stands : IsIn entry es
  pub of_label : entry.label ≡ l
  pub own_is : entry.own ≡ own

-- The lemma is shown, and its proof rests on the promise.
abbrev pub RestsOn : List Entry → Label → Label → Type 0
RestsOn es l k = (rests : List Label) × Became es l (Shown rests) × IsIn k rests

-- A lemma reaches the promises on which it rests and, through those that are shown, what they reach.
pub data Reaches (es : List Entry) : Label → Label → Type 0 where
  directly : {l k : Label} → RestsOn es l k → Reaches es l k
  through : {l k : Label} → (m : Label) → RestsOn es l m → Reaches es m k → Reaches es l k

-- These are the lemmas at fault that it reaches, in order.
pub record AreFaultsReached (es : List Entry) (l : Label) (faults : List Label) : Type 0 where
  pub ascend : IsLabelSet faults
  pub exactly : (k : Label) → IsIn k faults ↔ (Reaches es l k × Became es k Fault)

-- It reaches one that was cancelled.
abbrev pub ReachesCancelled : List Entry → Label → Type 0
ReachesCancelled es l = (k : Label) × Reaches es l k × Became es k Cancelled

-- What a row says of a lemma. `Tainted` has the failed lemmas that it reaches.
pub data Fate : Type 0 where
  Proved : Fate
  Failed : Fate
  Tainted : (faults : List Label) → Fate
  Gone : Fate
  Unsettled : Fate

-- The fate of a lemma: failed where its proof is at fault, gone where it was cancelled; else tainted by the failed ones that it reaches, where there are some; else unsettled where it reaches a cancelled one; else proved.
pub data IsFate (es : List Entry) (l : Label) : Fate → Type 0 where
  failed : Became es l Fault → IsFate es l Failed
  gone : Became es l Cancelled → IsFate es l Gone
  tainted : (rests : List Label) → Became es l (Shown rests) → (f : Label) (fs : List Label) → AreFaultsReached es l (f ∷ fs) → IsFate es l (Tainted (f ∷ fs))
  unsettled : (rests : List Label) → Became es l (Shown rests) → AreFaultsReached es l [] → ReachesCancelled es l → IsFate es l Unsettled
  proved : (rests : List Label) → Became es l (Shown rests) → AreFaultsReached es l [] → ¬ ReachesCancelled es l → IsFate es l Proved

-- Each promise on which a lemma rests is that of an earlier one.
abbrev pub RestsOnEarlier : List Entry → Entry → Type 0
RestsOnEarlier es e = (rests : List Label) → e.own ≡ Shown rests → Each (λ k. (label_cmp k e.label ≡ Less) × IsIn k (map Entry.label es)) rests

-- The labels ascend, and proofs rest on earlier lemmas alone.
pub record AreEntries (es : List Entry) : Type 0 where
  pub ascend : IsLabelSet (map Entry.label es)
  pub earlier : Each (RestsOnEarlier es) es
