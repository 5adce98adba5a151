-- The lemmas that a lemma reaches, as rows of bits, and by the promises of its proof.
use Rattle.std.specs.Prelude.{◌≡◌, ◌⊎◌, ◌↔◌, ◌<◌, ◌/◌, ℕ, zero, suc, Bool, IsTrue, List, [], ◌∷◌, length, map}
use Rattle.pure_text.specs.Lists.{IsIn}
use Rattle.pure_definitions.specs.Names.{Label}
use Rattle.pure_theorem.specs.Sets.{IsLabelSet}
use Rattle.pure_order_tables.specs.Rows.{Holds}
use Rattle.pure_promise_fates.specs.Entries.{Entry, Own, Shown, Fault, Cancelled, Reaches}

-- The element stands at the place.
abbrev pub IsAt : {A : Type 0} → List A → ℕ → A → Type 0
IsAt [] place x = ⊥
IsAt (y ∷ ys) zero x = y ≡ x
IsAt (y ∷ ys) (suc place) x = IsAt ys place x

-- One of the labels is this one, or reaches it.
abbrev pub ReachedBy : List Entry → List Label → Label → Type 0
ReachedBy es ks f = (k : Label) × IsIn k ks × ((k ≡ f) ⊎ Reaches es k f)

-- This became of the lemma at the place, and one of the labels is its own or reaches it.
pub record IsReachedAt (es : List Entry) (ks : List Label) (own : Own) (place : ℕ) : Type 0 where
  pub entry : Entry
  pub at : IsAt es place entry
  pub own_is : entry.own ≡ own
  pub reached : ReachedBy es ks entry.label

-- what is reached: the places of failed lemmas, and whether there is a cancelled one
pub record Reach : Type 0 where
  pub row : List ℕ
  pub mark : Bool

-- It is what the labels reach, themselves among it.
pub record IsReach (es : List Entry) (ks : List Label) (r : Reach) : Type 0 where
  pub faults : (place : ℕ) → Holds r.row place ↔ IsReachedAt es ks Fault place
  pub cancelled : IsTrue r.mark ↔ ((place : ℕ) × IsReachedAt es ks Cancelled place)

-- The row has so many words, and so many are room for each failed lemma's place.
pub record IsWide (es : List Entry) (width : ℕ) : Type 0 where
  pub room : (place : ℕ) (e : Entry) → IsAt es place e → e.own ≡ Fault → place / 64 < width

-- Of a lemma that is shown it is what it reaches.
abbrev pub IsReachOf : List Entry → (width : ℕ) → Entry → Reach → Type 0
IsReachOf es width e r = (rests : List Label) → e.own ≡ Shown rests → IsReach es rests r × (length r.row ≡ width)

-- They are what the first lemmas reach, as many as there are.
pub record AreReaches (es : List Entry) (width : ℕ) (rs : List Reach) : Type 0 where
  pub ascend : IsLabelSet (map Entry.label es)
  pub wide : IsWide es width
  pub each : (place : ℕ) (e : Entry) (r : Reach) → IsAt es place e → IsAt rs place r → IsReachOf es width e r

-- The promise is that of a lemma whose reach is among the first.
pub record IsKnown (es : List Entry) (count : ℕ) (k : Label) : Type 0 where
  pub place : ℕ
  pub entry : Entry
  pub at : IsAt es place entry
  pub of_label : entry.label ≡ k
  pub first : place < count

-- These are the labels of the failed lemmas before the place that the row holds, in order.
pub record AreHeldBefore (es : List Entry) (row : List ℕ) (place : ℕ) (faults : List Label) : Type 0 where
  pub ascend : IsLabelSet faults
  pub exactly : (k : Label) → IsIn k faults ↔ ((p : ℕ) × (p < place) × Holds row p × (e : Entry) × IsAt es p e × (e.label ≡ k))
