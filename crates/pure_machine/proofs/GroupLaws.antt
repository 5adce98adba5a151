-- Promises with their groups, after each change.
use Rattle.std.proofs.Common.{◌≡◌, ◌≢◌, ◌∙◌, ◌⊎◌, ◌<◌, ◌≤◌, ℕ, zero, suc, List, [], ◌∷◌, ◌++◌, map, length, get_or, set, refl, sym, ap, subst, Bool, true, false, if◌then◌else◌, Option, Some, None, slice_get, arith, inl, inr, ⊎_elim}
use Rattle.std.proofs.lemmas.Option.{same_Some, none-some, slice_get_read}
use Rattle.std.proofs.lemmas.Bool.{cases_eq}
use Rattle.pure_text.specs.Lists.{IsIn}
use Rattle.pure_machine.specs.declared.policy.Group.{Group}
use Rattle.pure_machine.specs.declared.policy.Group.TheVariants.{Session, Theory}
use Rattle.pure_machine.specs.Policy.{Policy}
use Rattle.pure_machine.specs.Buckets.{bucket, IsPut}
use Rattle.pure_machine.specs.State.{State, Promise, Standing, Ready, Cancelled, Marks, with_standing, restood, is_theory_cancelled, is_settled, marked, all_marked, cancelled_promise, with_cancelled}
use Rattle.pure_machine.specs.Step.{NoPromiseReadyBelow}
use Rattle.pure_machine.specs.Parts.{Stages, Logged, Grouped, whole, changed_at, all_changed, regrouped, all_regrouped, is_new, AreFixed, AreListed, MayStand}
use Rattle.pure_machine.proofs.PromiseLaws.{slice_get-mapped, ready-cancelled}
use Rattle.pure_machine.proofs.BucketLaws.{put-keeps, put-in}
use Rattle.pure_machine.proofs.MarkLaws.{Within, within-all, within-marked, marked-again, cancelled-again, cancelled-twice, cancelled-other, free-stays, settled-stays, ready-free, new-stays, cancelled-theory}

-- the list with one element changed, as the code writes it
changed-set : {A : Type 0} (f : A → A) (xs : List A) (n : ℕ) (x : A) → n < length xs → x ≡ get_or xs n x → set xs n (f x) ≡ changed_at f xs n
changed-set f [] n x within read = absurd (omega (arith, within))
changed-set f (y ∷ xs) zero x within read = ap (λ z. f z ∷ xs) read
changed-set f (y ∷ xs) (suc n) x within read = ap (λ zs. y ∷ zs) (changed-set f xs n x (omega (arith, within)) read)

pub changed-written : {A : Type 0} (f : A → A) (xs ys : List A) (n : ℕ) (x x' : A) → xs ≡ ys → n < length xs → x ≡ get_or xs n x → x' ≡ f x → set xs n x' ≡ changed_at f ys n
changed-written f xs ys n x x' same within read is = rw (is, ← same) (changed-set f xs n x within read)

-- a place behind the end
pub changed-beyond : {A : Type 0} (f : A → A) (xs : List A) (n : ℕ) → length xs ≤ n → changed_at f xs n ≡ xs
changed-beyond f [] n past = refl
changed-beyond f (y ∷ xs) zero past = absurd (omega (arith, past))
changed-beyond f (y ∷ xs) (suc n) past = ap (λ zs. y ∷ zs) (changed-beyond f xs n (omega (arith, past)))

-- What stands in a list with one element changed: that element at its place, or what stood at another.
abbrev CameFrom : {A : Type 0} → (A → A) → List A → (changed place : ℕ) → A → Type 0
CameFrom {A} f xs n m y = ((x : A) × (m ≡ n) × (slice_get xs n ≡ Some x) × (f x ≡ y)) ⊎ ((m ≢ n) × (slice_get xs m ≡ Some y))

came-further : {A : Type 0} (f : A → A) (x : A) (xs : List A) (n m : ℕ) (y : A) → CameFrom f xs n m y → CameFrom f (x ∷ xs) (suc n) (suc m) y
came-further f x xs n m y c = elim c [
  | inl here ↦ inl (here.0, ap suc here.1, here.2, here.3)
  | inr there ↦ inr (λ e. there.0 (omega (arith, e)), there.1)
]

came : {A : Type 0} (f : A → A) (xs : List A) (n m : ℕ) (y : A) → slice_get (changed_at f xs n) m ≡ Some y → CameFrom f xs n m y
came f [] n m y e = absurd (none-some y e)
came f (x ∷ xs) zero zero y e = inl (x, refl, refl, same_Some (f x) y e)
came f (x ∷ xs) zero (suc m) y e = inr (λ s. omega (arith, s), e)
came f (x ∷ xs) (suc n) zero y e = inr (λ s. omega (arith, s), e)
came f (x ∷ xs) (suc n) (suc m) y e = came-further f x xs n m y (came f xs n m y e)

-- a list of which the function changes nothing
unchanged : {A : Type 0} (f : A → A) (xs : List A) → ((n : ℕ) (x : A) → slice_get xs n ≡ Some x → f x ≡ x) → xs ≡ map f xs
unchanged f [] h = refl
unchanged f (x ∷ xs) h = rw (h 0 x refl, ← unchanged f xs (λ n y e. h (suc n) y e)) refl

map-changed : {A : Type 0} (f : A → A) (xs : List A) (n : ℕ) → ((x : A) → f (f x) ≡ f x) → map f (changed_at f xs n) ≡ map f xs
map-changed f [] n twice = refl
map-changed f (x ∷ xs) zero twice = ap (λ y. y ∷ map f xs) (twice x)
map-changed f (x ∷ xs) (suc n) twice = ap (λ ys. f x ∷ ys) (map-changed f xs n twice)

-- where all elements that the function changes stand at these places
all_changed-map : {A : Type 0} (f : A → A) (xs : List A) (ns : List ℕ) → ((x : A) → f (f x) ≡ f x) → ((n : ℕ) (x : A) → slice_get xs n ≡ Some x → IsIn n ns ⊎ (f x ≡ x)) → all_changed f xs ns ≡ map f xs
all_changed-map {A} f xs [] twice h = unchanged f xs (λ n x at. elim (h n x at) [ inl none ↦ absurd none | inr same ↦ same ])
all_changed-map {A} f xs (n ∷ ns) twice h = all_changed-map f (changed_at f xs n) ns twice later ∙ map-changed f xs n twice
  where
    later : (m : ℕ) (y : A) → slice_get (changed_at f xs n) m ≡ Some y → IsIn m ns ⊎ (f y ≡ y)
    later m y at = elim (came f xs n m y at) [
      | inl here ↦ inr (subst (λ z. f z ≡ z) here.3 (twice here.0))
      | inr there ↦ elim (h m y there.1) [
        | inl stands ↦ elim stands [ inl same ↦ absurd (there.0 same) | inr rest ↦ inl rest ]
        | inr same ↦ inr same
      ]
    ]

-- the promises of a theory are cancelled with its group
theory-cancelled : {G O : Type 0} (m : Marks) (k : ℕ) (bs : List (List ℕ)) (ps : List (Promise G O)) → AreFixed m ps → AreListed bs ps → all_changed (cancelled_promise (marked m (Theory k))) ps (bucket bs k) ≡ map (cancelled_promise (marked m (Theory k))) ps
theory-cancelled {G} {O} m k bs ps fixed listed = all_changed-map (cancelled_promise (marked m (Theory k))) ps (bucket bs k) (cancelled-twice (marked m (Theory k))) each
  where
    each : (n : ℕ) (p : Promise G O) → slice_get ps n ≡ Some p → IsIn n (bucket bs k) ⊎ (cancelled_promise (marked m (Theory k)) p ≡ p)
    each n p at = ⊎_elim (λ e. inl (subst (λ i. IsIn n (bucket bs i)) e (listed n p at))) (λ ne. inr (cancelled-other m k p ne ∙ fixed n p at)) (cases_eq p.theory k)

-- a group that is cancelled already
nothing-new : {G O : Type 0} (m : Marks) (g : Group) (ps : List (Promise G O)) → is_new m g ≡ false → AreFixed m ps → ◌≡◌ {A = Grouped G O} (record { list = ps; marks = m }) (regrouped (record { list = ps; marks = m }) (marked m g))
nothing-new m g ps old fixed = rw (marked-again m g old, ← unchanged (cancelled_promise m) ps fixed) refl

pub group-stays : {G O : Type 0} (g : Grouped G O) (m : Marks) (bs : List (List ℕ)) (ps : List (Promise G O)) (x : Group) → ◌≡◌ {A = Grouped G O} (record { list = ps; marks = m }) g → is_new m x ≡ false → AreFixed m ps × AreListed bs ps → g ≡ regrouped g (marked g.marks x)
group-stays {G} {O} g m bs ps x view old kept = subst (λ h. h ≡ regrouped h (marked h.marks x)) view (nothing-new m x ps old kept.0)

-- the promises of a theory, with those in its bucket cancelled
pub listed-is : {G O : Type 0} (m m' : Marks) (k : ℕ) (x : Group) (bs : List (List ℕ)) (ps ps' : List (Promise G O)) (ns : List ℕ) → x ≡ Theory k → m' ≡ marked m x → ns ≡ bucket bs k → ps' ≡ all_changed (cancelled_promise m') ps ns → AreFixed m ps × AreListed bs ps → ps' ≡ map (cancelled_promise m') ps
listed-is m m' k x bs ps ps' ns here more found is kept = rw (is, found, more, here) (theory-cancelled m k bs ps kept.0 kept.1)

-- promises and marks, by the parts
pub regrouped-is : {G O : Type 0} (g : Grouped G O) (m m' : Marks) (x : Group) (ps ps' : List (Promise G O)) → ◌≡◌ {A = Grouped G O} (record { list = ps; marks = m }) g → m' ≡ marked m x → ps' ≡ map (cancelled_promise m') ps → ◌≡◌ {A = Grouped G O} (record { list = ps'; marks = m' }) (regrouped g (marked g.marks x))
regrouped-is {G} {O} g m m' x ps ps' view more is = subst (λ h. ◌≡◌ {A = Grouped G O} (record { list = ps'; marks = m' }) (regrouped h (marked h.marks x))) view (rw (is, more) refl)

-- what holds once promises are cancelled
fixed-cancelled : {G O : Type 0} (m : Marks) (ps : List (Promise G O)) → AreFixed m (map (cancelled_promise m) ps)
fixed-cancelled m ps n p at =
    let old = slice_get-mapped (cancelled_promise m) ps n p at in
    subst (λ q. cancelled_promise m q ≡ q) old.2 (cancelled-twice m old.0)

listed-cancelled : {G O : Type 0} (m : Marks) (bs : List (List ℕ)) (ps : List (Promise G O)) → AreListed bs ps → AreListed bs (map (cancelled_promise m) ps)
listed-cancelled m bs ps listed n p at =
    let old = slice_get-mapped (cancelled_promise m) ps n p at in
    let theory : old.0.theory ≡ p.theory = sym (cancelled-theory m old.0) ∙ ap (λ q. q.theory) old.2 in
    subst (λ i. IsIn n (bucket bs i)) theory (listed n old.0 old.1)

pub cancelled-kept : {G O : Type 0} (m : Marks) (bs : List (List ℕ)) (ps ps' : List (Promise G O)) → ps' ≡ map (cancelled_promise m) ps → AreListed bs ps → AreFixed m ps' × AreListed bs ps'
cancelled-kept m bs ps ps' is listed = rw is (fixed-cancelled m ps, listed-cancelled m bs ps listed)

-- the promise, standing otherwise
abbrev stood : {G O : Type 0} → Standing O → Promise G O → Promise G O
stood s p = record { theory = p.theory; command = p.command; goal = p.goal; standing = s }

restood-further : {G O : Type 0} (p : Promise G O) (ps : List (Promise G O)) (n : ℕ) (o : Option (Promise G O)) (s : Standing O) → restood (p ∷ ps) (suc n) o s ≡ p ∷ restood ps n o s
restood-further p ps n None s = refl
restood-further p ps n (Some q) s = refl

stood-changed : {G O : Type 0} (ps : List (Promise G O)) (n : ℕ) (s : Standing O) → with_standing ps n s ≡ changed_at (stood s) ps n
stood-changed [] n s = refl
stood-changed (p ∷ ps) zero s = refl
stood-changed (p ∷ ps) (suc n) s = restood-further p ps n (slice_get ps n) s ∙ ap (λ qs. p ∷ qs) (stood-changed ps n s)

-- what holds once a promise stands otherwise
fixed-stood : {G O : Type 0} (m : Marks) (ps : List (Promise G O)) (n : ℕ) (s : Standing O) → MayStand ps n s → AreFixed m ps → AreFixed m (with_standing ps n s)
fixed-stood {G} {O} m ps n s may fixed k q at = elim (came (stood s) ps n k q (subst (λ l. slice_get l k ≡ Some q) (stood-changed ps n s) at)) [
  | inl here ↦ subst (λ r. cancelled_promise m r ≡ r) here.3 (stays here.0 here.2)
  | inr there ↦ fixed k q there.1
]
  where
    stays : (p : Promise G O) → slice_get ps n ≡ Some p → cancelled_promise m (stood s p) ≡ stood s p
    stays p there = elim may [
      | inl settled ↦ settled-stays m (stood s p) settled
      | inr was ↦ free-stays m (stood s p) (ready-free m p (fixed n p there) (ap (λ r. r.standing) (same_Some p was.0 (sym there ∙ was.1)) ∙ was.2))
    ]

listed-stood : {G O : Type 0} (bs : List (List ℕ)) (ps : List (Promise G O)) (n : ℕ) (s : Standing O) → AreListed bs ps → AreListed bs (with_standing ps n s)
listed-stood {G} {O} bs ps n s listed k q at = elim (came (stood s) ps n k q (subst (λ l. slice_get l k ≡ Some q) (stood-changed ps n s) at)) [
  | inl here ↦ subst (λ r. IsIn k (bucket bs r.theory)) here.3 (subst (λ j. IsIn j (bucket bs here.0.theory)) (sym here.1) (listed n here.0 here.2))
  | inr there ↦ listed k q there.1
]

-- what both keep
pub stood-kept : {G O : Type 0} (g : Grouped G O) (m : Marks) (bs : List (List ℕ)) (ps ps' : List (Promise G O)) (n : ℕ) (s : Standing O) → ◌≡◌ {A = Grouped G O} (record { list = ps; marks = m }) g → MayStand g.list n s → ps' ≡ with_standing ps n s → AreFixed m ps × AreListed bs ps → AreFixed m ps' × AreListed bs ps'
stood-kept g m bs ps ps' n s view may is kept = rw is (fixed-stood m ps n s (subst (λ h. MayStand h.list n s) (sym view) may) kept.0, listed-stood bs ps n s kept.1)

-- what stands in a list with one element more
longer : {A : Type 0} (xs : List A) (x : A) (m : ℕ) (y : A) → slice_get (xs ++ x ∷ []) m ≡ Some y → (slice_get xs m ≡ Some y) ⊎ ((m ≡ length xs) × (x ≡ y))
longer [] x zero y e = inr (refl, same_Some x y e)
longer [] x (suc m) y e = absurd (none-some y e)
longer (z ∷ xs) x zero y e = inl e
longer (z ∷ xs) x (suc m) y e = elim (longer xs x m y e) [ inl old ↦ inl old | inr new ↦ inr (ap suc new.0, new.1) ]

-- what holds with one promise more
fixed-forked : {G O : Type 0} (m : Marks) (ps : List (Promise G O)) (p : Promise G O) → p.standing ≡ (if is_theory_cancelled m p.theory then Cancelled else Ready) → AreFixed m ps → AreFixed m (ps ++ p ∷ [])
fixed-forked m ps p stands fixed n q at = elim (longer ps p n q at) [
  | inl old ↦ fixed n q old
  | inr new ↦ subst (λ r. cancelled_promise m r ≡ r) new.1 (new-stays m p stands)
]

listed-put : {G O : Type 0} (bs bs' : List (List ℕ)) (ps : List (Promise G O)) (key x : ℕ) → IsPut bs bs' key x → AreListed bs ps → AreListed bs' ps
listed-put bs bs' ps key x put listed n q at = put-keeps bs bs' key x put n q.theory (listed n q at)

listed-forked : {G O : Type 0} (bs bs' : List (List ℕ)) (ps : List (Promise G O)) (p : Promise G O) (key x : ℕ) → key ≡ p.theory → x ≡ length ps → IsPut bs bs' key x → AreListed bs ps → AreListed bs' (ps ++ p ∷ [])
listed-forked bs bs' ps p key x is count put listed n q at = elim (longer ps p n q at) [
  | inl old ↦ put-keeps bs bs' key x put n q.theory (listed n q old)
  | inr new ↦ subst (λ r. IsIn n (bucket bs' r.theory)) new.1 (subst (λ i. IsIn n (bucket bs' i)) is (subst (λ j. IsIn j (bucket bs' key)) (count ∙ sym new.0) (put-in bs bs' key x put)))
]

-- what both keep where a number is put that no promise has
pub put-kept : {G O : Type 0} (m : Marks) (bs bs' : List (List ℕ)) (ps ps' : List (Promise G O)) (key x : ℕ) → IsPut bs bs' key x → ps' ≡ ps → AreFixed m ps × AreListed bs ps → AreFixed m ps' × AreListed bs' ps'
put-kept m bs bs' ps ps' key x put same kept = rw same (kept.0, listed-put bs bs' ps key x put kept.1)

-- what both keep with one promise more
pub forked-kept : {G O : Type 0} (g : Grouped G O) (m : Marks) (bs bs' : List (List ℕ)) (ps ps' : List (Promise G O)) (p : Promise G O) (key x : ℕ) → ◌≡◌ {A = Grouped G O} (record { list = ps; marks = m }) g → p.standing ≡ (if is_theory_cancelled g.marks p.theory then Cancelled else Ready) → key ≡ p.theory → x ≡ length ps → IsPut bs bs' key x → ps' ≡ ps ++ p ∷ [] → AreFixed m ps × AreListed bs ps → AreFixed m ps' × AreListed bs' ps'
forked-kept g m bs bs' ps ps' p key x view stands theory count put is kept =
    let here : p.standing ≡ (if is_theory_cancelled m p.theory then Cancelled else Ready) = subst (λ h. p.standing ≡ (if is_theory_cancelled h.marks p.theory then Cancelled else Ready)) (sym view) stands in
    rw is (fixed-forked m ps p here kept.0, listed-forked bs bs' ps p key x theory count put kept.1)

-- no promise is ready that wasn't, where one is cancelled
none_ready-changed : {G O : Type 0} (m : Marks) (ps : List (Promise G O)) (n bound : ℕ) → NoPromiseReadyBelow ps bound → NoPromiseReadyBelow (changed_at (cancelled_promise m) ps n) bound
none_ready-changed m ps n bound before k within q at ready = elim (came (cancelled_promise m) ps n k q at) [
  | inl here ↦ before k within here.0 (subst (λ j. slice_get ps j ≡ Some here.0) (sym here.1) here.2) (ready-cancelled _ here.0 q here.3 ready)
  | inr there ↦ before k within q there.1 ready
]

pub none_ready-rewritten : {G O : Type 0} (m : Marks) (ps : List (Promise G O)) (n : ℕ) (x x' : Promise G O) (bound : ℕ) → n < length ps → x ≡ get_or ps n x → x' ≡ cancelled_promise m x → NoPromiseReadyBelow ps bound → NoPromiseReadyBelow (set ps n x') bound
none_ready-rewritten m ps n x x' bound within read is before = subst (λ l. NoPromiseReadyBelow l bound) (sym (changed-written (cancelled_promise m) ps ps n x x' refl within read is)) (none_ready-changed m ps n bound before)

-- groups cancelled one after the other, and all at once
map-again : {G O : Type 0} (m n : Marks) (ps : List (Promise G O)) → Within m n → map (cancelled_promise n) (map (cancelled_promise m) ps) ≡ map (cancelled_promise n) ps
map-again m n [] within = refl
map-again m n (p ∷ ps) within = rw (cancelled-again m n p within, map-again m n ps within) refl

at_once : {G O : Type 0} (g : Grouped G O) (x : Group) (xs : List Group) → all_regrouped g (x ∷ xs) ≡ regrouped g (all_marked g.marks (x ∷ xs))
at_once g x [] = refl
at_once g x (y ∷ ys) =
    let first = marked g.marks x in
    at_once (regrouped g first) y ys ∙ ap (λ ps. record { list = ps; marks = all_marked first (y ∷ ys) }) (map-again first (all_marked first (y ∷ ys)) g.list (within-all first (y ∷ ys)))

-- the state once groups are cancelled, by the parts
pub whole-cancelled : {G C O : Type 0} (t : Stages C) (g : Grouped G O) (gs : List Group) (p : Policy) (k : ℕ) (b : Bool) (l : Logged G C O) → whole t (all_regrouped g gs).list (all_regrouped g gs).marks p k b l ≡ with_cancelled (whole t g.list g.marks p k b l) gs
whole-cancelled t g [] p k b l = refl
whole-cancelled t g (x ∷ xs) p k b l = ap (λ h. whole t h.list h.marks p k b l) (at_once g x xs)
