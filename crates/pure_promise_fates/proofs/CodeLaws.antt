-- Steps of the walks through lemmas.
use Rattle.std.proofs.Common.{◌≡◌, ◌↔◌, ◌⊎◌, ℕ, zero, suc, ◌+◌, ◌<◌, ◌≤◌, ◌/◌, Bool, true, false, IsTrue, List, [], ◌∷◌, ◌++◌, inl, inr, refl, sym, ◌∙◌, ap, subst, map, length, get_or, arith}
use Rattle.std.specs.Prelude.{if◌then◌else◌}
use Rattle.std.specs.declared.cmp.Ordering.TheVariants.{Less}
use Rattle.std.proofs.lemmas.Bool.{cases_lt}
use Rattle.pure_text.specs.Lists.{IsIn, Each}
use Rattle.pure_text.proofs.ListLaws.{each_at, each_of}
use Rattle.pure_definitions.specs.Names.{Label}
use Rattle.pure_theorem.specs.Sets.{label_cmp, IsLabelSet}
use Rattle.pure_order_tables.specs.Rows.{Holds}
use Rattle.pure_promise_fates.specs.Entries.{Own, Shown, Fault, Cancelled, IsNotShown, Entry, Fate, Proved, Failed, Tainted, Gone, Unsettled, IsFate, RestsOnEarlier, AreEntries}
use Rattle.pure_promise_fates.specs.Reach.{IsAt, Reach, IsReach, IsReachOf, AreReaches, IsKnown, AreHeldBefore}
use Rattle.pure_promise_fates.proofs.FateLaws.{shown-fault, shown-cancelled}
use Rattle.pure_promise_fates.proofs.PlaceLaws.{at-in, in-at, at-once, at-map, at-read, at-within, places_ascend, one_place, place_before}
use Rattle.pure_promise_fates.proofs.ProvedLaws.{in_mapped}
use Rattle.pure_promise_fates.proofs.HeldLaws.{is_tainted, is_unsettled, is_proved, proved_is_clear, is_failed, is_gone, not_proved}

-- what is read at a place, as it is seen
pub at-seen : {A B : Type 0} (f : A → B) (xs : List A) (p : ℕ) (r : A) → p < length xs → r ≡ get_or xs p r → IsAt (map f xs) p (f r)
at-seen f xs p r within is = at-map f xs p r (subst (IsAt xs p) (sym is) (at-read xs p r within))

pub seen-within : {A B : Type 0} (f : A → B) (xs : List A) (p : ℕ) (y : B) → IsAt (map f xs) p y → p < length xs
seen-within f [] p y h = absurd h
seen-within f (x ∷ xs) zero y h = omega arith
seen-within f (x ∷ xs) (suc p) y h = omega (arith, seen-within f xs p y h)

pub seen-length : {A B : Type 0} (f : A → B) (xs : List A) → length (map f xs) ≡ length xs
seen-length f [] = refl
seen-length f (x ∷ xs) = ap suc (seen-length f xs)

-- the place of a label
pub stands-at : (es : List Entry) (k : Label) → IsIn k (map Entry.label es) → (p : ℕ) × (e : Entry) × IsAt es p e × (e.label ≡ k)
stands-at es k m =
    let found = in_mapped Entry.label k es m in
    let place = in-at es found.0 found.1 in
    (place.0, found.0, place.1, found.2)

pub after_middle : (es : List Entry) → IsLabelSet (map Entry.label es) → (m p : ℕ) (d e : Entry) (k : Label) → IsAt es m d → label_cmp d.label k ≡ Less → IsAt es p e → e.label ≡ k → m + 1 ≤ p
after_middle es h m p d e k at less there label = omega (arith, place_before es h m p d e at there (subst (λ l. label_cmp d.label l ≡ Less) (sym label) less))

pub until_middle : (es : List Entry) → IsLabelSet (map Entry.label es) → (m p : ℕ) (d e : Entry) (k : Label) → IsAt es m d → ¬ (label_cmp d.label k ≡ Less) → IsAt es p e → e.label ≡ k → p ≤ m
until_middle es h m p d e k at least there label = elim (cases_lt m p) [
  | inl less ↦ absurd (least (subst (λ l. label_cmp d.label l ≡ Less) label (places_ascend es h m p d e at there less)))
  | inr most ↦ most
]

-- one more place, of a failed lemma, and of another
pub wider : (es : List Entry) (place width : ℕ) → ((p : ℕ) (e : Entry) → IsAt es p e → e.own ≡ Fault → p < place → p / 64 < width) → (p : ℕ) → p < place + 1 → (e : Entry) → IsAt es p e → e.own ≡ Fault → p / 64 < place / 64 + 1
wider es place width before p less e at fault = quotients p place (omega (arith, less))
  where
    quotients : (m n : ℕ) → m ≤ n → m / 64 < n / 64 + 1
    quotients m n h = grind arith

pub as_wide : (es : List Entry) (place width : ℕ) (d : Entry) → IsAt es place d → ¬ (d.own ≡ Fault) → ((p : ℕ) (e : Entry) → IsAt es p e → e.own ≡ Fault → p < place → p / 64 < width) → (p : ℕ) (e : Entry) → IsAt es p e → e.own ≡ Fault → p < place + 1 → p / 64 < width
as_wide es place width d at sound before p e there fault less = elim (cases_lt p place) [
  | inl early ↦ before p e there fault early
  | inr most ↦
      let same : p ≡ place = omega (arith, less, most) in
      let one : e ≡ d = at-once es place e d (subst (λ q. IsAt es q e) same there) at in
      absurd (sound (sym (ap Entry.own one) ∙ fault))
]

pub left_cancelled : (own : Own) (b : Bool) → IsNotShown own → (IsTrue b ↔ (own ≡ Fault)) → b ≡ false → own ≡ Cancelled
left_cancelled own b (inl fault) tells is = (let yes_fault = tells.1 fault in absurd cc)
left_cancelled own b (inr cancelled) tells is = cancelled

-- one promise more is reached
pub reached_known : (es : List Entry) (count p : ℕ) (d : Entry) (k : Label) → IsLabelSet (map Entry.label es) → IsKnown es count k → IsAt es p d → d.label ≡ k → p < count
reached_known es count p d k h known at label = subst (λ q. q < count) (one_place es h known.place p known.entry d known.at at (known.of_label ∙ sym label)) known.first

pub known_stands : (es : List Entry) (count : ℕ) (k : Label) → IsKnown es count k → IsIn k (map Entry.label es)
known_stands es count k known = subst (λ l. IsIn l (map Entry.label es)) known.of_label (mapped es (at-in es known.place known.entry known.at))
  where
    mapped : (ds : List Entry) → IsIn known.entry ds → IsIn known.entry.label (map Entry.label ds)
    mapped [] m = m
    mapped (d ∷ ds) (inl e) = inl (ap Entry.label e)
    mapped (d ∷ ds) (inr m) = inr (mapped ds m)

-- the promises of the lemma behind the first are known
pub rests_known : (es : List Entry) (place : ℕ) (e : Entry) (rests : List Label) → AreEntries es → IsAt es place e → e.own ≡ Shown rests → Each (IsKnown es place) rests
rests_known es place e rests entries at shown = each_of (IsKnown es place) rests (λ k m.
    let earlier = each_at (RestsOnEarlier es) es entries.earlier e (at-in es place e at) rests shown in
    let here = each_at (λ k. (label_cmp k e.label ≡ Less) × IsIn k (map Entry.label es)) rests earlier k m in
    let w = stands-at es k here.1 in
    record { place = w.0; entry = w.1; at = w.2; of_label = w.3; first = place_before es entries.ascend w.0 place w.1 e w.2 at (subst (λ l. label_cmp l e.label ≡ Less) (sym w.3) here.0) })

-- the reach of the lemma at a place, and of one that no proof shows
pub reach_of_shown : (es : List Entry) (place : ℕ) (d : Entry) → IsAt es place d → (rests : List Label) → d.own ≡ Shown rests → (width : ℕ) (r : Reach) → IsReach es rests r × (length r.row ≡ width) → (e : Entry) → IsAt es place e → IsReachOf es width e r
reach_of_shown es place d at rests shown width r is e there others own =
    let one : d ≡ e = at-once es place d e at there in
    let same : others ≡ rests = ap rests_of (sym own ∙ sym (ap Entry.own one) ∙ shown) in
    rw same is
  where
    rests_of : Own → List Label
    rests_of (Shown ks) = ks
    rests_of Fault = []
    rests_of Cancelled = []

pub reach_of_unshown : (es : List Entry) (place : ℕ) (d : Entry) → IsAt es place d → IsNotShown d.own → (width : ℕ) (r : Reach) → (e : Entry) → IsAt es place e → IsReachOf es width e r
reach_of_unshown es place d at not_shown width r e there rests own =
    let one : d ≡ e = at-once es place d e at there in
    let shown : d.own ≡ Shown rests = ap Entry.own one ∙ own in
    elim not_shown [ inl fault ↦ absurd (shown-fault rests (sym shown ∙ fault)) | inr gone ↦ absurd (shown-cancelled rests (sym shown ∙ gone)) ]

pub one_longer : {A : Type 0} (xs ys : List A) (x : A) (n : ℕ) → ys ≡ xs ++ x ∷ [] → length xs ≡ n → length ys ≡ n + 1
one_longer {A = A} xs ys x n is count = ap length is ∙ longer xs ∙ ap (λ k. k + 1) count
  where
    longer : (zs : List A) → length (zs ++ x ∷ []) ≡ length zs + 1
    longer [] = refl
    longer (z ∷ zs) = omega (arith, longer zs)

-- one lemma's reach more
pub reaches_more : (es : List Entry) (width : ℕ) (rs more : List Reach) (r : Reach) → more ≡ rs ++ r ∷ [] → AreReaches es width rs → ((e : Entry) → IsAt es (length rs) e → IsReachOf es width e r) → AreReaches es width more
reaches_more es width rs more r are so_far next = record {
  ascend = so_far.ascend;
  wide = so_far.wide;
  each = λ place e s at there. by place e s at (subst (λ ls. IsAt ls place s) are there) (cases_lt place (length rs));
}
  where
    front : (xs : List Reach) (p : ℕ) (s : Reach) → IsAt (xs ++ r ∷ []) p s → p < length xs → IsAt xs p s
    front [] p s h less = absurd (omega arith)
    front (x ∷ xs) zero s h less = h
    front (x ∷ xs) (suc p) s h less = front xs p s h (omega (arith, less))

    last : (xs : List Reach) (p : ℕ) (s : Reach) → IsAt (xs ++ r ∷ []) p s → length xs ≤ p → (p ≡ length xs) × (r ≡ s)
    last [] zero s h most = (refl, h)
    last [] (suc p) s h most = absurd h
    last (x ∷ xs) zero s h most = absurd (omega arith)
    last (x ∷ xs) (suc p) s h most = (let w = last xs p s h (omega (arith, most)) in (omega (arith, w.0), w.1))

    by : (place : ℕ) (e : Entry) (s : Reach) → IsAt es place e → IsAt (rs ++ r ∷ []) place s → (place < length rs) ⊎ (length rs ≤ place) → IsReachOf es width e s
    by place e s at there (inl less) = so_far.each place e s at (front rs place s there less)
    by place e s at there (inr most) = (let w = last rs place s there most in subst (IsReachOf es width e) w.1 (next e (subst (λ p. IsAt es p e) w.0 at)))

-- fates by what is told of a lemma
module _ (es : List Entry) (entries : AreEntries es) (p : ℕ) (d : Entry) (at : IsAt es p d) (r : Reach) (width : ℕ) (of : (e : Entry) → IsAt es p e → IsReachOf es width e r) where
  here : (P : Entry → Type 0) → P d → (e : Entry) → IsAt es p e → P e
  here P h e there = subst P (at-once es p d e at there) h

  pub fate-clear : (rests : List Label) → d.own ≡ Shown rests → ((place : ℕ) → ¬ Holds r.row place) → (fate : Fate) → fate ≡ (if r.mark then Unsettled else Proved) → (e : Entry) → IsAt es p e → IsFate es e.label fate
  fate-clear rests shown none fate is = here (λ e. IsFate es e.label fate) (by r.mark refl)
    where
      by : (b : Bool) → r.mark ≡ b → IsFate es d.label fate
      by true mark = rw (is, mark) (is_unsettled es entries.ascend p d at rests shown r (of d at rests shown).0 none mark)
      by false mark = rw (is, mark) (is_proved es entries.ascend p d at rests shown r (of d at rests shown).0 none mark)

  pub fate-tainted : (rests : List Label) → d.own ≡ Shown rests → ¬ ((place : ℕ) → ¬ Holds r.row place) → (faults : List Label) → AreHeldBefore es r.row (length es) faults → (e : Entry) → IsAt es p e → IsFate es e.label (Tainted faults)
  fate-tainted rests shown some faults held = here (λ e. IsFate es e.label (Tainted faults)) (by faults held)
    where
      by : (fs : List Label) → AreHeldBefore es r.row (length es) fs → IsFate es d.label (Tainted fs)
      by [] none = absurd (some (λ place holds. absurd (empty place holds)))
        where
          empty : (place : ℕ) → Holds r.row place → ⊥
          empty place holds =
              let reached = ((of d at rests shown).0.faults place).0 holds in
              (none.exactly reached.entry.label).1 (place, at-within es place reached.entry reached.at, holds, reached.entry, reached.at, refl)
      by (f ∷ fs) some_held =
          let w = (some_held.exactly f).0 (inl refl) in
          is_tainted es entries.ascend p d at rests shown r (of d at rests shown).0 w.0 (f ∷ fs) w.2 some_held

  pub fate-unshown : IsNotShown d.own → (b : Bool) → (IsTrue b ↔ (d.own ≡ Fault)) → (fate : Fate) → fate ≡ (if b then Failed else Gone) → (e : Entry) → IsAt es p e → IsFate es e.label fate
  fate-unshown not_shown b tells fate is = here (λ e. IsFate es e.label fate) (by b refl)
    where
      by : (a : Bool) → b ≡ a → IsFate es d.label fate
      by true same = rw (is, same) (is_failed es entries.ascend p d at (tells.0 same))
      by false same = rw (is, same) (elim not_shown [
        | inl fault ↦ (let yes_fault = tells.1 fault in absurd cc)
        | inr gone ↦ is_gone es entries.ascend p d at gone
      ])

  pub proved-clear : (rests : List Label) → d.own ≡ Shown rests → r.mark ≡ false → (b : Bool) → (IsTrue b ↔ ((place : ℕ) → ¬ Holds r.row place)) → (e : Entry) → IsAt es p e → IsTrue b ↔ IsFate es e.label Proved
  proved-clear rests shown mark b tells = here (λ e. IsTrue b ↔ IsFate es e.label Proved) (
    λ h. is_proved es entries.ascend p d at rests shown r (of d at rests shown).0 (tells.0 h) mark,
    λ h. tells.1 (proved_is_clear es entries.ascend p d at rests shown r (of d at rests shown).0 entries h).0,
  )

  pub proved-marked : (rests : List Label) → d.own ≡ Shown rests → (b : Bool) → b ≡ false → r.mark ≡ true → (e : Entry) → IsAt es p e → IsTrue b ↔ IsFate es e.label Proved
  proved-marked rests shown b no_answer mark = here (λ e. IsTrue b ↔ IsFate es e.label Proved) (
    λ h. absurd (apart h),
    λ h. absurd (marked h),
  )
    where
      apart : IsTrue b → ⊥
      apart h = absurd cc

      marked : IsFate es d.label Proved → ⊥
      marked h = (let clear = (proved_is_clear es entries.ascend p d at rests shown r (of d at rests shown).0 entries h).1 in absurd cc)

  pub unshown-proved : IsNotShown d.own → (e : Entry) → IsAt es p e → IsTrue false ↔ IsFate es e.label Proved
  unshown-proved not_shown = here (λ e. IsTrue false ↔ IsFate es e.label Proved) (λ h. absurd cc, λ h. absurd (not_proved es entries.ascend p d at not_shown entries h))

-- what the lemma at a place reaches
pub reach_there : (es : List Entry) (width : ℕ) (rs : List Reach) (place : ℕ) (r : Reach) → place < length rs → r ≡ get_or rs place r → AreReaches es width rs → (w : ℕ) × ((e : Entry) → IsAt es place e → IsReachOf es w e r)
reach_there es width rs place r within is reached = (width, λ e at. reached.each place e r at (subst (IsAt rs place) (sym is) (at-read rs place r within)))
