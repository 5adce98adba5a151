-- Each lemma has a fate.
use Rattle.std.proofs.Common.{◌≡◌, ◌⊎◌, ◌<◌, ◌+◌, ℕ, zero, suc, List, [], ◌∷◌, ◌++◌, length, map, append_assoc, length-append, inl, inr, refl, sym, ◌∙◌, ap, subst, arith}
use Rattle.std.proofs.lemmas.Bool.Decides.{eqb_tells}
use Rattle.std.specs.declared.cmp.Ordering.TheVariants.{Less}
use Rattle.std.specs.List.{AllByRecursion}
use Rattle.std.specs.List.Sorted.{IsStrictlySortedBy}
use Rattle.pure_text.specs.Lists.{IsIn}
use Rattle.pure_text.proofs.ListLaws.{in_split, in-append_left, in-append_right, in-map, each_at, any_some, any_of, any_decided}
use Rattle.pure_definitions.specs.Names.{Label}
use Rattle.pure_theorem.specs.Sets.{label_cmp, IsLabelSet}
use Rattle.pure_promise_fates.specs.Entries.{Own, Shown, Fault, Cancelled, Entry, Became, Reaches, directly, through, AreFaultsReached, ReachesCancelled, Fate, Failed, Gone, Tainted, Unsettled, Proved, IsFate, failed, gone, tainted, unsettled, proved, RestsOnEarlier, AreEntries}
use Rattle.pure_promise_fates.proofs.LabelSets.{not_both, not_itself, first_below, rest_is_set}
use Rattle.pure_promise_fates.proofs.FateLaws.{became_once}
use Rattle.pure_promise_fates.proofs.ProvedLaws.{in_mapped}

label_or_not : (l m : Label) → (l ≡ m) ⊎ ¬ (l ≡ m)
label_or_not l m = elim (eqb_tells l.theory m.theory) [
  | inr w ↦ inr (λ e. w.1 (ap Label.theory e))
  | inl a ↦ elim (eqb_tells l.command m.command) [
    | inr w ↦ inr (λ e. w.1 (ap Label.command e))
    | inl b ↦ elim (eqb_tells l.part m.part) [
      | inr w ↦ inr (λ e. w.1 (ap Label.part e))
      | inl c ↦ inl (λ i. record { theory = a.1 i; command = b.1 i; part = c.1 i })
    ]
  ]
]

pub among_or_not : (l : Label) (ms : List Label) → IsIn l ms ⊎ ¬ IsIn l ms
among_or_not l [] = inr (λ h. h)
among_or_not l (m ∷ ms) = elim (label_or_not l m) [
  | inl same ↦ inl (inl same)
  | inr other ↦ elim (among_or_not l ms) [ inl k ↦ inl (inr k) | inr n ↦ inr (λ h. elim h [ inl e ↦ other e | inr k ↦ n k ]) ]
]

-- a set with one label more in front, which is before each of it
more_is_set : (l : Label) (ls : List Label) → ((k : Label) → IsIn k ls → label_cmp l k ≡ Less) → IsLabelSet ls → IsLabelSet (l ∷ ls)
unfolding IsStrictlySortedBy
more_is_set l ls below h = (at ls below, h)
  where
    at : (ks : List Label) → ((k : Label) → IsIn k ks → label_cmp l k ≡ Less) → AllByRecursion (λ y. label_cmp l y ≡ Less) ks
    at [] b = tt
    at (k ∷ ks) b = (b k (inl refl), at ks (λ j m. b j (inr m)))

none_is_set : IsLabelSet []
unfolding IsStrictlySortedBy
none_is_set = tt

-- The labels of the entries with a property, in order.
record IsPicked (P : Entry → Type 0) (xs : List Entry) (k : Label) : Type 0 where
  entry : Entry
  stands : IsIn entry xs
  label : entry.label ≡ k
  has : P entry

record ArePicked (P : Entry → Type 0) (xs : List Entry) : Type 0 where
  labels : List Label
  ascend : IsLabelSet labels
  into : (k : Label) → IsIn k labels → IsPicked P xs k
  back : (k : Label) → IsPicked P xs k → IsIn k labels

picked : (P : Entry → Type 0) → ((x : Entry) → P x ⊎ ¬ P x) → (xs : List Entry) → IsLabelSet (map Entry.label xs) → ArePicked P xs
picked P d [] h = record { labels = []; ascend = none_is_set; into = λ k m. absurd m; back = λ k w. absurd w.stands }
picked P d (x ∷ xs) h = by (d x) (picked P d xs (rest_is_set x.label (map Entry.label xs) h))
  where
    further : (k : Label) → IsPicked P xs k → IsPicked P (x ∷ xs) k
    further k w = record { entry = w.entry; stands = inr w.stands; label = w.label; has = w.has }

    by : P x ⊎ ¬ P x → ArePicked P xs → ArePicked P (x ∷ xs)
    by (inl p) rest = record {
      labels = x.label ∷ rest.labels;
      ascend = more_is_set x.label rest.labels (λ k m.
          let w = rest.into k m in
          first_below x.label (map Entry.label xs) h k (subst (λ j. IsIn j (map Entry.label xs)) w.label (in-map Entry.label w.entry xs w.stands))) rest.ascend;
      into = λ k m. elim m [ inl e ↦ record { entry = x; stands = inl refl; label = sym e; has = p } | inr n ↦ further k (rest.into k n) ];
      back = λ k w. elim w.stands [
        | inl e ↦ inl (sym w.label ∙ ap Entry.label e)
        | inr n ↦ inr (rest.back k (record { entry = w.entry; stands = n; label = w.label; has = w.has }))
      ];
    }
    by (inr no_p) rest = record {
      labels = rest.labels;
      ascend = rest.ascend;
      into = λ k m. further k (rest.into k m);
      back = λ k w. elim w.stands [
        | inl e ↦ absurd (no_p (subst P e w.has))
        | inr n ↦ rest.back k (record { entry = w.entry; stands = n; label = w.label; has = w.has })
      ];
    }

own_fault : (o : Own) → (o ≡ Fault) ⊎ ¬ (o ≡ Fault)
own_fault (Shown rests) = inr (λ e. absurd (cc))
own_fault Fault = inl refl
own_fault Cancelled = inr (λ e. absurd (cc))

own_cancelled : (o : Own) → (o ≡ Cancelled) ⊎ ¬ (o ≡ Cancelled)
own_cancelled (Shown rests) = inr (λ e. absurd (cc))
own_cancelled Fault = inr (λ e. absurd (cc))
own_cancelled Cancelled = inl refl

both_or_not : (A B : Type 0) → A ⊎ ¬ A → B ⊎ ¬ B → (A × B) ⊎ ¬ (A × B)
both_or_not A B (inl a) (inl b) = inl (a, b)
both_or_not A B (inl a) (inr n) = inr (λ h. n h.1)
both_or_not A B (inr n) q = inr (λ h. n h.0)

pub shown-same : (rs ks : List Label) → Shown rs ≡ Shown ks → rs ≡ ks
shown-same rs ks e = cc

-- An entry that is before another stands in front of it.
in_front : (xs ys : List Entry) (e d : Entry) → IsLabelSet (map Entry.label (xs ++ e ∷ ys)) → IsIn d (xs ++ e ∷ ys) → label_cmp d.label e.label ≡ Less → IsIn d xs
in_front [] ys e d h (inl same) less = absurd (not_itself e.label (subst (λ (x : Entry). label_cmp x.label e.label ≡ Less) same less))
in_front [] ys e d h (inr m) less = absurd (not_both e.label d.label (first_below e.label (map Entry.label ys) h d.label (in-map Entry.label d ys m)) less)
in_front (x ∷ xs) ys e d h (inl same) less = inl same
in_front (x ∷ xs) ys e d h (inr m) less = inr (in_front xs ys e d (rest_is_set x.label (map Entry.label (xs ++ e ∷ ys)) h) m less)

-- where an entry stands
record IsSplit (d : Entry) (xs : List Entry) : Type 0 where
  front : List Entry
  rest : List Entry
  is : xs ≡ front ++ d ∷ rest

split : (d : Entry) (xs : List Entry) → IsIn d xs → IsSplit d xs
split d [] m = absurd m
split d (x ∷ xs) (inl same) = record { front = []; rest = xs; is = ap (λ y. y ∷ xs) (sym same) }
split d (x ∷ xs) (inr m) = (let w = split d xs m in record { front = x ∷ w.front; rest = w.rest; is = ap (λ ys. x ∷ ys) w.is })

module _ (es : List Entry) (entries : AreEntries es) where
  -- the labels that a lemma reaches
  record AreReached (l : Label) : Type 0 where
    labels : List Label
    into : (k : Label) → IsIn k labels → Reaches es l k
    back : (k : Label) → Reaches es l k → IsIn k labels

  -- these labels, and those that they reach
  record IsFrom (ms : List Label) (k : Label) : Type 0 where
    first : Label
    stands : IsIn first ms
    reaches : (first ≡ k) ⊎ Reaches es first k

  record AreFrom (ms : List Label) : Type 0 where
    labels : List Label
    into : (k : Label) → IsIn k labels → IsFrom ms k
    back : (k : Label) → IsFrom ms k → IsIn k labels

  gathered : (ms : List Label) → ((m : Label) → IsIn m ms → AreReached m) → AreFrom ms
  gathered [] f = record { labels = []; into = λ k m. absurd m; back = λ k w. absurd w.stands }
  gathered (m ∷ ms) f = by (f m (inl refl)) (gathered ms (λ k n. f k (inr n)))
    where
      by : AreReached m → AreFrom ms → AreFrom (m ∷ ms)
      by one rest = record {
        labels = m ∷ (one.labels ++ rest.labels);
        into = λ k i. elim i [
          | inl e ↦ record { first = m; stands = inl refl; reaches = inl (sym e) }
          | inr n ↦ elim (in_split k one.labels rest.labels n) [
            | inl a ↦ record { first = m; stands = inl refl; reaches = inr (one.into k a) }
            | inr b ↦ (let w = rest.into k b in record { first = w.first; stands = inr w.stands; reaches = w.reaches })
          ]
        ];
        back = λ k w. elim w.stands [
          | inl e ↦ elim w.reaches [
            | inl same ↦ inl (sym same ∙ e)
            | inr r ↦ inr (in-append_left k one.labels rest.labels (one.back k (subst (λ x. Reaches es x k) e r)))
          ]
          | inr n ↦ inr (in-append_right k one.labels rest.labels (rest.back k (record { first = w.first; stands = n; reaches = w.reaches })))
        ];
      }

  became : (e : Entry) → IsIn e es → Became es e.label e.own
  became e m = record { entry = e; stands = m; of_label = refl; own_is = refl }

  reaches-from : (e : Entry) (rests : List Label) → IsIn e es → e.own ≡ Shown rests → (k : Label) → Reaches es e.label k → IsFrom rests k
  reaches-from e rests m own k (directly r) =
      let same : r.0 ≡ rests = shown-same r.0 rests (became_once es entries.ascend e.label (Shown r.0) e.own r.1 (became e m) ∙ own) in
      record { first = k; stands = subst (IsIn k) same r.2; reaches = inl refl }
  reaches-from e rests m own k (through x r further) =
      let same : r.0 ≡ rests = shown-same r.0 rests (became_once es entries.ascend e.label (Shown r.0) e.own r.1 (became e m) ∙ own) in
      record { first = x; stands = subst (IsIn x) same r.2; reaches = inr further }

  rests-shown : (e : Entry) (rests : List Label) → IsIn e es → e.own ≡ Shown rests → Became es e.label (Shown rests)
  rests-shown e rests m own = record { entry = e; stands = m; of_label = refl; own_is = own }

  from-reaches : (e : Entry) (rests : List Label) → IsIn e es → e.own ≡ Shown rests → (k : Label) → IsFrom rests k → Reaches es e.label k
  from-reaches e rests m own k w = elim w.reaches [
    | inl same ↦ directly (rests, rests-shown e rests m own, subst (λ x. IsIn x rests) same w.stands)
    | inr r ↦ through w.first (rests, rests-shown e rests m own, w.stands) r
  ]

  not_shown : (e : Entry) → IsIn e es → ((rests : List Label) → ¬ (e.own ≡ Shown rests)) → AreReached e.label
  not_shown e m never = record { labels = []; into = λ k i. absurd i; back = λ k r. absurd (nothing k r) }
    where
      nothing : (k : Label) → Reaches es e.label k → ⊥
      nothing k (directly r) = never r.0 (sym (became_once es entries.ascend e.label (Shown r.0) e.own r.1 (became e m)))
      nothing k (through x r further) = never r.0 (sym (became_once es entries.ascend e.label (Shown r.0) e.own r.1 (became e m)))

  in_at : (xs : List Entry) (d : Entry) (ys : List Entry) → IsIn d (xs ++ d ∷ ys)
  in_at xs d ys = in-append_right d xs (d ∷ ys) (inl refl)

  reached : (n : ℕ) (e : Entry) (earlier later : List Entry) → es ≡ earlier ++ e ∷ later → length earlier < n → AreReached e.label
  reached zero e earlier later is h = absurd (omega (arith, h))
  reached (suc n) e earlier later is h = by e.own refl (λ d front back whole shorter. reached n d front back whole shorter)
    where
      stands : IsIn e es
      stands = subst (IsIn e) (sym is) (in_at earlier e later)

      by : (o : Own) → e.own ≡ o → ((d : Entry) (front back : List Entry) → es ≡ front ++ d ∷ back → length front < n → AreReached d.label) → AreReached e.label
      by Fault own further = not_shown e stands (λ rests s. let no : Shown rests ≡ Fault = sym s ∙ own in absurd (cc))
      by Cancelled own further = not_shown e stands (λ rests s. let no : Shown rests ≡ Cancelled = sym s ∙ own in absurd (cc))
      by (Shown rests) own further = made (gathered rests one)
        where
          early : (m : Label) → IsIn m rests → (label_cmp m e.label ≡ Less) × IsIn m (map Entry.label es)
          early m i = each_at (λ k. (label_cmp k e.label ≡ Less) × IsIn k (map Entry.label es)) rests (each_at (RestsOnEarlier es) es entries.earlier e stands rests own) m i

          one : (m : Label) → IsIn m rests → AreReached m
          one m i =
              let at = early m i in
              let found = in_mapped Entry.label m es at.1 in
              let less : label_cmp found.0.label e.label ≡ Less = subst (λ k. label_cmp k e.label ≡ Less) (sym found.2) at.0 in
              let front = in_front earlier later e found.0 (subst (λ xs. IsLabelSet (map Entry.label xs)) is entries.ascend) (subst (IsIn found.0) is found.1) less in
              let place = split found.0 earlier front in
              let whole : es ≡ place.front ++ found.0 ∷ (place.rest ++ e ∷ later) = is ∙ ap (λ xs. xs ++ e ∷ later) place.is ∙ append_assoc place.front (found.0 ∷ place.rest) (e ∷ later) in
              let long : length earlier ≡ length (place.front ++ found.0 ∷ place.rest) = ap length place.is in
              let shorter : length place.front < n = omega (arith, h, long, length-append place.front (found.0 ∷ place.rest)) in
              subst AreReached found.2 (further found.0 place.front (place.rest ++ e ∷ later) whole shorter)

          made : AreFrom rests → AreReached e.label
          made g = record {
            labels = g.labels;
            into = λ k i. from-reaches e rests stands own k (g.into k i);
            back = λ k r. g.back k (reaches-from e rests stands own k r);
          }

  -- of a lemma that is shown
  module _ (e : Entry) (m : IsIn e es) (rests : List Label) (own : e.own ≡ Shown rests) (r : AreReached e.label) where
    abbrev FaultAt : Entry → Type 0
    FaultAt x = (x.own ≡ Fault) × IsIn x.label r.labels

    abbrev CancelledAt : Entry → Type 0
    CancelledAt x = (x.own ≡ Cancelled) × IsIn x.label r.labels

    faults : ArePicked FaultAt es → (fs : List Label) × AreFaultsReached es e.label fs
    faults p = (p.labels, record { ascend = p.ascend; exactly = λ k. (λ i. into k (p.into k i), λ h. p.back k (back k h)) })
      where
        into : (k : Label) → IsPicked FaultAt es k → Reaches es e.label k × Became es k Fault
        into k w = (r.into k (subst (λ x. IsIn x r.labels) w.label w.has.1), record { entry = w.entry; stands = w.stands; of_label = w.label; own_is = w.has.0 })

        back : (k : Label) → Reaches es e.label k × Became es k Fault → IsPicked FaultAt es k
        back k h = record { entry = h.1.entry; stands = h.1.stands; label = h.1.of_label; has = (h.1.own_is, subst (λ x. IsIn x r.labels) (sym h.1.of_label) (r.back k h.0)) }

    cancelled_or_not : ReachesCancelled es e.label ⊎ ¬ ReachesCancelled es e.label
    cancelled_or_not = elim (any_decided CancelledAt (λ x. both_or_not (x.own ≡ Cancelled) (IsIn x.label r.labels) (own_cancelled x.own) (among_or_not x.label r.labels)) es) [
      | inl h ↦ (let w = any_some CancelledAt es h in inl (w.0.label, r.into w.0.label w.2.1, record { entry = w.0; stands = w.1; of_label = refl; own_is = w.2.0 }))
      | inr never ↦ inr (λ h. never (any_of CancelledAt h.2.entry es h.2.stands (h.2.own_is, subst (λ x. IsIn x r.labels) (sym h.2.of_label) (r.back h.0 h.1))))
    ]

    shown_fate : (fate : Fate) × IsFate es e.label fate
    shown_fate = by (faults (picked FaultAt (λ x. both_or_not (x.own ≡ Fault) (IsIn x.label r.labels) (own_fault x.own) (among_or_not x.label r.labels)) es entries.ascend)) cancelled_or_not
      where
        by : (fs : List Label) × AreFaultsReached es e.label fs → ReachesCancelled es e.label ⊎ ¬ ReachesCancelled es e.label → (fate : Fate) × IsFate es e.label fate
        by (f ∷ fs, all) c = (Tainted (f ∷ fs), tainted rests (rests-shown e rests m own) f fs all)
        by ([], all) (inl c) = (Unsettled, unsettled rests (rests-shown e rests m own) all c)
        by ([], all) (inr c) = (Proved, proved rests (rests-shown e rests m own) all c)

  pub some_fate : (e : Entry) → IsIn e es → (fate : Fate) × IsFate es e.label fate
  some_fate e m = by e.own refl (split e es m)
    where
      by : (o : Own) → e.own ≡ o → IsSplit e es → (fate : Fate) × IsFate es e.label fate
      by Fault own s = (Failed, failed (record { entry = e; stands = m; of_label = refl; own_is = own }))
      by Cancelled own s = (Gone, gone (record { entry = e; stands = m; of_label = refl; own_is = own }))
      by (Shown rests) own s = shown_fate e m rests own (reached (suc (length s.front)) e s.front s.rest s.is (omega arith))
