-- The walk back through lemmas finds what they reach.
use Rattle.std.proofs.Common.{◌≡◌, ◌↔◌, ◌⊎◌, ◌∙◌, ℕ, ◌+◌, ◌-◌, ◌<◌, ◌≤◌, List, [], ◌∷◌, ◌++◌, inl, inr, refl, sym, ap, subst, map, length, arith}
use Rattle.std.specs.declared.cmp.Ordering.TheVariants.{Less}
use Rattle.std.proofs.lemmas.Bool.{cases_lt}
use Rattle.pure_text.specs.Lists.{IsIn, Each}
use Rattle.pure_text.proofs.ListLaws.{each_at, each_of, in_split, in-append_left, in-append_right}
use Rattle.pure_definitions.specs.Names.{Label}
use Rattle.pure_theorem.specs.Sets.{label_cmp, IsLabelSet}
use Rattle.pure_order_tables.specs.Rows.{Holds}
use Rattle.pure_promise_fates.specs.Entries.{Shown, IsNotShown, Entry, Became, RestsOn, Reaches, directly, through, RestsOnEarlier, AreEntries}
use Rattle.pure_promise_fates.specs.Reach.{IsAt}
use Rattle.pure_promise_fates.proofs.FateLaws.{became_once, shown-fault, shown-cancelled}
use Rattle.pure_promise_fates.proofs.PlaceLaws.{at-in, at-once, at-within, one_place, place_before}
use Rattle.pure_promise_fates.proofs.CodeLaws.{stands-at}
use Rattle.pure_promise_fates.proofs.ReachLaws.{became-at}
use Rattle.pure_citations.specs.Reached.{IsFrom, IsRestAt, IsGrown}

-- The lemmas from the bound on are walked past: the row holds what it held first, and what those rest on whose places it holds, and only what these reach.
pub record IsWalked (es : List Entry) (first row : List ℕ) (bound : ℕ) : Type 0 where
  pub sound : (p : ℕ) (e : Entry) → IsAt es p e → Holds row p → IsFrom es first e.label
  pub keeps : (p : ℕ) (e : Entry) → IsAt es p e → Holds first p → Holds row p
  pub closed : (p q : ℕ) (d e : Entry) → IsAt es p d → IsAt es q e → bound ≤ p → Holds row p → (rests : List Label) → d.own ≡ Shown rests → IsIn e.label rests → Holds row q

module _ (es : List Entry) (entries : AreEntries es) where
  -- what a lemma rests on stands before it
  pub rests-stand : (p : ℕ) (d : Entry) → IsAt es p d → (rests : List Label) → d.own ≡ Shown rests → Each (λ k. IsIn k (map Entry.label es)) rests
  rests-stand p d at rests own = each_of (λ k. IsIn k (map Entry.label es)) rests (λ k m. (earlier k m).1)
    where
      earlier : (k : Label) → IsIn k rests → (label_cmp k d.label ≡ Less) × IsIn k (map Entry.label es)
      earlier = each_at (λ k. (label_cmp k d.label ≡ Less) × IsIn k (map Entry.label es)) rests (each_at (RestsOnEarlier es) es entries.earlier d (at-in es p d at) rests own)

  rest-before : (p q : ℕ) (d e : Entry) → IsAt es p d → IsAt es q e → (rests : List Label) → d.own ≡ Shown rests → IsIn e.label rests → q < p
  rest-before p q d e at there rests own m =
      place_before es entries.ascend q p e d there at (each_at (λ k. (label_cmp k d.label ≡ Less) × IsIn k (map Entry.label es)) rests (each_at (RestsOnEarlier es) es entries.earlier d (at-in es p d at) rests own) e.label m).0

  own-at : (p : ℕ) (d : Entry) (rests : List Label) → IsAt es p d → Became es d.label (Shown rests) → d.own ≡ Shown rests
  own-at p d rests at b = became_once es entries.ascend d.label d.own (Shown rests) (became-at es entries.ascend p d at) b

  from-further : (first : List ℕ) (k j : Label) → IsFrom es first k → RestsOn es k j → IsFrom es first j
  from-further first k j (p, e, at, h, inl same) on = (p, e, at, h, inr (directly (subst (λ i. RestsOn es i j) (sym same) on)))
  from-further first k j (p, e, at, h, inr r) on = (p, e, at, h, inr (further e.label k r j on))
    where
      further : (i k : Label) → Reaches es i k → (j : Label) → RestsOn es k j → Reaches es i j
      further i k (directly h) j on = through k h (directly on)
      further i k (through m h r) j on = through m h (further m k r j on)

  pub walk-goes_on : (first old new : List ℕ) (bound place : ℕ) → bound ≡ place + 1 → IsGrown es place old new → IsWalked es first old bound → IsWalked es first new place
  walk-goes_on first old new bound place next grown h = record {
    sound = λ p e at held. elim ((grown p e at).0 held) [
      | inl before ↦ h.sound p e at before
      | inr w ↦ from-further first w.1.0.label e.label (h.sound place w.1.0 w.1.1 w.0) (w.1.2, record { entry = w.1.0; stands = at-in es place w.1.0 w.1.1; of_label = refl; own_is = w.1.3 }, w.1.4)
    ];
    keeps = λ p e at held. (grown p e at).1 (inl (h.keeps p e at held));
    closed = λ p q d e at there past held rests own m. elim (cases_lt place p) [
      | inl after ↦ (grown q e there).1 (inl (h.closed p q d e at there (omega (arith, after, next)) (old-holds p d at after held) rests own m))
      | inr most ↦
          let same : p ≡ place = omega (arith, past, most) in
          (grown q e there).1 (inr (old-here p d at same held, (d, subst (λ i. IsAt es i d) same at, rests, own, m)))
    ];
  }
    where
      old-holds : (p : ℕ) (d : Entry) → IsAt es p d → place < p → Holds new p → Holds old p
      old-holds p d at after held = elim ((grown p d at).0 held) [
        | inl before ↦ before
        | inr w ↦ absurd (let less = rest-before place p w.1.0 d w.1.1 at w.1.2 w.1.3 w.1.4 in omega (arith, less, after))
      ]

      old-here : (p : ℕ) (d : Entry) → IsAt es p d → p ≡ place → Holds new p → Holds old place
      old-here p d at same held = elim ((grown p d at).0 held) [
        | inl before ↦ subst (Holds old) same before
        | inr w ↦ w.0
      ]

  -- What a lemma reaches whose place is held is held, once all are walked past.
  module _ (first row : List ℕ) (h : IsWalked es first row 0) where
    reached-held : (l k : Label) → Reaches es l k → (p : ℕ) (d : Entry) → IsAt es p d → d.label ≡ l → Holds row p → (q : ℕ) (e : Entry) → IsAt es q e → e.label ≡ k → Holds row q
    reached-held l k (directly (rests, b, m)) p d at same held q e there label =
        h.closed p q d e at there (omega arith) held rests (own-at p d rests at (subst (λ i. Became es i (Shown rests)) (sym same) b)) (subst (λ i. IsIn i rests) (sym label) m)
    reached-held l k (through n (rests, b, m) r) p d at same held q e there label =
        let own = own-at p d rests at (subst (λ i. Became es i (Shown rests)) (sym same) b) in
        let next = stands-at es n (each_at (λ k. IsIn k (map Entry.label es)) rests (rests-stand p d at rests own) n m) in
        let here = h.closed p next.0 d next.1 at next.2 (omega arith) held rests own (subst (λ i. IsIn i rests) (sym next.3) m) in
        reached-held n k r next.0 next.1 next.2 next.3 here q e there label

    pub walk-ends : (p : ℕ) (e : Entry) → IsAt es p e → Holds row p ↔ IsFrom es first e.label
    walk-ends p e at = (h.sound p e at, λ from. held from)
      where
        held : IsFrom es first e.label → Holds row p
        held (q, d, there, holds, inl same) = subst (Holds row) (one_place es entries.ascend q p d e there at same) (h.keeps q d there holds)
        held (q, d, there, holds, inr r) = reached-held d.label e.label r q d there refl (h.keeps q d there holds) p e at refl

-- One promise more is put in.
pub rest-more : (es : List Entry) (rests : List Label) (k : Label) (old now new : List ℕ) (place : ℕ) → IsLabelSet (map Entry.label es) → ((d : Entry) × IsAt es place d × (d.label ≡ k))
    → ((other : ℕ) → Holds new other ↔ ((other ≡ place) ⊎ Holds now other))
    → ((p : ℕ) (e : Entry) → IsAt es p e → Holds now p ↔ (Holds old p ⊎ IsIn e.label rests))
    → (p : ℕ) (e : Entry) → IsAt es p e → Holds new p ↔ (Holds old p ⊎ IsIn e.label (rests ++ k ∷ []))
rest-more es rests k old now new place ascend (d, at, label) put before p e there = (
  λ h. elim ((put p).0 h) [
    | inl same ↦ (
        let one : e ≡ d = at-once es p e d there (subst (λ i. IsAt es i d) (sym same) at) in
        inr (in-append_right e.label rests (k ∷ []) (inl (ap Entry.label one ∙ label))))
    | inr held ↦ elim ((before p e there).0 held) [ inl o ↦ inl o | inr m ↦ inr (in-append_left e.label rests (k ∷ []) m) ]
  ],
  λ h. elim h [
    | inl o ↦ (put p).1 (inr ((before p e there).1 (inl o)))
    | inr m ↦ elim (in_split e.label rests (k ∷ []) m) [
      | inl n ↦ (put p).1 (inr ((before p e there).1 (inr n)))
      | inr n ↦ elim n [ inl same ↦ (put p).1 (inl (one_place es ascend p place e d there at (same ∙ sym label))) | inr none ↦ absurd none ]
    ]
  ],
)

same-rests : (ks ls : List Label) → Shown ks ≡ Shown ls → ks ≡ ls
same-rests ks ls e = cc

-- Where the lemma at the place is shown, what it rests on is put in.
pub grown-shown : (es : List Entry) (place : ℕ) (d : Entry) → IsAt es place d → (rests : List Label) → d.own ≡ Shown rests → (old new : List ℕ)
    → ((p : ℕ) (e : Entry) → IsAt es p e → Holds new p ↔ (Holds old p ⊎ IsIn e.label rests)) → (p : ℕ) (e : Entry) → IsAt es p e → Holds new p ↔ (Holds old p ⊎ IsRestAt es place e.label)
grown-shown es place d at rests own old new put p e there = (
  λ h. elim ((put p e there).0 h) [ inl o ↦ inl o | inr m ↦ inr (d, at, rests, own, m) ],
  λ h. elim h [ inl o ↦ (put p e there).1 (inl o) | inr w ↦ (put p e there).1 (inr (back w)) ],
)
  where
    back : IsRestAt es place e.label → IsIn e.label rests
    back (c, here, ks, shown, m) = subst (IsIn e.label) (same-rests ks rests (sym shown ∙ ap Entry.own (at-once es place c d here at) ∙ own)) m

-- Where no proof shows it, nothing is.
pub grown-unshown : (es : List Entry) (place : ℕ) (d : Entry) → IsAt es place d → IsNotShown d.own → (old : List ℕ) → (p : ℕ) (e : Entry) → IsAt es p e → Holds old p ↔ (Holds old p ⊎ IsRestAt es place e.label)
grown-unshown es place d at not old p e there = (λ h. inl h, λ h. elim h [ inl o ↦ o | inr w ↦ absurd (none w) ])
  where
    none : IsRestAt es place e.label → ⊥
    none (c, here, ks, shown, m) =
        let own : d.own ≡ Shown ks = ap Entry.own (at-once es place d c at here) ∙ shown in
        elim not [ inl fault ↦ shown-fault ks (sym own ∙ fault) | inr gone ↦ shown-cancelled ks (sym own ∙ gone) ]

pub grown_held : (es : List Entry) (place : ℕ) (old new : List ℕ) → Holds old place → ((p : ℕ) (e : Entry) → IsAt es p e → Holds new p ↔ (Holds old p ⊎ IsRestAt es place e.label)) → IsGrown es place old new
grown_held es place old new held put p e at = (
  λ h. elim ((put p e at).0 h) [ inl o ↦ inl o | inr w ↦ inr (held, w) ],
  λ h. elim h [ inl o ↦ (put p e at).1 (inl o) | inr w ↦ (put p e at).1 (inr w.1) ],
)

pub grown_not : (es : List Entry) (place : ℕ) (old : List ℕ) → ¬ Holds old place → IsGrown es place old old
grown_not es place old not p e at = (λ h. inl h, λ h. elim h [ inl o ↦ o | inr w ↦ absurd (not w.0) ])

walk-begins : (es : List Entry) (first : List ℕ) (bound : ℕ) → length es ≤ bound → IsWalked es first first bound
walk-begins es first bound all = record {
  sound = λ p e at h. (p, e, at, h, inl refl);
  keeps = λ p e at h. h;
  closed = λ p q d e at there past. absurd (omega (arith, past, all, at-within es p d at));
}

-- The walk's numbers: it goes from the last lemma to the first.
pub walk-first : (es : List Entry) (first : List ℕ) (count : ℕ) → length es ≡ count → IsWalked es first first (count - 0)
walk-first es first count same = walk-begins es first (count - 0) (omega (arith, same))

pub walk-next : (es : List Entry) → AreEntries es → (first old new : List ℕ) (count back : ℕ) → back < count → IsGrown es (count - 1 - back) old new → IsWalked es first old (count - back) → IsWalked es first new (count - (back + 1))
walk-next es entries first old new count back less grown h =
    let same : count - 1 - back ≡ count - (back + 1) = omega arith in
    walk-goes_on es entries first old new (count - back) (count - (back + 1)) (omega (arith, less)) (subst (λ p. IsGrown es p old new) same grown) h

pub walk-last : (es : List Entry) → AreEntries es → (first row : List ℕ) (count back : ℕ) → ¬ (back < count) → IsWalked es first row (count - back) → (p : ℕ) (e : Entry) → IsAt es p e → Holds row p ↔ IsFrom es first e.label
walk-last es entries first row count back past h =
    let same : count - back ≡ 0 = omega (arith, past) in
    walk-ends es entries first row (subst (IsWalked es first row) same h)
