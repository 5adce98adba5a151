-- Each written name means a fact, or none.
use Rattle.std.proofs.Common.{◌≡◌, ◌≢◌, ◌⊎◌, ◌≤◌, ◌+◌, ℕ, zero, suc, List, [], ◌∷◌, Option, Some, None, Bool, true, false, slice_get, bytes_eq, inl, inr, refl, sym, ◌∙◌, ap, subst, arith}
use Rattle.std.proofs.lemmas.Slice.Eq.{bytes_eq-Decides}
use Rattle.std.proofs.lemmas.Bool.Decides.{leb_tells}
use Rattle.std.proofs.lemmas.Option.{same_Some}
use Rattle.pure_text.specs.Lists.{IsIn}
use Rattle.pure_text.proofs.ListLaws.{in_or_not, in-append_right}
use Rattle.pure_definitions.specs.Names.{protect_name}
use Rattle.pure_definitions.specs.Declarations.Decl.{Decl, ClassDecl, ConDecl, ArityDecl, ConstDecl, AxiomDecl, PromiseDecl}
use Rattle.pure_typ.specs.NameTexts.{builtin_texts, name_texts, HasText}
use Rattle.pure_logic.specs.Content.{TheoryId, Content}
use Rattle.pure_logic.specs.Beginning.{theories_of}
use Rattle.pure_lookup.specs.Meaning.{facts, IsDeclaredIn, pure_text, built_texts, full_text, Meaning, Declared, Built, IsOfPure, IsOfTheory, IsMeant}
use Rattle.pure_lookup.specs.LookUps.{Fact, BuiltFact, AxiomFact, PromisedFact, IsFoundFact}
use Rattle.pure_lookup.proofs.MeaningLaws.{found_is_declared}

texts_or_not : (s t : List ℕ) → (s ≡ t) ⊎ ¬ (s ≡ t)
texts_or_not s t = by (bytes_eq s t) refl
  where
    by : (b : Bool) → bytes_eq s t ≡ b → (s ≡ t) ⊎ ¬ (s ≡ t)
    by true e = inl ((bytes_eq-Decides s t).0 e)
    by false e = inr (λ same. let also = (bytes_eq-Decides s t).1 same in absurd (cc))

-- A text stands at some place, or at none; and at a place some text stands, or none.
behind : (x : List ℕ) (xs : List (List ℕ)) (w : List ℕ) → ¬ (x ≡ w) → ((n : ℕ) → slice_get xs n ≡ Some w → ⊥) → (n : ℕ) → slice_get (x ∷ xs) n ≡ Some w → ⊥
behind x xs w other missing zero e = other (same_Some x w e)
behind x xs w other missing (suc n) e = missing n e

abbrev IsPlaced : List (List ℕ) → List ℕ → Type 0
IsPlaced xs w = ((n : ℕ) × (slice_get xs n ≡ Some w)) ⊎ ((n : ℕ) → slice_get xs n ≡ Some w → ⊥)

place_or_not : (xs : List (List ℕ)) (w : List ℕ) → IsPlaced xs w
place_or_not [] w = inr (λ n e. absurd (cc))
place_or_not (x ∷ xs) w = by (texts_or_not x w) (place_or_not xs w)
  where
    by : (x ≡ w) ⊎ ¬ (x ≡ w) → IsPlaced xs w → IsPlaced (x ∷ xs) w
    by (inl same) rest = inl (zero, ap Some same)
    by (inr other) (inl found) = inl (suc found.0, found.1)
    by (inr other) (inr missing) = inr (behind x xs w other missing)

get_or_not : (xs : List (List ℕ)) (n : ℕ) → ((w : List ℕ) × (slice_get xs n ≡ Some w)) ⊎ ((w : List ℕ) → slice_get xs n ≡ Some w → ⊥)
get_or_not [] n = inr (λ w e. absurd (cc))
get_or_not (x ∷ xs) zero = inl (x, refl)
get_or_not (x ∷ xs) (suc n) = get_or_not xs n

stands_or_not : (xs : List (List ℕ)) (n : ℕ) (w : List ℕ) → (slice_get xs n ≡ Some w) ⊎ ¬ (slice_get xs n ≡ Some w)
stands_or_not xs n w = by (get_or_not xs n)
  where
    by : ((v : List ℕ) × (slice_get xs n ≡ Some v)) ⊎ ((v : List ℕ) → slice_get xs n ≡ Some v → ⊥) → (slice_get xs n ≡ Some w) ⊎ ¬ (slice_get xs n ≡ Some w)
    by (inl (v, e)) = elim (texts_or_not v w) [ inl same ↦ inl (e ∙ ap Some same) | inr other ↦ inr (λ h. other (same_Some v w (sym e ∙ h))) ]
    by (inr missing) = inr (missing w)

-- The name is that of a fact, may be written, and has this text.
record IsNamed (xs : List (List ℕ)) (ds : List Decl) (w : List ℕ) (n : ℕ) : Type 0 where
  declared : IsDeclaredIn facts ds n
  other : n ≢ protect_name
  text : slice_get xs n ≡ Some w

-- the name of the fact that is declared
abbrev fact_name : Decl → Option ℕ
fact_name (ClassDecl k) = None
fact_name (ConDecl k c) = None
fact_name (ArityDecl a) = None
fact_name (ConstDecl c T) = None
fact_name (AxiomDecl x A) = Some x
fact_name (PromiseDecl x l A) = Some x

declared-here : (d : Decl) (ds : List Decl) (n : ℕ) → fact_name d ≡ Some n → IsDeclaredIn facts (d ∷ ds) n
declared-here (ClassDecl k) ds n e = absurd (cc)
declared-here (ConDecl k c) ds n e = absurd (cc)
declared-here (ArityDecl a) ds n e = absurd (cc)
declared-here (ConstDecl c T) ds n e = absurd (cc)
declared-here (AxiomDecl x A) ds n e = (let same : x ≡ n = cc in inl (A, inl (ap (λ m. AxiomDecl m A) (sym same))))
declared-here (PromiseDecl x l A) ds n e = (let same : x ≡ n = cc in inr (l, A, inl (ap (λ m. PromiseDecl m l A) (sym same))))

declared-behind : (d : Decl) (ds : List Decl) (n : ℕ) → IsDeclaredIn facts ds n → IsDeclaredIn facts (d ∷ ds) n
declared-behind d ds n (inl (A, m)) = inl (A, inr m)
declared-behind d ds n (inr (l, A, m)) = inr (l, A, inr m)

declared-which : (d : Decl) (ds : List Decl) (n : ℕ) → IsDeclaredIn facts (d ∷ ds) n → (fact_name d ≡ Some n) ⊎ IsDeclaredIn facts ds n
declared-which d ds n (inl (A, inl same)) = inl (ap fact_name (sym same))
declared-which d ds n (inl (A, inr m)) = inr (inl (A, m))
declared-which d ds n (inr (l, A, inl same)) = inl (ap fact_name (sym same))
declared-which d ds n (inr (l, A, inr m)) = inr (inr (l, A, m))

abbrev IsSomeNamed : List (List ℕ) → List Decl → List ℕ → Type 0
IsSomeNamed xs ds w = ((n : ℕ) × IsNamed xs ds w n) ⊎ ((n : ℕ) → IsNamed xs ds w n → ⊥)

protect_or_not : (n : ℕ) → IsIn n (protect_name ∷ []) ⊎ ¬ IsIn n (protect_name ∷ [])
protect_or_not n = in_or_not n (protect_name ∷ [])

named_or_not : (xs : List (List ℕ)) (w : List ℕ) (ds : List Decl) → IsSomeNamed xs ds w
named_or_not xs w [] = inr (λ n h. elim h.declared [ inl a ↦ absurd a.1 | inr p ↦ absurd p.2 ])
named_or_not xs w (d ∷ ds) = by (fact_name d) refl (named_or_not xs w ds)
  where
    further : (n : ℕ) → IsNamed xs ds w n → IsNamed xs (d ∷ ds) w n
    further n h = record { declared = declared-behind d ds n h.declared; other = h.other; text = h.text }

    -- the name isn't this declaration's
    later : ((n : ℕ) → fact_name d ≡ Some n → n ≢ protect_name → slice_get xs n ≡ Some w → ⊥) → IsSomeNamed xs ds w → IsSomeNamed xs (d ∷ ds) w
    later nothing (inl h) = inl (h.0, further h.0 h.1)
    later nothing (inr missing) = inr (λ n h. elim (declared-which d ds n h.declared) [
      | inl is ↦ nothing n is h.other h.text
      | inr rest ↦ missing n (record { declared = rest; other = h.other; text = h.text })
    ])

    one : (m n : ℕ) → fact_name d ≡ Some m → fact_name d ≡ Some n → n ≡ m
    one m n a b = (let same : Some m ≡ Some n = sym a ∙ b in cc)

    by : (o : Option ℕ) → fact_name d ≡ o → IsSomeNamed xs ds w → IsSomeNamed xs (d ∷ ds) w
    by None e rest = later (λ n is. absurd (cc)) rest
    by (Some m) e rest = elim (protect_or_not m) [
      | inl is ↦ later (λ n f other text. elim is [ inl same ↦ other (one m n e f ∙ same) | inr none ↦ none ]) rest
      | inr not ↦ elim (stands_or_not xs m w) [
        | inl text ↦ inl (m, record { declared = declared-here d ds m e; other = λ same. not (inl same); text = text })
        | inr missing ↦ later (λ n f other text. missing (subst (λ k. slice_get xs k ≡ Some w) (one m n e f) text)) rest
      ]
    ]

-- A text with a dot is cut at its last one.
record IsCut (w : List ℕ) : Type 0 where
  theory : List ℕ
  base : List ℕ
  is : w ≡ full_text theory base
  clean : ¬ IsIn 46 base

cut : (w : List ℕ) → IsIn 46 w → IsCut w
cut [] m = absurd m
cut (c ∷ cs) m = by (in_or_not 46 cs) (λ n. cut cs n)
  where
    by : IsIn 46 cs ⊎ ¬ IsIn 46 cs → (IsIn 46 cs → IsCut cs) → IsCut (c ∷ cs)
    by (inl n) further = (let k = further n in record { theory = c ∷ k.theory; base = k.base; is = ap (λ l. c ∷ l) k.is; clean = k.clean })
    by (inr clean) further = elim m [ inl same ↦ record { theory = []; base = cs; is = ap (λ x. x ∷ cs) (sym same); clean = clean } | inr n ↦ absurd (clean n) ]

dot-in : (theory base : List ℕ) → IsIn 46 (full_text theory base)
dot-in theory base = in-append_right 46 theory (46 ∷ base) (inl refl)

cut-once : (t u b c : List ℕ) → full_text t b ≡ full_text u c → ¬ IsIn 46 b → ¬ IsIn 46 c → (t ≡ u) × (b ≡ c)
cut-once [] [] b c e h k = (refl, cc)
cut-once [] (x ∷ u) b c e h k = (let tail : b ≡ full_text u c = cc in absurd (h (subst (IsIn 46) (sym tail) (dot-in u c))))
cut-once (x ∷ t) [] b c e h k = (let tail : full_text t b ≡ c = cc in absurd (k (subst (IsIn 46) tail (dot-in t b))))
cut-once (x ∷ t) (y ∷ u) b c e h k =
    let first : x ≡ y = cc in
    let tail : full_text t b ≡ full_text u c = cc in
    let rest = cut-once t u b c tail h k in
    (λ i. first i ∷ rest.0 i, rest.1)

module _ (texts : List (List ℕ)) (Q : Content) where
  pure_or_not : (full : List ℕ) → ((m : Meaning) × IsOfPure Q facts full m) ⊎ ((m : Meaning) → ¬ IsOfPure Q facts full m)
  pure_or_not full = by (named_or_not builtin_texts full Q.declarations) (place_or_not built_texts full)
    where
      by : IsSomeNamed builtin_texts Q.declarations full → IsPlaced built_texts full → ((m : Meaning) × IsOfPure Q facts full m) ⊎ ((m : Meaning) → ¬ IsOfPure Q facts full m)
      by (inl h) b = inl (Declared h.0, (record { declared = h.1.declared; other = h.1.other }, h.1.text))
      by (inr missing) (inl b) = inl (Built b.0, (refl, b.1))
      by (inr missing) (inr unbuilt) = inr never
        where
          never : (m : Meaning) → ¬ IsOfPure Q facts full m
          never (Declared n) h = missing n (record { declared = h.0.declared; other = h.0.other; text = h.1 })
          never (Built place) h = unbuilt place h.1

  theory_or_not : (full : List ℕ) → ((m : Meaning) × IsOfTheory texts Q facts full m) ⊎ ((m : Meaning) → ¬ IsOfTheory texts Q facts full m)
  theory_or_not full = by (named_or_not (name_texts texts) full Q.declarations)
    where
      by : IsSomeNamed (name_texts texts) Q.declarations full → ((m : Meaning) × IsOfTheory texts Q facts full m) ⊎ ((m : Meaning) → ¬ IsOfTheory texts Q facts full m)
      by (inl h) = inl (Declared h.0, (record { declared = h.1.declared; other = h.1.other }, h.1.text))
      by (inr missing) = inr never
        where
          never : (m : Meaning) → ¬ IsOfTheory texts Q facts full m
          never (Declared n) h = missing n (record { declared = h.0.declared; other = h.0.other; text = h.1 })
          never (Built place) h = h

  -- what is visible where these are the content's theories
  abbrev Sees : List TheoryId → (place : ℕ) → (theory base : List ℕ) → Meaning → Type 0
  Sees ts place theory base m = ((place ≡ 0) × (theory ≡ pure_text) × IsOfPure Q facts (full_text theory base) m)
      ⊎ ((t : TheoryId) × IsIn t ts × (place ≡ 1 + t.index) × HasText texts t.name theory × IsOfTheory texts Q facts (full_text theory base) m)

  -- what is visible by one theory
  record SeesBy (t : TheoryId) (place : ℕ) (theory base : List ℕ) (m : Meaning) : Type 0 where
    place_is : place ≡ 1 + t.index
    text : HasText texts t.name theory
    of : IsOfTheory texts Q facts (full_text theory base) m

  sees-which : (t : TheoryId) (ts : List TheoryId) (p : ℕ) (theory base : List ℕ) (m : Meaning) → Sees (t ∷ ts) p theory base m → SeesBy t p theory base m ⊎ Sees ts p theory base m
  sees-which t ts p theory base m (inl h) = inr (inl h)
  sees-which t ts p theory base m (inr (u, inl same, place, text, of)) =
      inl (record { place_is = place ∙ ap (λ (v : TheoryId). 1 + v.index) same; text = subst (λ (v : TheoryId). HasText texts v.name theory) same text; of = of })
  sees-which t ts p theory base m (inr (u, inr n, place, text, of)) = inr (inr (u, n, place, text, of))

  sees-behind : (t : TheoryId) (ts : List TheoryId) (p : ℕ) (theory base : List ℕ) (m : Meaning) → Sees ts p theory base m → Sees (t ∷ ts) p theory base m
  sees-behind t ts p theory base m (inl h) = inl h
  sees-behind t ts p theory base m (inr (u, n, place, text, of)) = inr (u, inr n, place, text, of)

  sees-pure : (p : ℕ) (theory base : List ℕ) (m : Meaning) → Sees [] p theory base m → (p ≡ 0) × (theory ≡ pure_text) × IsOfPure Q facts (full_text theory base) m
  sees-pure p theory base m (inl h) = h
  sees-pure p theory base m (inr (u, n, place, text, of)) = absurd n

  abbrev IsSeen : List TheoryId → (theory base : List ℕ) → Type 0
  IsSeen ts theory base = ((p : ℕ) × (m : Meaning) × Sees ts p theory base m) ⊎ ((p : ℕ) (m : Meaning) → ¬ Sees ts p theory base m)

  -- Under a full name something is visible, or nothing.
  seen_or_not : (ts : List TheoryId) (theory base : List ℕ) → IsSeen ts theory base
  seen_or_not [] theory base = by (texts_or_not theory pure_text) (pure_or_not (full_text theory base))
    where
      by : (theory ≡ pure_text) ⊎ ¬ (theory ≡ pure_text) → ((m : Meaning) × IsOfPure Q facts (full_text theory base) m) ⊎ ((m : Meaning) → ¬ IsOfPure Q facts (full_text theory base) m) → IsSeen [] theory base
      by (inl same) (inl h) = inl (0, h.0, inl (refl, same, h.1))
      by (inl same) (inr never) = inr (λ p m s. never m (sees-pure p theory base m s).2)
      by (inr other) q = inr (λ p m s. other (sees-pure p theory base m s).1)
  seen_or_not (t ∷ ts) theory base = by (seen_or_not ts theory base) (stands_or_not (name_texts texts) t.name theory) (theory_or_not (full_text theory base))
    where
      by : IsSeen ts theory base → HasText texts t.name theory ⊎ ¬ HasText texts t.name theory
          → ((m : Meaning) × IsOfTheory texts Q facts (full_text theory base) m) ⊎ ((m : Meaning) → ¬ IsOfTheory texts Q facts (full_text theory base) m) → IsSeen (t ∷ ts) theory base
      by (inl h) text of = inl (h.0, h.1, sees-behind t ts h.0 theory base h.1 h.2)
      by (inr never) (inl text) (inl h) = inl (1 + t.index, h.0, inr (t, inl refl, refl, text, h.1))
      by (inr never) (inl text) (inr nothing) = inr (λ p m s. elim (sees-which t ts p theory base m s) [ inl w ↦ nothing m w.of | inr r ↦ never p m r ])
      by (inr never) (inr other) of = inr (λ p m s. elim (sees-which t ts p theory base m s) [ inl w ↦ other w.text | inr r ↦ never p m r ])

  -- with that base something is visible, and this is the last in load order
  record IsLastSeen (ts : List TheoryId) (base : List ℕ) : Type 0 where
    place : ℕ
    theory : List ℕ
    meaning : Meaning
    sees : Sees ts place theory base meaning
    last : (other : ℕ) (theory : List ℕ) (n : Meaning) → Sees ts other theory base n → other ≤ place

  abbrev IsUnseen : List TheoryId → (base : List ℕ) → Type 0
  IsUnseen ts base = (p : ℕ) (theory : List ℕ) (m : Meaning) → ¬ Sees ts p theory base m

  record IsSeenBy (t : TheoryId) (base : List ℕ) : Type 0 where
    theory : List ℕ
    meaning : Meaning
    text : HasText texts t.name theory
    of : IsOfTheory texts Q facts (full_text theory base) meaning

  abbrev IsUnseenBy : TheoryId → (base : List ℕ) → Type 0
  IsUnseenBy t base = (p : ℕ) (theory : List ℕ) (m : Meaning) → ¬ SeesBy t p theory base m

  seen_by_or_not : (t : TheoryId) (base : List ℕ) → IsSeenBy t base ⊎ IsUnseenBy t base
  seen_by_or_not t base = by (get_or_not (name_texts texts) t.name)
    where
      by : ((w : List ℕ) × (slice_get (name_texts texts) t.name ≡ Some w)) ⊎ ((w : List ℕ) → slice_get (name_texts texts) t.name ≡ Some w → ⊥) → IsSeenBy t base ⊎ IsUnseenBy t base
      by (inr missing) = inr (λ p theory m h. missing theory h.text)
      by (inl (w, text)) = elim (theory_or_not (full_text w base)) [
        | inl h ↦ inl (record { theory = w; meaning = h.0; text = text; of = h.1 })
        | inr never ↦ inr (λ p theory m h. never m (subst (λ x. IsOfTheory texts Q facts (full_text x base) m) (same_Some theory w (sym h.text ∙ text)) h.of))
      ]

  at-most : (m n : ℕ) → m ≡ n → m ≤ n
  at-most m n e = omega (arith, e)

  last_or_none : (ts : List TheoryId) (base : List ℕ) → IsLastSeen ts base ⊎ IsUnseen ts base
  last_or_none [] base = by (pure_or_not (full_text pure_text base))
    where
      by : ((m : Meaning) × IsOfPure Q facts (full_text pure_text base) m) ⊎ ((m : Meaning) → ¬ IsOfPure Q facts (full_text pure_text base) m) → IsLastSeen [] base ⊎ IsUnseen [] base
      by (inl h) = inl (record { place = 0; theory = pure_text; meaning = h.0; sees = inl (refl, refl, h.1); last = λ other theory n s. at-most other 0 (sees-pure other theory base n s).0 })
      by (inr never) = inr (λ p theory m s.
          let w = sees-pure p theory base m s in
          never m (subst (λ x. IsOfPure Q facts (full_text x base) m) w.1 w.2))
  last_or_none (t ∷ ts) base = by (last_or_none ts base) (seen_by_or_not t base)
    where
      -- what this theory shows is the last
      this : (h : IsSeenBy t base) → ((other : ℕ) (theory : List ℕ) (n : Meaning) → Sees ts other theory base n → other ≤ 1 + t.index) → IsLastSeen (t ∷ ts) base
      this h before = record {
        place = 1 + t.index;
        theory = h.theory;
        meaning = h.meaning;
        sees = inr (t, inl refl, refl, h.text, h.of);
        last = λ other theory n s. elim (sees-which t ts other theory base n s) [ inl w ↦ at-most other (1 + t.index) w.place_is | inr r ↦ before other theory n r ];
      }

      -- what the others show is the last
      that : (l : IsLastSeen ts base) → ((p : ℕ) (theory : List ℕ) (m : Meaning) → SeesBy t p theory base m → p ≤ l.place) → IsLastSeen (t ∷ ts) base
      that l before = record {
        place = l.place;
        theory = l.theory;
        meaning = l.meaning;
        sees = sees-behind t ts l.place l.theory base l.meaning l.sees;
        last = λ other theory n s. elim (sees-which t ts other theory base n s) [ inl w ↦ before other theory n w | inr r ↦ l.last other theory n r ];
      }

      through : (a b c : ℕ) → a ≤ b → b ≤ c → a ≤ c
      through a b c h k = omega (arith, h, k)

      next : (a b c : ℕ) → a ≡ b → b + 1 ≤ c → a ≤ c
      next a b c h k = omega (arith, h, k)

      by : IsLastSeen ts base ⊎ IsUnseen ts base → IsSeenBy t base ⊎ IsUnseenBy t base → IsLastSeen (t ∷ ts) base ⊎ IsUnseen (t ∷ ts) base
      by (inl l) (inr nothing) = inl (that l (λ p theory m h. absurd (nothing p theory m h)))
      by (inr never) (inl h) = inl (this h (λ other theory n s. absurd (never other theory n s)))
      by (inr never) (inr nothing) = inr (λ p theory m s. elim (sees-which t ts p theory base m s) [ inl w ↦ nothing p theory m w | inr r ↦ never p theory m r ])
      by (inl l) (inl h) = elim (leb_tells l.place (1 + t.index)) [
        | inl w ↦ inl (this h (λ other theory n s. through other l.place (1 + t.index) (l.last other theory n s) w.1))
        | inr w ↦ inl (that l (λ p theory m k. next p (1 + t.index) l.place k.place_is (omega (arith, w.1))))
      ]

  abbrev IsMeantOrNot : List ℕ → Type 0
  IsMeantOrNot written = ((m : Meaning) × IsMeant texts Q facts written m) ⊎ ((m : Meaning) → ¬ IsMeant texts Q facts written m)

  meant_in_full : (written : List ℕ) → IsIn 46 written → IsMeantOrNot written
  meant_in_full written dot = by (cut written dot)
    where
      by : IsCut written → IsMeantOrNot written
      by k = elim (seen_or_not (theories_of Q) k.theory k.base) [
        | inl h ↦ inl (h.1, inl (dot, record { place = h.0; theory = k.theory; base = k.base; full = k.is; clean = k.clean; visible = h.2 }))
        | inr never ↦ inr (λ m w. elim w [
          | inl f ↦ (let once = cut-once f.1.theory k.theory f.1.base k.base (sym f.1.full ∙ k.is) f.1.clean k.clean in
              never f.1.place m (subst (λ b. Sees (theories_of Q) f.1.place k.theory b m) once.1 (subst (λ x. Sees (theories_of Q) f.1.place x f.1.base m) once.0 f.1.visible)))
          | inr f ↦ f.0 dot
        ])
      ]

  meant_by_base : (written : List ℕ) → ¬ IsIn 46 written → IsMeantOrNot written
  meant_by_base written clean = elim (last_or_none (theories_of Q) written) [
    | inl l ↦ inl (l.meaning, inr (clean, record { place = l.place; theory = l.theory; visible = l.sees; last = l.last }))
    | inr never ↦ inr (λ m w. elim w [ inl f ↦ clean f.0 | inr f ↦ never f.1.place f.1.theory m f.1.visible ])
  ]

  meant_or_not : (written : List ℕ) → IsMeantOrNot written
  meant_or_not written = elim (in_or_not 46 written) [ inl dot ↦ meant_in_full written dot | inr clean ↦ meant_by_base written clean ]

  -- Each written name has an answer.
  pub found_somehow : (written : List ℕ) → (fact : Option Fact) × IsFoundFact texts Q written fact
  found_somehow written = by (meant_or_not written)
    where
      by : IsMeantOrNot written → (fact : Option Fact) × IsFoundFact texts Q written fact
      by (inr never) = (None, never)
      by (inl (Built place, is)) = (Some (BuiltFact place), (Built place, is, refl))
      by (inl (Declared n, is)) = elim (found_is_declared texts Q facts written n is) [
        | inl a ↦ (Some (AxiomFact n a.0), (Declared n, is, (refl, a.1)))
        | inr p ↦ (Some (PromisedFact n p.0 p.1), (Declared n, is, (refl, p.2)))
      ]
