-- Where in load order names are visible.
use Rattle.std.proofs.Common.{◌≡◌, ◌≢◌, ◌↔◌, ℕ, zero, suc, ◌+◌, ◌-◌, ◌<◌, ◌≤◌, List, [], ◌∷◌, ◌++◌, length, get_or, take, drop, refl, ap, sym, ◌∙◌, inl, inr, subst, arith, Bool, true, false, nat_eq, true≢false}
use Rattle.std.proofs.lemmas.Bool.{eq-eqb, eqb-true}
use Rattle.std.proofs.lemmas.List.{drop_more}
use Rattle.std.proofs.lemmas.Option.{slice_get_within}
use Rattle.std.specs.Prelude.{Option, Some, None, codes, slice_get, MatchOption, IsTrue}
use Rattle.pure_text.specs.Lists.{IsIn}
use Rattle.pure_text.proofs.ListLaws.{in_split, in-append_left, in-append_right}
use Rattle.pure_definitions.specs.Names.{protect_name, builtin_count}
use Rattle.pure_typ.specs.NameTexts.{builtin_texts, name_texts, HasText, IsFound, NameHasBase}
use Rattle.pure_typ.proofs.NamesLemmas.{slice_get-left, Some-inj, length-builtin_texts}
use Rattle.pure_logic.specs.Content.{TheoryId, Content}
use Rattle.pure_logic.specs.Beginning.{theories_of}
use Rattle.pure_logic.proofs.AncestorLaws.{theories_are_told_apart}
use Rattle.pure_lookup.specs.Meaning.{Space, IsDeclaredIn, pure_text, full_text, Meaning, Declared, Built, IsWritable, IsVisible, IsMeantInFull, IsMeantByBase, IsMeant}
use Rattle.pure_lookup.specs.Places.{IsIndexOf, IsPlaceOf, IsTheoryIn, IsBest, IsPassed}
use Rattle.pure_lookup.specs.Laws.{IsInSession}
use Rattle.pure_lookup.proofs.MeaningLaws.{visible-writable}
use Rattle.pure_lookup.proofs.TextLemmas.{one_name, pure-has_no_dot, one_cut}

-- Pure's own names have full texts in Pure.
pub builtin-in_pure : (n : ℕ) → n < builtin_count → (base : List ℕ) × (slice_get builtin_texts n ≡ Some (full_text pure_text base))
unfolding builtin_texts pure_text
builtin-in_pure zero h = (codes "fun", refl)
builtin-in_pure (suc zero) h = (codes "prop", refl)
builtin-in_pure (suc (suc zero)) h = (codes "all", refl)
builtin-in_pure (suc (suc (suc zero))) h = (codes "imp", refl)
builtin-in_pure (suc (suc (suc (suc zero)))) h = (codes "eq", refl)
builtin-in_pure (suc (suc (suc (suc (suc zero))))) h = (codes "protect", refl)
builtin-in_pure (suc (suc (suc (suc (suc (suc n)))))) h = absurd (omega arith)

module _ (texts : List (List ℕ)) (Q : Content) (space : Space) where
  -- What is visible under a name has the name's text.
  visible-text : (p : ℕ) (t b : List ℕ) (n : ℕ) → IsVisible texts Q space p t b (Declared n) → HasText texts n (full_text t b)
  visible-text p t b n (inl h) = slice_get-left builtin_texts texts n (full_text t b) h.2.1
  visible-text p t b n (inr (v, i, place, text, h)) = h.1

  pub place-in_pure : (n : ℕ) → n < builtin_count → IsWritable Q space n → IsPlaceOf texts Q space n (Some 0)
  place-in_pure n h w = let text = builtin-in_pure n h in (pure_text, text.0, inl (refl, refl, (w, text.1)))

  module _ (s : IsInSession texts Q) where
    -- The theory of what is visible has no dot.
    visible-clean : (p : ℕ) (t b : List ℕ) (m : Meaning) → IsVisible texts Q space p t b m → ¬ IsIn 46 t
    visible-clean p t b m (inl h) = rw h.1 pure-has_no_dot
    visible-clean p t b m (inr (v, i, place, text, h)) = (s.theories v t i text).0

    pub place-untheoried : (n : ℕ) (text : List ℕ) → HasText texts n text → ¬ IsIn 46 text → IsPlaceOf texts Q space n None
    place-untheoried n text h clean p t b v =
        let same : text ≡ full_text t b = Some-inj (sym h ∙ visible-text p t b n v) in
        clean (rw same (in-append_right 46 t (46 ∷ b) (inl refl)))

    pub place-textless : (n : ℕ) → slice_get (name_texts texts) n ≡ None → IsPlaceOf texts Q space n None
    place-textless n h p t b v = let text = visible-text p t b n v in absurd (cc)

    -- A name that isn't Pure's is visible in the theory in front of its text's first dot alone.
    outside : (n : ℕ) (text theory : List ℕ) → builtin_count ≤ n → HasText texts n text → IsTheoryIn text theory → (p : ℕ) (t b : List ℕ) → IsVisible texts Q space p t b (Declared n)
        → (u : TheoryId) × IsIn u (theories_of Q) × HasText texts u.name theory
    outside n text theory h has cut p t b (inl v) =
        let few = slice_get_within builtin_texts n (full_text t b) v.2.1 in
        let six = length-builtin_texts in
        absurd (omega arith)
    outside n text theory h has cut p t b (inr (u, i, place, known, v)) =
        let same : full_text t b ≡ full_text theory cut.0 = Some-inj (sym v.1 ∙ has) ∙ cut.2 in
        let theories : t ≡ theory = (one_cut t theory b cut.0 (s.theories u t i known).0 cut.1 same).0 in
        (u, i, rw (← theories) known)

    pub place-unnamed : (n : ℕ) (text theory : List ℕ) → builtin_count ≤ n → HasText texts n text → IsTheoryIn text theory → IsFound (name_texts texts) theory None → IsPlaceOf texts Q space n None
    place-unnamed n text theory h has cut none_so p t b v = let u = outside n text theory h has cut p t b v in none_so u.0.name u.2

    pub place-at_index : (n k : ℕ) (text theory : List ℕ) → builtin_count ≤ n → HasText texts n text → IsTheoryIn text theory → IsFound (name_texts texts) theory (Some k) → IsWritable Q space n → (index : ℕ) → IsIndexOf Q k (Some index)
        → IsPlaceOf texts Q space n (Some (index + 1))
    place-at_index n k text theory h has cut named w index (t, i, name, place) =
        (theory, cut.0, inr (t, i, omega (arith, place), rw name named, (w, has ∙ ap Some cut.2)))

    pub place-unindexed : (n k : ℕ) (text theory : List ℕ) → builtin_count ≤ n → HasText texts n text → IsTheoryIn text theory → IsFound (name_texts texts) theory (Some k) → IsIndexOf Q k None → IsPlaceOf texts Q space n None
    place-unindexed n k text theory h has cut named absent p t b v =
        let u = outside n text theory h has cut p t b v in
        absent u.0 u.1 (one_name texts s.names theory u.0.name k u.2 named)

    -- Look-ups by full names.
    pub full-invisible : (written : List ℕ) (k : ℕ) → HasText texts k written → IsPlaceOf texts Q space k None → (n : ℕ) → ¬ IsMeantInFull texts Q space written (Declared n)
    full-invisible written k has absent n h =
        let text : HasText texts n written = visible-text h.place h.theory h.base n h.visible ∙ ap Some (sym h.full) in
        let same : n ≡ k = one_name texts s.names written n k text has in
        absent h.place h.theory h.base (rw (← same) h.visible)

    -- A name with the base is visible with just this base.
    at-base : (base : List ℕ) (n p : ℕ) (t b : List ℕ) → NameHasBase texts base n → IsVisible texts Q space p t b (Declared n) → b ≡ base
    at-base base n p t b (text, has, (theory, clean, e)) v =
        let same : full_text t b ≡ full_text theory base = Some-inj (sym (visible-text p t b n v) ∙ has) ∙ e in
        (one_cut t theory b base (visible-clean p t b (Declared n) v) clean same).1

    -- The names with the base are all that are visible with it.
    visible-based : (base : List ℕ) (n p : ℕ) (t : List ℕ) → IsVisible texts Q space p t base (Declared n) → NameHasBase texts base n
    visible-based base n p t v = (full_text t base, visible-text p t base n v, (t, visible-clean p t base (Declared n) v, refl))

    -- A name with a base, under its own text.
    pub full-found : (written base : List ℕ) (n : ℕ) (place : ℕ) → HasText texts n written → NameHasBase texts base n → ¬ IsIn 46 base → IsPlaceOf texts Q space n (Some place) → IsMeantInFull texts Q space written (Declared n)
    full-found written base n place has based clean (t, b, v) = record {
      place = place;
      theory = t;
      base = b;
      full = Some-inj (sym has ∙ visible-text place t b n v);
      clean = rw (at-base base n place t b based v) clean;
      visible = v;
    }

    -- Who has the text written is the name with it.
    full-name : (written : List ℕ) (k : ℕ) → HasText texts k written → (n : ℕ) → IsMeantInFull texts Q space written (Declared n) → n ≡ k
    full-name written k has n h = one_name texts s.names written n k (visible-text h.place h.theory h.base n h.visible ∙ ap Some (sym h.full)) has

    pub full-baseless : (written : List ℕ) (k : ℕ) → HasText texts k written → ((base : List ℕ) → ¬ NameHasBase texts base k) → (n : ℕ) → ¬ IsMeantInFull texts Q space written (Declared n)
    full-baseless written k has none n h = none h.base (rw (← full-name written k has n h) (visible-based h.base n h.place h.theory h.visible))

    pub full-dotted : (written base : List ℕ) (k : ℕ) → HasText texts k written → NameHasBase texts base k → IsIn 46 base → (n : ℕ) → ¬ IsMeantInFull texts Q space written (Declared n)
    full-dotted written base k has based dot n h = h.clean (rw (at-base base n h.place h.theory h.base (rw (full-name written k has n h) based) h.visible) dot)

    pub base-found : (written : List ℕ) (names : List ℕ) (n last : ℕ) → ((k : ℕ) → NameHasBase texts written k → IsIn k names) → IsBest texts Q space written names (Some n) last → IsMeantByBase texts Q space written (Declared n)
    base-found written names n last all ((t, v), after) = record { place = last; theory = t; visible = v; last = by }
      where
        by : (other : ℕ) (theory : List ℕ) (m : Meaning) → IsVisible texts Q space other theory written m → other ≤ last
        by other theory (Declared k) v = after k (all k (visible-based written k other theory v)) other theory v
        by other theory (Built k) (inl h) = let first = h.0 in omega arith
        by other theory (Built k) (inr (u, i, place, text, h)) = absurd h

    pub base-absent : (written : List ℕ) (names : List ℕ) (last : ℕ) → ((k : ℕ) → NameHasBase texts written k → IsIn k names) → IsBest texts Q space written names None last → (n : ℕ) → ¬ IsMeantByBase texts Q space written (Declared n)
    base-absent written names last all (start, absent) n h = absent n (all n (visible-based written n h.place h.theory h.visible)) h.place h.theory h.visible

    -- A name is visible with a base at one place.
    place-once : (base : List ℕ) (n p q : ℕ) (t u : List ℕ) → IsVisible texts Q space p t base (Declared n) → IsVisible texts Q space q u base (Declared n) → p ≡ q
    place-once base n p q t u v w = by v w
      where
        same : t ≡ u
        same = (one_cut t u base base (visible-clean p t base (Declared n) v) (visible-clean q u base (Declared n) w) (Some-inj (sym (visible-text p t base n v) ∙ visible-text q u base n w))).0

        by : IsVisible texts Q space p t base (Declared n) → IsVisible texts Q space q u base (Declared n) → p ≡ q
        by (inl h) (inl k) = h.0 ∙ sym k.0
        by (inl h) (inr (x, i, place, text, k)) = absurd ((s.theories x u i text).1 (sym same ∙ h.1))
        by (inr (x, i, place, text, h)) (inl k) = absurd ((s.theories x t i text).1 (same ∙ k.1))
        by (inr (x, i, place, text, h)) (inr (y, j, place', text', k)) =
            let names : x.name ≡ y.name = one_name texts s.names u x.name y.name (rw (← same) text) text' in
            let theories : x ≡ y = (theories_are_told_apart Q s.apart).by_name x y i j names in
            let indexes : x.index ≡ y.index = ap (λ z. z.index) theories in
            omega arith

    -- One name more.
    module _ (base names : List ℕ) (x : ℕ) (based : NameHasBase texts base x) where
      pub best-kept : (best : Option ℕ) (last : ℕ) → IsPlaceOf texts Q space x None → IsBest texts Q space base names best last → IsBest texts Q space base (names ++ x ∷ []) best last
      best-kept None last absent (start, none_so) = (start, λ n m p t v. elim (in_split n names (x ∷ []) m) [ inl i ↦ none_so n i p t v | inr i ↦ elim i [ inl e ↦ absent p t base (rw (← e) v) | inr f ↦ absurd f ] ])
      best-kept (Some b) last absent (there, after) = (there, λ n m p t v. elim (in_split n names (x ∷ []) m) [ inl i ↦ after n i p t v | inr i ↦ elim i [ inl e ↦ absurd (absent p t base (rw (← e) v)) | inr f ↦ absurd f ] ])

      pub best-new : (best : Option ℕ) (last place : ℕ) → IsPlaceOf texts Q space x (Some place) → last ≤ place → IsBest texts Q space base names best last → IsBest texts Q space base (names ++ x ∷ []) (Some x) place
      best-new best last place (t, b, v) h before = ((t, here), λ n m p u w. elim (in_split n names (x ∷ []) m) [ inl i ↦ old best before n i p u w | inr i ↦ elim i [ inl e ↦ itself p u (rw (← e) w) | inr f ↦ absurd f ] ])
        where
          here : IsVisible texts Q space place t base (Declared x)
          here = rw (← at-base base x place t b based v) v

          itself : (p : ℕ) (u : List ℕ) → IsVisible texts Q space p u base (Declared x) → p ≤ place
          itself p u w = let same = place-once base x p place u t w here in omega arith

          old : (best : Option ℕ) → IsBest texts Q space base names best last → (n : ℕ) → IsIn n names → (p : ℕ) (u : List ℕ) → IsVisible texts Q space p u base (Declared n) → p ≤ place
          old None (start, none_so) n i p u w = absurd (none_so n i p u w)
          old (Some k) (there, after) n i p u w = let less = after n i p u w in omega arith

      pub best-before : (best : Option ℕ) (last place : ℕ) → IsPlaceOf texts Q space x (Some place) → place < last → IsBest texts Q space base names best last → IsBest texts Q space base (names ++ x ∷ []) best last
      best-before None last place here h (start, none_so) = absurd (omega arith)
      best-before (Some k) last place (t, b, v) h (there, after) = (there, λ n m p u w. elim (in_split n names (x ∷ []) m) [ inl i ↦ after n i p u w | inr i ↦ elim i [ inl e ↦ itself p u (rw (← e) w) | inr f ↦ absurd f ] ])
        where
          itself : (p : ℕ) (u : List ℕ) → IsVisible texts Q space p u base (Declared x) → p ≤ last
          itself p u w = let same = place-once base x p place u t w (rw (← at-base base x place t b based v) v) in omega arith

    -- What is passed over: a name that is visible nowhere, or before the last place.
    module _ (n last : ℕ) where
      pub passed-unplaced : (IsWritable Q space n → IsPlaceOf texts Q space n None) → IsPassed texts Q space n last
      passed-unplaced absent p t b v = absurd (absent (visible-writable texts Q space p t b n v) p t b v)

      pub passed-unwritable : (¬ IsWritable Q space n) → IsPassed texts Q space n last
      passed-unwritable none p t b v = absurd (none (visible-writable texts Q space p t b n v))

      same-place : (p q : ℕ) (t u b c : List ℕ) → IsVisible texts Q space p t b (Declared n) → IsVisible texts Q space q u c (Declared n) → p ≡ q
      same-place p q t u b c v w =
          let full : full_text u c ≡ full_text t b = Some-inj (sym (visible-text q u c n w) ∙ visible-text p t b n v) in
          let bases : c ≡ b = (one_cut u t c b (visible-clean q u c (Declared n) w) (visible-clean p t b (Declared n) v) full).1 in
          place-once b n p q t u v (subst (λ k. IsVisible texts Q space q u k (Declared n)) bases w)

      pub passed-before : (place : ℕ) → (IsWritable Q space n → IsPlaceOf texts Q space n (Some place)) → place < last → IsPassed texts Q space n last
      passed-before place here less p t b v =
          let there = here (visible-writable texts Q space p t b n v) in
          let same = same-place p place t there.0 b there.1 v there.2 in
          omega (arith, same, less)

    pub passed-everywhere : (n : ℕ) → IsPassed texts Q space n 0 → IsPlaceOf texts Q space n None
    passed-everywhere n passed p t b v = let less = passed p t b v in absurd (omega (arith, less))

    -- One name more in front.
    module _ (base names : List ℕ) (x : ℕ) where
      turned-in : (n : ℕ) → IsIn n (x ∷ names) → IsIn n (names ++ x ∷ [])
      turned-in n m = elim m [ inl e ↦ in-append_right n names (x ∷ []) (inl e) | inr i ↦ in-append_left n names (x ∷ []) i ]

      pub best-front : (best : Option ℕ) (last : ℕ) → IsBest texts Q space base (names ++ x ∷ []) best last → IsBest texts Q space base (x ∷ names) best last
      best-front None last (start, none_so) = (start, λ n m. none_so n (turned-in n m))
      best-front (Some b) last (there, after) = (there, λ n m. after n (turned-in n m))

      pub best-passed : (best : Option ℕ) (last : ℕ) → IsPassed texts Q space x last → IsBest texts Q space base names best last → IsBest texts Q space base (x ∷ names) best last
      best-passed None last passed (start, none_so) = (start, λ n m p t v. elim m [ inl e ↦ (let less = passed p t base (rw (← e) v) in absurd (omega (arith, start, less))) | inr i ↦ none_so n i p t v ])
      best-passed (Some b) last passed (there, after) = (there, λ n m p t v. elim m [ inl e ↦ (let less = passed p t base (rw (← e) v) in omega (arith, less)) | inr i ↦ after n i p t v ])

    -- The answer of a look-up, for a written name with a dot and for one without.
    pub meant-full : (others : List (List ℕ)) (written theory : List ℕ) (r : Option ℕ) → others ≡ texts → IsTheoryIn written theory
        → MatchOption r ((n : ℕ) → ¬ IsMeantInFull others Q space written (Declared n)) (λ n. IsMeantInFull others Q space written (Declared n))
        → MatchOption r ((n : ℕ) → ¬ IsMeant texts Q space written (Declared n)) (λ n. IsMeant texts Q space written (Declared n))
    meant-full others written theory r same cut h = by r (rw same at h)
      where
        dot : IsIn 46 written
        dot = rw cut.2 (in-append_right 46 theory (46 ∷ cut.0) (inl refl))

        by : (r : Option ℕ) → MatchOption r ((n : ℕ) → ¬ IsMeantInFull texts Q space written (Declared n)) (λ n. IsMeantInFull texts Q space written (Declared n))
            → MatchOption r ((n : ℕ) → ¬ IsMeant texts Q space written (Declared n)) (λ n. IsMeant texts Q space written (Declared n))
        by None h = λ n m. elim m [ inl f ↦ h n f.1 | inr b ↦ b.0 dot ]
        by (Some n) h = inl (dot, h)

    pub meant-based : (others : List (List ℕ)) (written : List ℕ) (names : List ℕ) (r : Option ℕ) (last : ℕ) → others ≡ texts → ¬ IsIn 46 written → ((k : ℕ) → NameHasBase texts written k → IsIn k names) → IsBest others Q space written names r last
        → MatchOption r ((n : ℕ) → ¬ IsMeant texts Q space written (Declared n)) (λ n. IsMeant texts Q space written (Declared n))
    meant-based others written names r last same clean all h = by r (rw same at h)
      where
        by : (r : Option ℕ) → IsBest texts Q space written names r last → MatchOption r ((n : ℕ) → ¬ IsMeant texts Q space written (Declared n)) (λ n. IsMeant texts Q space written (Declared n))
        by None h = λ n m. elim m [ inl f ↦ clean f.0 | inr b ↦ base-absent written names last all h n b.1 ]
        by (Some n) h = inr (clean, base-found written names n last all h)

-- What the tests of a name say.
pub writable-exactly : (Q : Content) (space : Space) (n : ℕ) (b d : Bool) → b ≡ nat_eq n protect_name → b ≡ false → (IsTrue d ↔ IsDeclaredIn space Q.declarations n) → IsTrue d ↔ IsWritable Q space n
writable-exactly Q space n b d e f h = (λ t. record { declared = h.0 t; other = λ same. (let yes = eq-eqb n protect_name same in true≢false (sym yes ∙ (sym e ∙ f))) }, λ w. h.1 w.declared)

pub unwritable : (Q : Content) (space : Space) (n : ℕ) (b : Bool) → b ≡ nat_eq n protect_name → b ≡ true → ¬ IsWritable Q space n
unwritable Q space n b e t w = w.other (eqb-true n protect_name (sym e ∙ t))

-- A list from the end: one more element.
pub one-before : (xs : List ℕ) (back x : ℕ) → back < length xs → x ≡ get_or xs (length xs - 1 - back) x → drop (length xs - (back + 1)) xs ≡ x ∷ drop (length xs - back) xs
one-before xs back x h read =
    let here : length xs - (back + 1) ≡ length xs - 1 - back = omega arith in
    let next : length xs - 1 - back + 1 ≡ length xs - back = omega (arith, h) in
    let split = drop_more xs (length xs - 1 - back) x (omega (arith, h)) in
    rw here (split ∙ (ap (λ y. y ∷ drop (length xs - 1 - back + 1) xs) (sym read) ∙ ap (λ k. x ∷ drop k xs) next))

-- A text with a theory in front has a dot.
pub dotted : (text theory : List ℕ) → IsTheoryIn text theory → IsIn 46 text
dotted text theory cut = rw cut.2 (in-append_right 46 theory (46 ∷ cut.0) (inl refl))

-- The text is cut at a dot, and what is in front of it has none.
pub dot-split : (text : List ℕ) (at : ℕ) → at < length text → get_or text at 0 ≡ 46 → text ≡ take at text ++ 46 ∷ drop (at + 1) text
dot-split [] at h e = absurd (omega arith)
dot-split (x ∷ xs) zero h e = let same : x ≡ 46 = e in rw same refl
dot-split (x ∷ xs) (suc at) h e =
    let next : suc at + 1 ≡ suc (at + 1) = omega arith in
    rw next (ap (λ l. x ∷ l) (dot-split xs at (omega arith) e))

pub no_dot-next : (text : List ℕ) (at : ℕ) → at < length text → get_or text at 0 ≢ 46 → ¬ IsIn 46 (take at text) → ¬ IsIn 46 (take (at + 1) text)
no_dot-next [] at h other clean m = absurd (omega arith)
no_dot-next (x ∷ xs) zero h other clean m = elim m [ inl e ↦ other (sym e) | inr f ↦ absurd f ]
no_dot-next (x ∷ xs) (suc at) h other clean m =
    let next : suc at + 1 ≡ suc (at + 1) = omega arith in
    elim (rw next at m) [ inl e ↦ clean (inl e) | inr n ↦ no_dot-next xs at (omega arith) other (λ i. clean (inr i)) n ]
