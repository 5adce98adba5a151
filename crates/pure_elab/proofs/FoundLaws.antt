-- The computed vocabulary of a content is its vocabulary.
use Rattle.std.proofs.Common.{◌≡◌, ◌≢◌, ℕ, zero, suc, ◌+◌, ◌≤◌, Bool, true, false, not, ◌&&◌, ◌||◌, List, [], ◌∷◌, ◌++◌, Option, Some, None, MatchOption, nat_eq, nat_lt, nat_le, bytes_eq, slice_get, if◌then◌else◌, inl, inr, ⊎_elim, refl, ap, sym, subst, ◌∙◌, append_assoc, append-nil, eqb-true, eq-eqb, arith}
use Rattle.std.proofs.lemmas.Bool.{ltb-true, ltb-false, leb-true, leb-false}
use Rattle.std.proofs.lemmas.Slice.Eq.{bytes_eq-Decides}
use Rattle.pure_text.specs.Lists.{IsIn}
use Rattle.pure_definitions.specs.Names.{builtin_count, protect_name}
use Rattle.pure_definitions.specs.Types.Typ.{Typ}
use Rattle.pure_definitions.specs.Declarations.Decl.{Decl, ClassDecl, ConDecl, ArityDecl, ConstDecl, AxiomDecl, PromiseDecl}
use Rattle.pure_typ.specs.NameTexts.{builtin_texts, name_texts, HasText, IsFound, NameHasBase}
use Rattle.pure_typ.specs.NameBases.{name_base, names_with_base}
use Rattle.pure_typ.proofs.ByBaseLemmas.{with_base-exact}
use Rattle.pure_typ.proofs.BaseLemmas.{name-is, name-has}
use Rattle.pure_logic.specs.Content.{TheoryId, Content, IsContent}
use Rattle.pure_logic.specs.Beginning.{theories_of}
use Rattle.pure_lookup.specs.Meaning.{Space, classes, constructors, constants, facts, full_text, Meaning, Declared, Built, IsDeclaredIn, IsWritable, IsVisible, IsMeantInFull, IsMeant}
use Rattle.pure_lookup.specs.Places.{IsPlaceOf, IsTheoryIn, IsBest}
use Rattle.pure_lookup.specs.LookUps.{IsFoundName}
use Rattle.pure_lookup.specs.Laws.{IsInSession}
use Rattle.pure_lookup.proofs.MeaningLaws.{visible-writable}
use Rattle.pure_lookup.proofs.PlaceLemmas.{place-in_pure, place-untheoried, place-textless, place-unnamed, place-at_index, place-unindexed, full-found, full-invisible, full-baseless, full-dotted, dotted, best-kept, best-new, best-before, meant-full, meant-based}
use Rattle.pure_certify.specs.Tables.{IsParams, IsUnknownConst, IsConstOf}
use Rattle.pure_elab.specs.Meant.{outward}
use Rattle.pure_elab.specs.Found.{longer, front_of, number_among, index_among, declares, is_declared_in, place_by_number, place_by_front, place_by_text, place_at, Best, with_candidate, best_of, if_visible, if_clean, if_based, found_in_full, found_by_front, found, params_among, typ_declared_among}
use Rattle.pure_elab.specs.Laws.{ContentHasVocabulary}

-- What is said of a text's front.
abbrev FrontSays : List ℕ → Option (List ℕ) → Type 0
FrontSays text (Some theory) = IsTheoryIn text theory
FrontSays text None = ¬ IsIn 46 text

front_by : (q : Bool) (b : ℕ) (bs : List ℕ) (o : Option (List ℕ)) → nat_eq b 46 ≡ q → FrontSays bs o → FrontSays (b ∷ bs) (if q then Some [] else longer b o)
front_by true b bs o t h = let same = eqb-true b 46 t in (bs, λ m. m, λ i. same i ∷ bs)
front_by false b bs None t h = λ m. ⊎_elim (λ e. let yes = eq-eqb b 46 (sym e) in absurd (cc)) (λ n. h n) m
front_by false b bs (Some th) t h = (h.0, λ m. ⊎_elim (λ e. let yes = eq-eqb b 46 (sym e) in absurd (cc)) (λ n. h.1 n) m, ap (λ l. b ∷ l) h.2)

front_says : (text : List ℕ) → FrontSays text (front_of text)
front_says [] = λ m. m
front_says (b ∷ bs) = front_by (nat_eq b 46) b bs (front_of bs) refl (front_says bs)

missing_behind : (x : List ℕ) (xs : List (List ℕ)) (text : List ℕ) → bytes_eq x text ≡ false → ((n : ℕ) → slice_get xs n ≢ Some text) → (n : ℕ) → slice_get (x ∷ xs) n ≢ Some text
missing_behind x xs text t h zero = λ e. let same : x ≡ text = cc in let yes = (bytes_eq-Decides x text).1 same in absurd (cc)
missing_behind x xs text t h (suc n) = h n

number_by : (q : Bool) (x : List ℕ) (xs : List (List ℕ)) (text : List ℕ) (o : Option ℕ) → bytes_eq x text ≡ q → IsFound xs text o → IsFound (x ∷ xs) text (if q then Some 0 else outward o)
number_by true x xs text o t h = ap Some ((bytes_eq-Decides x text).0 t)
number_by false x xs text None t h = λ n. missing_behind x xs text t h n
number_by false x xs text (Some k) t h = let later : k + 1 ≡ suc k = omega arith in rw later h

number_says : (xs : List (List ℕ)) (text : List ℕ) → IsFound xs text (number_among xs text)
number_says [] text = λ n e. absurd (cc)
number_says (x ∷ xs) text = number_by (bytes_eq x text) x xs text (number_among xs text) refl (number_says xs text)

abbrev IndexSays : List TheoryId → ℕ → Option ℕ → Type 0
IndexSays ts n (Some index) = (t : TheoryId) × IsIn t ts × (t.name ≡ n) × (t.index ≡ index)
IndexSays ts n None = (t : TheoryId) → IsIn t ts → ¬ (t.name ≡ n)

index_by : (q : Bool) (t : TheoryId) (ts : List TheoryId) (n : ℕ) (o : Option ℕ) → nat_eq t.name n ≡ q → IndexSays ts n o → IndexSays (t ∷ ts) n (if q then Some t.index else o)
index_by true t ts n o e h = (t, inl refl, eqb-true t.name n e, refl)
index_by false t ts n None e h = λ u m. ⊎_elim (λ same named. let yes = eq-eqb t.name n (subst (λ (x : TheoryId). x.name ≡ n) same named) in absurd (cc)) (λ m named. h u m named) m
index_by false t ts n (Some i) e h = (h.0, inr h.1, h.2, h.3)

index_says : (ts : List TheoryId) (n : ℕ) → IndexSays ts n (index_among ts n)
index_says [] n = λ t m. absurd m
index_says (t ∷ ts) n = index_by (nat_eq t.name n) t ts n (index_among ts n) refl (index_says ts n)

-- The name spaces that elaboration asks.
abbrev pub IsAsked : Space → Type 0
IsAsked classes = Unit {0}
IsAsked constructors = Unit {0}
IsAsked constants = Unit {0}
IsAsked facts = ⊥

more_declared : (space : Space) (d : Decl) (ds : List Decl) (n : ℕ) → IsAsked space → IsDeclaredIn space ds n → IsDeclaredIn space (d ∷ ds) n
more_declared classes d ds n a h = (h.0, inr h.1, h.2)
more_declared constructors d ds n a h = (h.0, inr h.1)
more_declared constants d ds n a h = (h.0, inr h.1)
more_declared facts d ds n a h = absurd a

here_declared : (space : Space) (d : Decl) (ds : List Decl) (n : ℕ) → IsAsked space → declares space d n ≡ true → IsDeclaredIn space (d ∷ ds) n
here_declared classes (ClassDecl k) ds n a e = (k, inl refl, eqb-true k.name n e)
here_declared classes (ConDecl k c) ds n a e = absurd (cc)
here_declared classes (ArityDecl r) ds n a e = absurd (cc)
here_declared classes (ConstDecl c T) ds n a e = absurd (cc)
here_declared classes (AxiomDecl x A) ds n a e = absurd (cc)
here_declared classes (PromiseDecl x l A) ds n a e = absurd (cc)
here_declared constructors (ClassDecl k) ds n a e = absurd (cc)
here_declared constructors (ConDecl k c) ds n a e = (c, inl (ap (λ m. ConDecl m c) (sym (eqb-true k n e))))
here_declared constructors (ArityDecl r) ds n a e = absurd (cc)
here_declared constructors (ConstDecl c T) ds n a e = absurd (cc)
here_declared constructors (AxiomDecl x A) ds n a e = absurd (cc)
here_declared constructors (PromiseDecl x l A) ds n a e = absurd (cc)
here_declared constants (ClassDecl k) ds n a e = absurd (cc)
here_declared constants (ConDecl k c) ds n a e = absurd (cc)
here_declared constants (ArityDecl r) ds n a e = absurd (cc)
here_declared constants (ConstDecl c T) ds n a e = (T, inl (ap (λ m. ConstDecl m T) (sym (eqb-true c n e))))
here_declared constants (AxiomDecl x A) ds n a e = absurd (cc)
here_declared constants (PromiseDecl x l A) ds n a e = absurd (cc)
here_declared facts d ds n a e = absurd a

declared_by : (q : Bool) (space : Space) (d : Decl) (ds : List Decl) (n : ℕ) → IsAsked space → declares space d n ≡ q → (is_declared_in space ds n ≡ true → IsDeclaredIn space ds n) → (q || is_declared_in space ds n) ≡ true → IsDeclaredIn space (d ∷ ds) n
declared_by true space d ds n a e rest h = here_declared space d ds n a e
declared_by false space d ds n a e rest h = more_declared space d ds n a (rest h)

declared_says : (space : Space) (ds : List Decl) (n : ℕ) → IsAsked space → is_declared_in space ds n ≡ true → IsDeclaredIn space ds n
declared_says space [] n a h = absurd (cc)
declared_says space (d ∷ ds) n a h = declared_by (declares space d n) space d ds n a refl (λ e. declared_says space ds n a e) h

in_any : (space : Space) (d : Decl) (ds : List Decl) (n : ℕ) → IsIn d ds → declares space d n ≡ true → is_declared_in space ds n ≡ true
in_any space d [] n m e = absurd m
in_any space d (c ∷ cs) n (inl same) e = let first : declares space c n ≡ true = subst (λ (x : Decl). declares space x n ≡ true) same e in or_first (declares space c n) (is_declared_in space cs n) first
  where
    or_first : (a b : Bool) → a ≡ true → (a || b) ≡ true
    or_first a b h = rw h refl
in_any space d (c ∷ cs) n (inr m) e = or_second (declares space c n) (is_declared_in space cs n) (in_any space d cs n m e)
  where
    or_second : (a b : Bool) → b ≡ true → (a || b) ≡ true
    or_second true b h = refl
    or_second false b h = h

says_declared : (space : Space) (ds : List Decl) (n : ℕ) → IsAsked space → IsDeclaredIn space ds n → is_declared_in space ds n ≡ true
says_declared classes ds n a h = in_any classes (ClassDecl h.0) ds n h.1 (eq-eqb h.0.name n h.2)
says_declared constructors ds n a h = in_any constructors (ConDecl n h.0) ds n h.1 (eq-eqb n n refl)
says_declared constants ds n a h = in_any constants (ConstDecl n h.0) ds n h.1 (eq-eqb n n refl)
says_declared facts ds n a h = absurd a

get_left : {A : Type 0} (xs ys : List A) (n : ℕ) (x : A) → slice_get xs n ≡ Some x → slice_get (xs ++ ys) n ≡ Some x
get_left [] ys n x e = absurd (cc)
get_left (y ∷ xs) ys zero x e = e
get_left (y ∷ xs) ys (suc n) x e = get_left xs ys n x e

module _ (texts : List (List ℕ)) (Q : Content) (s : IsInSession texts Q) (space : Space) (a : IsAsked space) where
  writable_by : (p d : Bool) (n : ℕ) → nat_eq n protect_name ≡ p → is_declared_in space Q.declarations n ≡ d → (not p && d) ≡ true → IsWritable Q space n
  writable_by true d n e f h = absurd (cc)
  writable_by false false n e f h = absurd (cc)
  writable_by false true n e f h = record { declared = declared_says space Q.declarations n a f; other = λ same. let yes = eq-eqb n protect_name same in absurd (cc) }

  unwritable_by : (p d : Bool) (n : ℕ) → nat_eq n protect_name ≡ p → is_declared_in space Q.declarations n ≡ d → (not p && d) ≡ false → ¬ IsWritable Q space n
  unwritable_by true d n e f h w = w.other (eqb-true n protect_name e)
  unwritable_by false false n e f h w = let yes = says_declared space Q.declarations n a w.declared in absurd (cc)
  unwritable_by false true n e f h w = absurd (cc)

  place_says_by_number : (n : ℕ) (text theory : List ℕ) → builtin_count ≤ n → HasText texts n text → IsTheoryIn text theory → IsWritable Q space n → (o : Option ℕ) → IsFound (name_texts texts) theory o → IsPlaceOf texts Q space n (place_by_number Q o)
  place_says_by_number n text theory big has cut w None found = place-unnamed texts Q space s n text theory big has cut found
  place_says_by_number n text theory big has cut w (Some k) found = by_index (index_among (theories_of Q) k) (index_says (theories_of Q) k)
    where
      by_index : (o : Option ℕ) → IndexSays (theories_of Q) k o → IsPlaceOf texts Q space n (outward o)
      by_index None h = place-unindexed texts Q space s n k text theory big has cut found h
      by_index (Some i) h = place-at_index texts Q space s n k text theory big has cut found w i h

  place_says_by_front : (n : ℕ) (text : List ℕ) → builtin_count ≤ n → HasText texts n text → IsWritable Q space n → (o : Option (List ℕ)) → FrontSays text o → IsPlaceOf texts Q space n (place_by_front texts Q o)
  place_says_by_front n text big has w None clean = place-untheoried texts Q space s n text has clean
  place_says_by_front n text big has w (Some theory) cut = place_says_by_number n text theory big has cut w (number_among (name_texts texts) theory) (number_says (name_texts texts) theory)

  place_says_by_text : (n : ℕ) → builtin_count ≤ n → IsWritable Q space n → (o : Option (List ℕ)) → slice_get (name_texts texts) n ≡ o → IsPlaceOf texts Q space n (place_by_text texts Q o)
  place_says_by_text n big w None e = place-textless texts Q space s n e
  place_says_by_text n big w (Some text) e = place_says_by_front n text big e w (front_of text) (front_says text)

  place_says_writable : (q : Bool) (n : ℕ) → nat_lt n builtin_count ≡ q → IsWritable Q space n → IsPlaceOf texts Q space n (if q then Some 0 else place_by_text texts Q (slice_get (name_texts texts) n))
  place_says_writable true n e w = place-in_pure texts Q space n (ltb-true n builtin_count e) w
  place_says_writable false n e w = place_says_by_text n (ltb-false n builtin_count e) w (slice_get (name_texts texts) n) refl

  place_by : (q : Bool) (n : ℕ) → (not (nat_eq n protect_name) && is_declared_in space Q.declarations n) ≡ q
      → IsPlaceOf texts Q space n (if q then (if nat_lt n builtin_count then Some 0 else place_by_text texts Q (slice_get (name_texts texts) n)) else None)
  place_by true n e = place_says_writable (nat_lt n builtin_count) n refl (writable_by (nat_eq n protect_name) (is_declared_in space Q.declarations n) n refl refl e)
  place_by false n e = λ p t b v. unwritable_by (nat_eq n protect_name) (is_declared_in space Q.declarations n) n refl refl e (visible-writable texts Q space p t b n v)

  place_says : (n : ℕ) → IsPlaceOf texts Q space n (place_at texts Q space n)
  place_says n = place_by (not (nat_eq n protect_name) && is_declared_in space Q.declarations n) n refl

  module _ (base : List ℕ) where
    candidate_by : (q : Bool) (names : List ℕ) (x : ℕ) → NameHasBase texts base x → (b : Best) (place : ℕ) → nat_le b.last place ≡ q → IsPlaceOf texts Q space x (Some place) → IsBest texts Q space base names b.name b.last
        → let c : Best = if q then record { name = Some x; last = place } else b in IsBest texts Q space base (names ++ x ∷ []) c.name c.last
    candidate_by true names x based b place e here best = best-new texts Q space s base names x based b.name b.last place here (leb-true b.last place e) best
    candidate_by false names x based b place e here best = best-before texts Q space s base names x based b.name b.last place here (leb-false b.last place e) best

    candidate_says : (names : List ℕ) (x : ℕ) → NameHasBase texts base x → (b : Best) (o : Option ℕ) → IsPlaceOf texts Q space x o → IsBest texts Q space base names b.name b.last
        → IsBest texts Q space base (names ++ x ∷ []) (with_candidate b x o).name (with_candidate b x o).last
    candidate_says names x based b None here best = best-kept texts Q space s base names x based b.name b.last here best
    candidate_says names x based b (Some place) here best = candidate_by (nat_le b.last place) names x based b place refl here best

    best_says : (done names : List ℕ) (b : Best) → ((x : ℕ) → IsIn x names → NameHasBase texts base x) → IsBest texts Q space base done b.name b.last
        → IsBest texts Q space base (done ++ names) (best_of texts Q space b names).name (best_of texts Q space b names).last
    best_says done [] b based best = rw (append-nil done) best
    best_says done (x ∷ xs) b based best =
        rw (sym (append_assoc done (x ∷ []) xs)) (best_says (done ++ x ∷ []) xs (with_candidate b x (place_at texts Q space x)) (λ y m. based y (inr m)) (candidate_says done x (based x (inl refl)) b (place_at texts Q space x) (place_says x) best))

  text_of : (n p : ℕ) (t b : List ℕ) → IsVisible texts Q space p t b (Declared n) → HasText texts n (full_text t b)
  text_of n p t b (inl v) = get_left builtin_texts texts n (full_text t b) v.2.1
  text_of n p t b (inr v) = v.4.1

  -- A written name that means no declared name means nothing.
  to_found : (written : List ℕ) (o : Option ℕ) → MatchOption o ((n : ℕ) → ¬ IsMeant texts Q space written (Declared n)) (λ n. IsMeant texts Q space written (Declared n)) → IsFoundName texts Q space written o
  to_found written (Some n) h = h
  to_found written None h = nothing
    where
      unbuilt : (p : ℕ) (t b : List ℕ) (k : ℕ) → IsVisible texts Q space p t b (Built k) → ⊥
      unbuilt p t b k (inl v) = not_facts v.2.0
        where
          not_facts : space ≡ facts → ⊥
          not_facts e = subst IsAsked e a
      unbuilt p t b k (inr v) = v.4

      nothing : (m : Meaning) → ¬ IsMeant texts Q space written m
      nothing (Declared n) m = h n m
      nothing (Built k) (inl m) = unbuilt m.1.place m.1.theory m.1.base k m.1.visible
      nothing (Built k) (inr m) = unbuilt m.1.place m.1.theory written k m.1.visible

  visible_says : (written base : List ℕ) (n : ℕ) → HasText texts n written → NameHasBase texts base n → ¬ IsIn 46 base → (o : Option ℕ) → IsPlaceOf texts Q space n o
      → MatchOption (if_visible n o) ((k : ℕ) → ¬ IsMeantInFull texts Q space written (Declared k)) (λ k. IsMeantInFull texts Q space written (Declared k))
  visible_says written base n has based clean None absent = full-invisible texts Q space s written n has absent
  visible_says written base n has based clean (Some place) here = full-found texts Q space s written base n place has based clean here

  clean_says : (written base : List ℕ) (n : ℕ) → HasText texts n written → NameHasBase texts base n → (o : Option (List ℕ)) → FrontSays base o
      → MatchOption (if_clean o (if_visible n (place_at texts Q space n))) ((k : ℕ) → ¬ IsMeantInFull texts Q space written (Declared k)) (λ k. IsMeantInFull texts Q space written (Declared k))
  clean_says written base n has based None clean = visible_says written base n has based clean (place_at texts Q space n) (place_says n)
  clean_says written base n has based (Some t) cut = full-dotted texts Q space s written base n has based (dotted base t cut)

  based_says : (written : List ℕ) (n : ℕ) → HasText texts n written → (o : Option (List ℕ)) → name_base texts n ≡ o
      → MatchOption (if_based o (if_visible n (place_at texts Q space n))) ((k : ℕ) → ¬ IsMeantInFull texts Q space written (Declared k)) (λ k. IsMeantInFull texts Q space written (Declared k))
  based_says written n has None e = full-baseless texts Q space s written n has (λ base h. let is = name-is texts base n h in absurd (cc))
  based_says written n has (Some base) e = clean_says written base n has (name-has texts base n e) (front_of base) (front_says base)

  full_says : (written : List ℕ) (o : Option ℕ) → IsFound (name_texts texts) written o → MatchOption (found_in_full texts Q space o) ((k : ℕ) → ¬ IsMeantInFull texts Q space written (Declared k)) (λ k. IsMeantInFull texts Q space written (Declared k))
  full_says written None absent = λ k m. absent k (full_text_of k m)
    where
      full_text_of : (k : ℕ) → IsMeantInFull texts Q space written (Declared k) → HasText texts k written
      full_text_of k m = text_of k m.place m.theory m.base m.visible ∙ ap Some (sym m.full)
  full_says written (Some n) has = based_says written n has (name_base texts n) refl

  front_found : (written : List ℕ) (o : Option (List ℕ)) → FrontSays written o → IsFoundName texts Q space written (found_by_front texts Q space written o)
  front_found written (Some theory) cut =
      to_found written (found_in_full texts Q space (number_among (name_texts texts) written))
      (meant-full texts Q space s texts written theory (found_in_full texts Q space (number_among (name_texts texts) written)) refl cut (full_says written (number_among (name_texts texts) written) (number_says (name_texts texts) written)))
  front_found written None clean =
      let start : Best = record { name = None; last = 0 } in
      let names = names_with_base texts written in
      let best = best_says written [] names start (λ x m. (with_base-exact texts written x).0 m) (refl, λ n m. absurd m) in
      to_found written (best_of texts Q space start names).name
      (meant-based texts Q space s texts written names (best_of texts Q space start names).name (best_of texts Q space start names).last refl clean (λ k h. (with_base-exact texts written k).1 h) best)

  pub found_says : (written : List ℕ) → IsFoundName texts Q space written (found texts Q space written)
  found_says written = front_found written (front_of written) (front_says written)

abbrev ParamsSay : List Decl → ℕ → Option ℕ → Type 0
ParamsSay ds k (Some c) = IsIn (ConDecl k c) ds
ParamsSay ds k None = (n : ℕ) → ¬ IsIn (ConDecl k n) ds

params_by : (q : Bool) (l c k : ℕ) (ds : List Decl) (o : Option ℕ) → nat_eq l k ≡ q → ParamsSay ds k o → ParamsSay (ConDecl l c ∷ ds) k (if q then Some c else o)
params_by true l c k ds o e h = inl (ap (λ m. ConDecl m c) (sym (eqb-true l k e)))
params_by false l c k ds (Some n) e h = inr h
params_by false l c k ds None e h = λ n m. ⊎_elim (λ same. let names : k ≡ l = cc in let yes = eq-eqb l k (sym names) in absurd (cc)) (λ m. h n m) m

params_later : (d : Decl) (ds : List Decl) (k : ℕ) (o : Option ℕ) → ((n : ℕ) → ConDecl k n ≡ d → ⊥) → ParamsSay ds k o → ParamsSay (d ∷ ds) k o
params_later d ds k (Some n) other h = inr h
params_later d ds k None other h = λ n m. ⊎_elim (λ same. other n same) (λ m. h n m) m

params_say : (ds : List Decl) (k : ℕ) → ParamsSay ds k (params_among ds k)
params_say [] k = λ n m. m
params_say (ConDecl l c ∷ ds) k = params_by (nat_eq l k) l c k ds (params_among ds k) refl (params_say ds k)
params_say (ClassDecl c ∷ ds) k = params_later (ClassDecl c) ds k (params_among ds k) (λ n e. absurd (cc)) (params_say ds k)
params_say (ArityDecl r ∷ ds) k = params_later (ArityDecl r) ds k (params_among ds k) (λ n e. absurd (cc)) (params_say ds k)
params_say (ConstDecl c T ∷ ds) k = params_later (ConstDecl c T) ds k (params_among ds k) (λ n e. absurd (cc)) (params_say ds k)
params_say (AxiomDecl x A ∷ ds) k = params_later (AxiomDecl x A) ds k (params_among ds k) (λ n e. absurd (cc)) (params_say ds k)
params_say (PromiseDecl x l A ∷ ds) k = params_later (PromiseDecl x l A) ds k (params_among ds k) (λ n e. absurd (cc)) (params_say ds k)

params_are : (Q : Content) → IsContent Q → (k : ℕ) (o : Option ℕ) → ParamsSay Q.declarations k o → IsParams Q.declarations k o
params_are Q content k None h = h
params_are Q content k (Some c) h = λ n. (λ m. let same = content.named_once (ConDecl k n) (ConDecl k c) m h refl in cc, λ e. subst (λ (x : ℕ). IsIn (ConDecl k x) Q.declarations) (sym e) h)

abbrev TypSays : List Decl → ℕ → Option Typ → Type 0
TypSays ds c (Some T) = IsIn (ConstDecl c T) ds
TypSays ds c None = (T : Typ) → ¬ IsIn (ConstDecl c T) ds

typ_by : (q : Bool) (d : ℕ) (U : Typ) (c : ℕ) (ds : List Decl) (o : Option Typ) → nat_eq d c ≡ q → TypSays ds c o → TypSays (ConstDecl d U ∷ ds) c (if q then Some U else o)
typ_by true d U c ds o e h = inl (ap (λ m. ConstDecl m U) (sym (eqb-true d c e)))
typ_by false d U c ds (Some T) e h = inr h
typ_by false d U c ds None e h = λ T m. ⊎_elim (λ same. let names : c ≡ d = cc in let yes = eq-eqb d c (sym names) in absurd (cc)) (λ m. h T m) m

typ_later : (d : Decl) (ds : List Decl) (c : ℕ) (o : Option Typ) → ((T : Typ) → ConstDecl c T ≡ d → ⊥) → TypSays ds c o → TypSays (d ∷ ds) c o
typ_later d ds c (Some T) other h = inr h
typ_later d ds c None other h = λ T m. ⊎_elim (λ same. other T same) (λ m. h T m) m

typ_says : (ds : List Decl) (c : ℕ) → TypSays ds c (typ_declared_among ds c)
typ_says [] c = λ T m. m
typ_says (ConstDecl d U ∷ ds) c = typ_by (nat_eq d c) d U c ds (typ_declared_among ds c) refl (typ_says ds c)
typ_says (ClassDecl k ∷ ds) c = typ_later (ClassDecl k) ds c (typ_declared_among ds c) (λ T e. absurd (cc)) (typ_says ds c)
typ_says (ConDecl k n ∷ ds) c = typ_later (ConDecl k n) ds c (typ_declared_among ds c) (λ T e. absurd (cc)) (typ_says ds c)
typ_says (ArityDecl r ∷ ds) c = typ_later (ArityDecl r) ds c (typ_declared_among ds c) (λ T e. absurd (cc)) (typ_says ds c)
typ_says (AxiomDecl x A ∷ ds) c = typ_later (AxiomDecl x A) ds c (typ_declared_among ds c) (λ T e. absurd (cc)) (typ_says ds c)
typ_says (PromiseDecl x l A ∷ ds) c = typ_later (PromiseDecl x l A) ds c (typ_declared_among ds c) (λ T e. absurd (cc)) (typ_says ds c)

typs_are : (Q : Content) → IsContent Q → (c : ℕ) (o : Option Typ) → TypSays Q.declarations c o → MatchOption o (IsUnknownConst Q.declarations c) (IsConstOf Q.declarations c)
typs_are Q content c None h = h
typs_are Q content c (Some T) h = λ U. (λ m. let same = content.named_once (ConstDecl c U) (ConstDecl c T) m h refl in cc, λ e. subst (λ (x : Typ). IsIn (ConstDecl c x) Q.declarations) (sym e) h)

pub content_has_vocabulary : ContentHasVocabulary
content_has_vocabulary texts Q s content = record {
  classes_found = found_says texts Q s classes tt;
  constructors_found = found_says texts Q s constructors tt;
  constants_found = found_says texts Q s constants tt;
  names_found = number_says (name_texts texts);
  params_declared = λ k. params_are Q content k (params_among Q.declarations k) (params_say Q.declarations k);
  typs_declared = λ c. typs_are Q content c (typ_declared_among Q.declarations c) (typ_says Q.declarations c);
  algebra_declared = refl;
  fresh_first = refl;
}
