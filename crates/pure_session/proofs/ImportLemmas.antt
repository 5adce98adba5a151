-- The imports of a file, one by one.
use Rattle.std.proofs.Common.{◌≡◌, ◌⊎◌, ◌↔◌, ◌&&◌, inl, inr, ℕ, ◌+◌, ◌<◌, ◌≤◌, Bool, true, false, not, cond, List, [], ◌∷◌, ◌++◌, length, map, get_or, take, drop, refl, sym, ◌∙◌, ap, subst, arith, Option, Some, None, nat_lt}
use Rattle.std.specs.List.{find, filter, list_any}
use Rattle.std.proofs.lemmas.Bool.{lt-ltb, le-ltb, false_from_ne_true}
use Rattle.pure_text.specs.Lists.{IsIn, Each, AnyOf}
use Rattle.pure_text.proofs.LoopLaws.{longer_by}
use Rattle.pure_grammar.specs.Theories.Lexeme.{same}
use Rattle.pure_graph.specs.Outcome.{Outcome, pure_theory}
use Rattle.pure_graph.specs.Reading.{File}
use Rattle.pure_graph.specs.Graph.{first_absent, other_than_pure, imports_of, without, linked}
use Rattle.pure_session.specs.ImportGraph.{theories, AreLinked, MarksPlaces}
use Rattle.pure_session.specs.Places.{place_in, HasMark}
use Rattle.pure_graph.proofs.LawsLemmas.{linked_theories}
use Rattle.pure_graph.proofs.Ascending.{among-in, in-among}
use Rattle.pure_text.proofs.MergeLaws.{past_end}
use Rattle.pure_session.proofs.FoldLemmas.{rest_at}
use Rattle.pure_session.proofs.PlaceLemmas.{place-in, place-or_not}

-- ---- a search from the front
find-pass : {A : Type 0} (test : A → Bool) (x : A) (xs : List A) → test x ≡ false → find test (x ∷ xs) ≡ find test xs
find-pass test x xs h = rw h refl

find-hit : {A : Type 0} (test : A → Bool) (x : A) (xs : List A) → test x ≡ true → find test (x ∷ xs) ≡ Some x
find-hit test x xs h = rw h refl

pub find-on : {A : Type 0} (test : A → Bool) (xs : List A) (i : ℕ) (x : A) → i < length xs → x ≡ get_or xs i x → test x ≡ false → find test xs ≡ find test (drop i xs) → find test xs ≡ find test (drop (i + 1) xs)
find-on test xs i x within read passed so_far = so_far ∙ ap (find test) (rest_at xs i x within read) ∙ find-pass test x (drop (i + 1) xs) passed

pub find-here : {A : Type 0} (test : A → Bool) (xs : List A) (i : ℕ) (x : A) → i < length xs → x ≡ get_or xs i x → test x ≡ true → find test xs ≡ find test (drop i xs) → find test xs ≡ Some x
find-here test xs i x within read hit so_far = so_far ∙ ap (find test) (rest_at xs i x within read) ∙ find-hit test x (drop (i + 1) xs) hit

pub find-end : {A : Type 0} (test : A → Bool) (xs : List A) (i : ℕ) → length xs ≤ i → find test xs ≡ find test (drop i xs) → find test xs ≡ None
find-end test xs i past so_far = so_far ∙ ap (find test) (past_end xs i past)

kept_find : {A : Type 0} (test : A → Bool) (x : A) (xs : List A) (b : Bool) → find test (cond b (x ∷ xs) xs) ≡ cond (b && test x) (Some x) (find test xs)
kept_find test x xs true = refl
kept_find test x xs false = refl

pub find-filter : {A : Type 0} (q test : A → Bool) (xs : List A) → find test (filter q xs) ≡ find (λ x. q x && test x) xs
find-filter q test [] = refl
find-filter q test (x ∷ xs) = kept_find test x (filter q xs) (q x) ∙ ap (λ rest. cond (q x && test x) (Some x) rest) (find-filter q test xs)

flipped : {A : Type 0} (b : Bool) (x y : A) → cond b x y ≡ cond (not b) y x
flipped true x y = refl
flipped false x y = refl

pub absent-find : (listed imports : List (List ℕ)) → first_absent listed imports ≡ find (λ p. not (list_any (same p) listed)) imports
absent-find listed [] = refl
absent-find listed (p ∷ imports) =
    flipped (list_any (same p) listed) (first_absent listed imports) (Some p) ∙ ap (λ rest. cond (not (list_any (same p) listed)) (Some p) rest) (absent-find listed imports)

abbrev pub is_absent : List (List ℕ) → List ℕ → Bool
is_absent listed p = not (same p pure_theory) && not (list_any (same p) listed)

pub first_absent-find : (listed imports : List (List ℕ)) → first_absent listed (other_than_pure imports) ≡ find (is_absent listed) imports
first_absent-find listed imports = absent-find listed (other_than_pure imports) ∙ find-filter (λ p. not (same p pure_theory)) (λ p. not (list_any (same p) listed)) imports

-- ---- whether a theory is listed
pub listed-place : (texts : List (List ℕ)) (t : List ℕ) → nat_lt (place_in texts t) (length texts) ≡ list_any (same t) texts
listed-place texts t = elim (place-or_not texts t) [
  | inl less ↦ lt-ltb (place_in texts t) (length texts) less ∙ sym (among-in t texts (place-in texts t less))
  | inr w ↦ le-ltb (place_in texts t) (length texts) (omega (arith, w.0)) ∙ sym (false_from_ne_true (list_any (same t) texts) (λ h. w.1 (in-among t texts h)))
]

-- ---- files whose imports are listed
absent-none : (listed imports : List (List ℕ)) → first_absent listed imports ≡ None → Each (λ p. IsIn p listed) imports
absent-none listed [] h = tt
absent-none listed (p ∷ imports) h = tell (list_any (same p) listed) refl (absent-none listed imports) h
  where
    tell : (b : Bool) → list_any (same p) listed ≡ b → (first_absent listed imports ≡ None → Each (λ q. IsIn q listed) imports) → cond b (first_absent listed imports) (Some p) ≡ None → Each (λ q. IsIn q listed) (p ∷ imports)
    tell true e more k = (in-among p listed e, more k)
    tell false e more k = absurd (cc)

without-listed : (listed : List (List ℕ)) (o : Outcome) (absent : Option (List ℕ)) → first_absent listed (imports_of o) ≡ absent → Each (λ p. IsIn p listed) (imports_of (without absent o))
without-listed listed o None e = absent-none listed (imports_of o) e
without-listed listed o (Some p) e = tt

each_mapped : {A B : Type 0} (P : B → Type 0) (g : A → B) (xs : List A) → ((x : A) → P (g x)) → Each P (map g xs)
each_mapped P g [] h = tt
each_mapped P g (x ∷ xs) h = (h x, each_mapped P g xs h)

pub files-linked : (listed : List (List ℕ)) (files : List File) → listed ≡ theories files → AreLinked (map (linked listed) files)
files-linked listed files is =
    subst (λ ts. Each (λ (f : File). Each (λ p. IsIn p ts) (imports_of f.outcome)) (map (linked listed) files)) (is ∙ sym (linked_theories listed files))
    (each_mapped (λ (f : File). Each (λ p. IsIn p listed) (imports_of f.outcome)) (linked listed) files (λ f. without-listed listed f.outcome (first_absent listed (imports_of f.outcome)) refl))

-- ---- the places of imports
any_kept : (P : List ℕ → Type 0) (x : List ℕ) (xs : List (List ℕ)) (b : Bool) → AnyOf P (cond (not b) (x ∷ xs) xs) ↔ (((b ≡ false) × P x) ⊎ AnyOf P xs)
any_kept P x xs true = (λ m. inr m, λ w. elim w [ inl p ↦ absurd (let h : true ≡ false = p.0 in cc) | inr m ↦ m ])
any_kept P x xs false = (λ m. elim m [ inl p ↦ inl (refl, p) | inr n ↦ inr n ], λ w. elim w [ inl p ↦ inl p.1 | inr n ↦ inr n ])

any_others : (P : List ℕ → Type 0) (xs : List (List ℕ)) (r : List ℕ) → AnyOf P (other_than_pure (xs ++ r ∷ [])) ↔ (AnyOf P (other_than_pure xs) ⊎ ((same r pure_theory ≡ false) × P r))
any_others P [] r =
    let one = any_kept P r [] (same r pure_theory) in
    (λ m. elim (one.0 m) [ inl p ↦ inr p | inr n ↦ absurd n ], λ w. elim w [ inl n ↦ absurd n | inr p ↦ one.1 (inl p) ])
any_others P (x ∷ xs) r =
    let long = any_kept P x (other_than_pure (xs ++ r ∷ [])) (same x pure_theory) in
    let short = any_kept P x (other_than_pure xs) (same x pure_theory) in
    let rest = any_others P xs r in (
      λ m. elim (long.0 m) [ inl p ↦ inl (short.1 (inl p)) | inr n ↦ elim (rest.0 n) [ inl o ↦ inl (short.1 (inr o)) | inr p ↦ inr p ] ],
      λ w. elim w [
        | inl s ↦ elim (short.0 s) [ inl p ↦ long.1 (inl p) | inr o ↦ long.1 (inr (rest.1 (inl o))) ]
        | inr p ↦ long.1 (inr (rest.1 (inr p)))
      ],
    )

pub marks-turn : (names imports : List (List ℕ)) (i : ℕ) (r : List ℕ) (row next : List Bool) → i < length imports → r ≡ get_or imports i r → MarksPlaces names (other_than_pure (take i imports)) row
    → ((k : ℕ) → HasMark next k ↔ (HasMark row k ⊎ ((same r pure_theory ≡ false) × (place_in names r ≡ k)))) → MarksPlaces names (other_than_pure (take (i + 1) imports)) next
marks-turn names imports i r row next within read so_far turn k =
    let more = any_others (λ text. place_in names text ≡ k) (take i imports) r in
    subst (λ xs. HasMark next k ↔ AnyOf (λ text. place_in names text ≡ k) (other_than_pure xs)) (sym (longer_by imports i r within read)) (
      λ h. more.1 (elim ((turn k).0 h) [ inl o ↦ inl ((so_far k).0 o) | inr p ↦ inr p ]),
      λ m. (turn k).1 (elim (more.0 m) [ inl o ↦ inl ((so_far k).1 o) | inr p ↦ inr p ]),
    )
