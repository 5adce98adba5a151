-- Theories taken one by one.
use Rattle.std.proofs.Common.{◌≡◌, ◌⊎◌, inl, inr, ℕ, zero, suc, ◌+◌, ◌<◌, Bool, true, false, not, List, [], ◌∷◌, ◌++◌, length, map, get_or, set, take, drop, replicate, refl, sym, ◌∙◌, ap, subst, arith, append_assoc, add-one, get_or-set_same, get_or-set_other, nat_eq, Some}
use Rattle.std.specs.declared.cmp.Ordering.TheVariants.{Less}
use Rattle.std.specs.List.{AllByRecursion, list_all, remove}
use Rattle.std.specs.List.Sorted.{IsStrictlySortedBy}
use Rattle.std.specs.Cmp.Lexicographic.{nat_list_eq_equiv}
use Rattle.std.proofs.lemmas.List.{map-append, length-map, append-nil}
use Rattle.std.proofs.lemmas.Map.Keys.{sorted_head, sorted_tail}
use Rattle.std.proofs.lemmas.Bool.{eq-eqb, ne_eqb, and_parts, and_cases, both_ways}
use Rattle.pure_text.specs.Lists.{IsIn, Each}
use Rattle.pure_text.proofs.ListLaws.{in-map, in_split, in-append_left, in-append_right, each_at, each-append, each-left, each-right, split_at}
use Rattle.pure_text.proofs.AscendingTexts.{byte_order}
use Rattle.pure_grammar.specs.Theories.Lexeme.{same}
use Rattle.pure_grammar.specs.Theories.TheoryText.{TheoryText}
use Rattle.pure_script.specs.Seen.{seen_theory}
use Rattle.pure_graph.specs.Outcome.{Stands}
use Rattle.pure_graph.specs.Reading.{File}
use Rattle.pure_graph.specs.Graph.{Imports, named_imports}
use Rattle.pure_graph.specs.Order.{Loaded, file_of, IsReady, IsLeastReady, index_among, AreTakenBehind, AreInLoadOrder}
use Rattle.pure_session.specs.ImportGraph.{theories, standing, AreGrounded}
use Rattle.pure_session.specs.Places.{place_in}
use Rattle.pure_session.specs.Waiting.{waiting_file, waiting_files, HasPlaces, are_taken, IsFirstReady, seen_loaded, all_loaded}
use Rattle.pure_session.specs.declared.order.Loaded as code
use Rattle.pure_session.specs.declared.order.Waiting.{Waiting}
use Rattle.pure_graph.proofs.LawsLemmas.{not_below_itself}
use Rattle.pure_session.proofs.PlaceLemmas.{same_or_apart, place-below, place-same}
use Rattle.pure_session.proofs.GraphLemmas.{in_mapped, standing-in, in-standing}

-- ---- the index of a theory that is taken
index-head : (x t : List ℕ) (xs : List (List ℕ)) → same x t ≡ true → index_among (x ∷ xs) t ≡ suc zero
index-head x t xs h = rw h refl

index-tail : (x t : List ℕ) (xs : List (List ℕ)) → same x t ≡ false → index_among (x ∷ xs) t ≡ suc (index_among xs t)
index-tail x t xs h = rw h refl

index-some : (taken : List (List ℕ)) (t : List ℕ) → IsIn t taken → 0 < index_among taken t
index-some [] t m = absurd m
index-some (x ∷ xs) t m = elim (same_or_apart x t) [
  | inl w ↦ omega (arith, index-head x t xs w.0)
  | inr w ↦ omega (arith, index-tail x t xs w.0)
]

index-kept : (taken more : List (List ℕ)) (t : List ℕ) → IsIn t taken → index_among (taken ++ more) t ≡ index_among taken t
index-kept [] more t m = absurd m
index-kept (x ∷ xs) more t m = elim (same_or_apart x t) [
  | inl w ↦ index-head x t (xs ++ more) w.0 ∙ sym (index-head x t xs w.0)
  | inr w ↦ elim m [
    | inl e ↦ absurd (w.1 (sym e))
    | inr n ↦ index-tail x t (xs ++ more) w.0 ∙ ap suc (index-kept xs more t n) ∙ sym (index-tail x t xs w.0)
  ]
]

index-last : (taken : List (List ℕ)) (t : List ℕ) → (¬ IsIn t taken) → index_among (taken ++ t ∷ []) t ≡ length taken + 1
index-last [] t new = index-head t t [] (nat_list_eq_equiv.refl t)
index-last (x ∷ xs) t new = elim (same_or_apart x t) [
  | inl w ↦ absurd (new (inl (sym w.1)))
  | inr w ↦ omega (arith, index-tail x t (xs ++ t ∷ []) w.0, index-last xs t (λ m. new (inr m)))
]

-- the number that is kept for a theory: its index, or 0 where it isn't taken
abbrev pub IsIndexed : (taken : List (List ℕ)) → (t : List ℕ) → ℕ → Type 0
IsIndexed taken t n = (IsIn t taken × (n ≡ index_among taken t)) ⊎ ((¬ IsIn t taken) × (n ≡ 0))

indexed-other : (taken : List (List ℕ)) (u t : List ℕ) (n : ℕ) → (u ≡ t → ⊥) → IsIndexed taken t n → IsIndexed (taken ++ u ∷ []) t n
indexed-other taken u t n apart (inl w) = inl (in-append_left t taken (u ∷ []) w.0, w.1 ∙ sym (index-kept taken (u ∷ []) t w.0))
indexed-other taken u t n apart (inr w) = inr (λ m. elim (in_split t taken (u ∷ []) m) [ inl k ↦ w.0 k | inr k ↦ elim k [ inl e ↦ apart (sym e) | inr none_in ↦ none_in ] ], w.1)

-- ---- lists that ascend
all_without : (t x : List ℕ) (front back : List (List ℕ)) → AllByRecursion (λ u. byte_order t u ≡ Less) (front ++ x ∷ back) → AllByRecursion (λ u. byte_order t u ≡ Less) (front ++ back)
all_without t x [] back all = all.1
all_without t x (y ∷ front) back all = (all.0, all_without t x front back all.1)

all_at : (t x : List ℕ) (front back : List (List ℕ)) → AllByRecursion (λ u. byte_order t u ≡ Less) (front ++ x ∷ back) → byte_order t x ≡ Less
all_at t x [] back all = all.0
all_at t x (y ∷ front) back all = all_at t x front back all.1

sorted_before : (y : List ℕ) (ys : List (List ℕ)) → AllByRecursion (λ u. byte_order y u ≡ Less) ys → IsStrictlySortedBy byte_order ys → IsStrictlySortedBy byte_order (y ∷ ys)
unfolding IsStrictlySortedBy
sorted_before y ys below sorted = (below, sorted)

sorted_without : (x : List ℕ) (front back : List (List ℕ)) → IsStrictlySortedBy byte_order (front ++ x ∷ back) → IsStrictlySortedBy byte_order (front ++ back)
sorted_without x [] back sorted = sorted_tail byte_order x back sorted
sorted_without x (y ∷ front) back sorted =
    sorted_before y (front ++ back) (all_without y x front back (sorted_head byte_order y (front ++ x ∷ back) sorted))
    (sorted_without x front back (sorted_tail byte_order y (front ++ x ∷ back) sorted))

front_less : (x : List ℕ) (front back : List (List ℕ)) → IsStrictlySortedBy byte_order (front ++ x ∷ back) → (y : List ℕ) → IsIn y front → byte_order y x ≡ Less
front_less x [] back sorted y m = absurd m
front_less x (z ∷ front) back sorted y (inl e) = subst (λ u. byte_order u x ≡ Less) (sym e) (all_at z x front back (sorted_head byte_order z (front ++ x ∷ back) sorted))
front_less x (z ∷ front) back sorted y (inr m) = front_less x front back (sorted_tail byte_order z (front ++ x ∷ back) sorted) y m

all_in : (x : List ℕ) (back : List (List ℕ)) → AllByRecursion (λ u. byte_order x u ≡ Less) back → (y : List ℕ) → IsIn y back → byte_order x y ≡ Less
all_in x [] all y m = absurd m
all_in x (z ∷ back) all y (inl e) = subst (λ u. byte_order x u ≡ Less) (sym e) all.0
all_in x (z ∷ back) all y (inr m) = all_in x back all.1 y m

back_greater : (x : List ℕ) (front back : List (List ℕ)) → IsStrictlySortedBy byte_order (front ++ x ∷ back) → (y : List ℕ) → IsIn y back → byte_order x y ≡ Less
back_greater x [] back sorted y m = all_in x back (sorted_head byte_order x back sorted) y m
back_greater x (z ∷ front) back sorted y m = back_greater x front back (sorted_tail byte_order z (front ++ x ∷ back) sorted) y m

not_itself : (x y : List ℕ) → byte_order x y ≡ Less → x ≡ y → ⊥
not_itself x y less e = not_below_itself y (subst (λ u. byte_order u y ≡ Less) e less)

-- ---- what waits
abbrev names_taken : List Loaded → List (List ℕ)
names_taken = map (λ (l : Loaded). l.name)

abbrev Waits : List File → (names taken : List (List ℕ)) → Waiting → Type 0
Waits files names taken w = IsIn (waiting_file w) files × (¬ IsIn w.name taken) × HasPlaces names w

-- So far some are loaded, and the others wait.
pub record IsUnderWay (files : List File) (names : List (List ℕ)) (index : List ℕ) (rest : List Waiting) (loaded : List Loaded) : Type 0 where
  pub on : (more : List Loaded) → AreTakenBehind files (map (λ (l : Loaded). l.name) loaded) more → AreTakenBehind files [] (loaded ++ more)
  pub kept : (f : File) → IsIn f files → IsIn f.theory (map (λ (l : Loaded). l.name) loaded) ⊎ IsIn f (waiting_files rest)
  pub waits : Each (λ (w : Waiting). IsIn (waiting_file w) files × (¬ IsIn w.name (map (λ (l : Loaded). l.name) loaded)) × HasPlaces names w) rest
  pub ascend : IsStrictlySortedBy byte_order (theories (waiting_files rest))
  pub indexed : (t : List ℕ) → IsIn t names → IsIndexed (map (λ (l : Loaded). l.name) loaded) t (get_or index (place_in names t) 0)
  pub long : length index ≡ length names

zero_at : (n k : ℕ) → ◌≡◌ {A = ℕ} (get_or (replicate n 0) k 0) 0
zero_at zero k = refl
zero_at (suc n) zero = refl
zero_at (suc n) (suc k) = zero_at n k

length_zeros : (n : ℕ) → length {A = ℕ} (replicate n 0) ≡ n
length_zeros zero = refl
length_zeros (suc n) = ap suc (length_zeros n)

each_waits : (names : List (List ℕ)) (all rest : List Waiting) → ((w : Waiting) → IsIn w rest → IsIn w all) → Each (HasPlaces names) rest → Each (λ (w : Waiting). IsIn (waiting_file w) (waiting_files all) × (¬ IsIn w.name []) × HasPlaces names w) rest
each_waits names all [] within places = tt
each_waits names all (w ∷ rest) within places = ((in-map waiting_file w all (within w (inl refl)), λ m. m, places.0), each_waits names all rest (λ v m. within v (inr m)) places.1)

pub IsUnderWay-start : (names : List (List ℕ)) (index : List ℕ) (rest : List Waiting) (loaded : List Loaded) → names ≡ theories (waiting_files rest) → IsStrictlySortedBy byte_order names → Each (HasPlaces names) rest
    → index ≡ replicate (length names) 0 → loaded ≡ [] → IsUnderWay (waiting_files rest) names index rest loaded
IsUnderWay-start names index rest loaded named sorted places zeros none_loaded = rw (none_loaded, zeros) (record {
  on = λ more behind. behind;
  kept = λ f m. inr m;
  waits = each_waits names rest rest (λ w m. m) places;
  ascend = subst (IsStrictlySortedBy byte_order) named sorted;
  indexed = λ t m. inr (λ n. n, zero_at (length names) (place_in names t));
  long = length_zeros (length names);
})

-- ---- which are ready
zero_or_not : (b : Bool) → not b ≡ true → b ≡ true → ⊥
zero_or_not true h k = cc
zero_or_not false h k = cc

all_hold : {A : Type 0} (test : A → Bool) (xs : List A) → list_all test xs ≡ true → Each (λ x. test x ≡ true) xs
all_hold test [] h = tt
all_hold test (x ∷ xs) h = let w = and_parts (test x) (list_all test xs) h in (w.0, all_hold test xs w.1)

hold_all : {A : Type 0} (test : A → Bool) (xs : List A) → Each (λ x. test x ≡ true) xs → list_all test xs ≡ true
hold_all test [] h = refl
hold_all test (x ∷ xs) h = rw (h.0, hold_all test xs h.1) refl

one_fails : {A : Type 0} (test : A → Bool) (xs : List A) → list_all test xs ≡ false → (x : A) × IsIn x xs × (test x ≡ false)
one_fails test [] h = absurd (cc)
one_fails test (x ∷ xs) h = elim (and_cases (test x) (list_all test xs) h) [
  | inl no_x ↦ (x, inl refl, no_x)
  | inr no_xs ↦ (let w = one_fails test xs no_xs in (w.0, inr w.1, w.2))
]

each_from_map : {A B : Type 0} (P : B → Type 0) (g : A → B) (xs : List A) → Each P (map g xs) → Each (λ x. P (g x)) xs
each_from_map P g [] h = tt
each_from_map P g (x ∷ xs) h = (h.0, each_from_map P g xs h.1)

each_to_map : {A B : Type 0} (P : B → Type 0) (g : A → B) (xs : List A) → Each (λ x. P (g x)) xs → Each P (map g xs)
each_to_map P g [] h = tt
each_to_map P g (x ∷ xs) h = (h.0, each_to_map P g xs h.1)

each_with : {A : Type 0} (P Q : A → Type 0) (xs : List A) → ((x : A) → IsIn x xs → P x → Q x) → Each P xs → Each Q xs
each_with P Q [] f h = tt
each_with P Q (x ∷ xs) f h = (f x (inl refl) h.0, each_with P Q xs (λ y m. f y (inr m)) h.1)

-- the number kept for a theory isn't 0 exactly where the theory is taken
indexed-taken : (taken : List (List ℕ)) (t : List ℕ) (n : ℕ) → IsIndexed taken t n → not (nat_eq n 0) ≡ true → IsIn t taken
indexed-taken taken t n (inl w) h = w.0
indexed-taken taken t n (inr w) h = absurd (zero_or_not (nat_eq n 0) h (eq-eqb n 0 w.1))

taken-indexed : (taken : List (List ℕ)) (t : List ℕ) (n : ℕ) → IsIndexed taken t n → IsIn t taken → not (nat_eq n 0) ≡ true
taken-indexed taken t n (inl w) m = ap not (ne_eqb n 0 (λ z. absurd (omega (arith, index-some taken t w.0, w.1))))
taken-indexed taken t n (inr w) m = absurd (w.0 m)

-- The imports of what waits are among the names.
pub record HaveNames (files : List File) (names : List (List ℕ)) : Type 0 where
  pub grounded : AreGrounded files
  pub named : names ≡ theories files

import-named : (files : List File) (names : List (List ℕ)) (t p : List ℕ) → HaveNames files names → Imports files t p → IsIn p names
import-named files names t p have imp =
    let s = have.grounded.stand t p imp in
    subst (IsIn p) (sym have.named) (in-map (λ (f : File). f.theory) (file_of p s.0 s.1) files s.2)

ready-free : (files : List File) (names taken : List (List ℕ)) (index : List ℕ) (w : Waiting) → HaveNames files names → ((t : List ℕ) → IsIn t names → IsIndexed taken t (get_or index (place_in names t) 0))
    → IsIn (waiting_file w) files → HasPlaces names w → are_taken index w.places.items ≡ true → Each (λ p. IsIn p taken) (named_imports (seen_theory w.text))
ready-free files names taken index w have indexed m places ready =
    let all : Each (λ p. not (nat_eq (get_or index p 0) 0) ≡ true) (map (place_in names) (named_imports (seen_theory w.text))) =
    all_hold (λ p. not (nat_eq (get_or index p 0) 0)) (map (place_in names) (named_imports (seen_theory w.text))) (subst (λ ps. are_taken index ps ≡ true) places ready) in
    each_with (λ p. not (nat_eq (get_or index (place_in names p) 0) 0) ≡ true) (λ p. IsIn p taken) (named_imports (seen_theory w.text))
    (λ p inside h. indexed-taken taken p (get_or index (place_in names p) 0) (indexed p (import-named files names w.name p have (w.source, seen_theory w.text, m, inside))) h)
    (each_from_map (λ p. not (nat_eq (get_or index p 0) 0) ≡ true) (place_in names) (named_imports (seen_theory w.text)) all)

free-ready : (files : List File) (names taken : List (List ℕ)) (index : List ℕ) (w : Waiting) → HaveNames files names → ((t : List ℕ) → IsIn t names → IsIndexed taken t (get_or index (place_in names t) 0))
    → IsIn (waiting_file w) files → HasPlaces names w → Each (λ p. IsIn p taken) (named_imports (seen_theory w.text)) → are_taken index w.places.items ≡ true
free-ready files names taken index w have indexed m places free =
    subst (λ ps. are_taken index ps ≡ true) (sym places) (hold_all (λ p. not (nat_eq (get_or index p 0) 0)) (map (place_in names) (named_imports (seen_theory w.text)))
    (each_to_map (λ p. not (nat_eq (get_or index p 0) 0) ≡ true) (place_in names) (named_imports (seen_theory w.text))
    (each_with (λ p. IsIn p taken) (λ p. not (nat_eq (get_or index (place_in names p) 0) 0) ≡ true) (named_imports (seen_theory w.text))
    (λ p inside t. taken-indexed taken p (get_or index (place_in names p) 0) (indexed p (import-named files names w.name p have (w.source, seen_theory w.text, m, inside))) t) free)))

map_each : {A B : Type 0} (f g : A → B) (xs : List A) → Each (λ x. f x ≡ g x) xs → map f xs ≡ map g xs
map_each f g [] h = refl
map_each f g (x ∷ xs) h = let one : f x ≡ g x = h.0 in let more = map_each f g xs h.1 in λ i. one i ∷ more i

map_map : {A B C : Type 0} (f : B → C) (g : A → B) (xs : List A) → map f (map g xs) ≡ map (λ x. f (g x)) xs
map_map f g [] = refl
map_map f g (x ∷ xs) = ap (λ rest. f (g x) ∷ rest) (map_map f g xs)

parents-indexed : (files : List File) (names taken : List (List ℕ)) (index : List ℕ) (w : Waiting) → HaveNames files names → ((t : List ℕ) → IsIn t names → IsIndexed taken t (get_or index (place_in names t) 0))
    → IsIn (waiting_file w) files → HasPlaces names w → Each (λ p. IsIn p taken) (named_imports (seen_theory w.text))
    → map (λ p. get_or index p 0) w.places.items ≡ map (index_among taken) (named_imports (seen_theory w.text))
parents-indexed files names taken index w have indexed m places free =
    ap (map (λ p. get_or index p 0)) places ∙ map_map (λ p. get_or index p 0) (place_in names) (named_imports (seen_theory w.text))
    ∙ map_each (λ p. get_or index (place_in names p) 0) (index_among taken) (named_imports (seen_theory w.text))
    (each_with (λ p. IsIn p taken) (λ p. get_or index (place_in names p) 0 ≡ index_among taken p) (named_imports (seen_theory w.text))
    (λ p inside t. number p (get_or index (place_in names p) 0) t (indexed p (import-named files names w.name p have (w.source, seen_theory w.text, m, inside)))) free)
  where
    number : (p : List ℕ) (n : ℕ) → IsIn p taken → IsIndexed taken p n → n ≡ index_among taken p
    number p n t (inl v) = v.1
    number p n t (inr v) = absurd (v.0 t)

-- ---- one theory is taken
-- This one waits among others; those before it aren't ready, it is.
pub record IsNext (index : List ℕ) (rest : List Waiting) (w : Waiting) : Type 0 where
  pub front : List Waiting
  pub back : List Waiting
  pub parts : rest ≡ front ++ w ∷ back
  pub early : Each (λ (v : Waiting). are_taken index v.places.items ≡ false) front
  pub ready : are_taken index w.places.items ≡ true

names_parted : (front back : List Waiting) (w : Waiting) → theories (waiting_files (front ++ w ∷ back)) ≡ theories (waiting_files front) ++ w.name ∷ theories (waiting_files back)
names_parted [] back w = refl
names_parted (v ∷ front) back w = ap (λ ts. v.name ∷ ts) (names_parted front back w)

names_joined : (front back : List Waiting) → theories (waiting_files (front ++ back)) ≡ theories (waiting_files front) ++ theories (waiting_files back)
names_joined [] back = refl
names_joined (v ∷ front) back = ap (λ ts. v.name ∷ ts) (names_joined front back)

-- where a file that waits stands
pub waits_where : (front back : List Waiting) (w : Waiting) (f : File) → IsIn f (waiting_files (front ++ w ∷ back)) → IsIn f (waiting_files front) ⊎ ((f ≡ waiting_file w) ⊎ IsIn f (waiting_files back))
waits_where [] back w f (inl e) = inr (inl e)
waits_where [] back w f (inr m) = inr (inr m)
waits_where (v ∷ front) back w f (inl e) = inl (inl e)
waits_where (v ∷ front) back w f (inr m) = elim (waits_where front back w f m) [ inl a ↦ inl (inr a) | inr b ↦ inr b ]

waits_kept : (front back : List Waiting) (f : File) → IsIn f (waiting_files front) ⊎ IsIn f (waiting_files back) → IsIn f (waiting_files (front ++ back))
waits_kept [] back f (inl m) = absurd m
waits_kept [] back f (inr m) = m
waits_kept (v ∷ front) back f (inl (inl e)) = inl e
waits_kept (v ∷ front) back f (inl (inr m)) = inr (waits_kept front back f (inl m))
waits_kept (v ∷ front) back f (inr m) = inr (waits_kept front back f (inr m))

-- the facts on a theory that is taken next
record IsTaking (files : List File) (names : List (List ℕ)) (index : List ℕ) (rest : List Waiting) (loaded : List Loaded) (w : Waiting) : Type 0 where
  pub have : HaveNames files names
  pub way : IsUnderWay files names index rest loaded
  pub next : IsNext index rest w

parted : (files : List File) (names : List (List ℕ)) (index : List ℕ) (rest : List Waiting) (loaded : List Loaded) (w : Waiting) (taking : IsTaking files names index rest loaded w)
    → Each (Waits files names (names_taken loaded)) (taking.next.front ++ w ∷ taking.next.back)
parted files names index rest loaded w taking = subst (Each (Waits files names (names_taken loaded))) taking.next.parts taking.way.waits

sorted_parts : (files : List File) (names : List (List ℕ)) (index : List ℕ) (rest : List Waiting) (loaded : List Loaded) (w : Waiting) (taking : IsTaking files names index rest loaded w)
    → IsStrictlySortedBy byte_order (theories (waiting_files taking.next.front) ++ w.name ∷ theories (waiting_files taking.next.back))
sorted_parts files names index rest loaded w taking =
    subst (IsStrictlySortedBy byte_order) (ap (λ r. theories (waiting_files r)) taking.next.parts ∙ names_parted taking.next.front taking.next.back w) taking.way.ascend

taking-waits : (files : List File) (names : List (List ℕ)) (index : List ℕ) (rest : List Waiting) (loaded : List Loaded) (w : Waiting) → IsTaking files names index rest loaded w → Waits files names (names_taken loaded) w
taking-waits files names index rest loaded w taking =
    (each-right (Waits files names (names_taken loaded)) taking.next.front (w ∷ taking.next.back) (parted files names index rest loaded w taking)).0

taking-free : (files : List File) (names : List (List ℕ)) (index : List ℕ) (rest : List Waiting) (loaded : List Loaded) (w : Waiting) → IsTaking files names index rest loaded w
    → Each (λ p. IsIn p (names_taken loaded)) (named_imports (seen_theory w.text))
taking-free files names index rest loaded w taking =
    let here = taking-waits files names index rest loaded w taking in
    ready-free files names (names_taken loaded) index w taking.have taking.way.indexed here.0 here.2 taking.next.ready

-- no theory before it is ready
early-left : (files : List File) (names taken : List (List ℕ)) (index : List ℕ) (front : List Waiting) (other bytes : List ℕ) (tree : TheoryText) → HaveNames files names
    → ((t : List ℕ) → IsIn t names → IsIndexed taken t (get_or index (place_in names t) 0)) → Each (Waits files names taken) front → Each (λ (v : Waiting). are_taken index v.places.items ≡ false) front
    → IsReady files taken other bytes tree → IsIn (file_of other bytes tree) (waiting_files front) → ⊥
early-left files names taken index [] other bytes tree have indexed waits early ready m = absurd m
early-left files names taken index (v ∷ front) other bytes tree have indexed waits early ready (inl e) =
    let said : Stands bytes tree ≡ Stands v.source (seen_theory v.text) = ap (λ (f : File). f.outcome) e in
    let text : tree ≡ seen_theory v.text = cc in
    both_ways (are_taken index v.places.items) early.0
    (free-ready files names taken index v have indexed waits.0.0 waits.0.2 (subst (λ x. Each (λ p. IsIn p taken) (named_imports x)) text ready.free))
early-left files names taken index (v ∷ front) other bytes tree have indexed waits early ready (inr m) = early-left files names taken index front other bytes tree have indexed waits.1 early.1 ready m

taking-least : (files : List File) (names : List (List ℕ)) (index : List ℕ) (rest : List Waiting) (loaded : List Loaded) (w : Waiting) → IsTaking files names index rest loaded w
    → IsLeastReady files (names_taken loaded) w.name w.source (seen_theory w.text)
taking-least files names index rest loaded w taking =
    let here = taking-waits files names index rest loaded w taking in
    record {
      ready = record { stands = here.0; left = here.1; free = taking-free files names index rest loaded w taking };
      least = λ other bytes tree ready. elim (taking.way.kept (file_of other bytes tree) ready.stands) [
        | inl taken ↦ absurd (ready.left taken)
        | inr m ↦ elim (waits_where taking.next.front taking.next.back w (file_of other bytes tree) (subst (λ r. IsIn (file_of other bytes tree) (waiting_files r)) taking.next.parts m)) [
          | inl a ↦ absurd (early-left files names (names_taken loaded) index taking.next.front other bytes tree taking.have taking.way.indexed
              (each-left (Waits files names (names_taken loaded)) taking.next.front (w ∷ taking.next.back) (parted files names index rest loaded w taking)) taking.next.early ready a)
          | inr b ↦ elim b [
            | inl e ↦ inl (sym (ap (λ (f : File). f.theory) e))
            | inr k ↦ inr (back_greater w.name (theories (waiting_files taking.next.front)) (theories (waiting_files taking.next.back)) (sorted_parts files names index rest loaded w taking)
                other (in-map (λ (f : File). f.theory) (file_of other bytes tree) (waiting_files taking.next.back) k))
          ]
        ]
      ];
    }

waits-more : (files : List File) (names taken : List (List ℕ)) (u : List ℕ) (ws : List Waiting) → ((v : Waiting) → IsIn v ws → u ≡ v.name → ⊥) → Each (Waits files names taken) ws → Each (Waits files names (taken ++ u ∷ [])) ws
waits-more files names taken u [] apart waits = tt
waits-more files names taken u (v ∷ ws) apart waits = (
  (waits.0.0, λ m. elim (in_split v.name taken (u ∷ []) m) [ inl k ↦ waits.0.1 k | inr k ↦ elim k [ inl e ↦ apart v (inl refl) (sym e) | inr none_in ↦ none_in ] ], waits.0.2),
  waits-more files names taken u ws (λ v m. apart v (inr m)) waits.1,
)

taking-waits_left : (files : List File) (names : List (List ℕ)) (index : List ℕ) (rest : List Waiting) (loaded : List Loaded) (w : Waiting) → (taking : IsTaking files names index rest loaded w)
    → Each (Waits files names (names_taken loaded ++ w.name ∷ [])) (taking.next.front ++ taking.next.back)
taking-waits_left files names index rest loaded w taking =
    let sorted = sorted_parts files names index rest loaded w taking in
    let all = parted files names index rest loaded w taking in
    each-append (Waits files names (names_taken loaded ++ w.name ∷ [])) taking.next.front taking.next.back
    (waits-more files names (names_taken loaded) w.name taking.next.front
    (λ v m e. not_itself v.name w.name (front_less w.name (theories (waiting_files taking.next.front)) (theories (waiting_files taking.next.back)) sorted v.name
    (in-map (λ (f : File). f.theory) (waiting_file v) (waiting_files taking.next.front) (in-map waiting_file v taking.next.front m))) (sym e))
    (each-left (Waits files names (names_taken loaded)) taking.next.front (w ∷ taking.next.back) all))
    (waits-more files names (names_taken loaded) w.name taking.next.back
    (λ v m e. not_itself w.name v.name (back_greater w.name (theories (waiting_files taking.next.front)) (theories (waiting_files taking.next.back)) sorted v.name
    (in-map (λ (f : File). f.theory) (waiting_file v) (waiting_files taking.next.back) (in-map waiting_file v taking.next.back m))) e)
    (each-right (Waits files names (names_taken loaded)) taking.next.front (w ∷ taking.next.back) all).1)

taking-indexed : (files : List File) (names : List (List ℕ)) (index : List ℕ) (rest : List Waiting) (loaded : List Loaded) (w : Waiting) → IsTaking files names index rest loaded w
    → (t : List ℕ) → IsIn t names → IsIndexed (names_taken loaded ++ w.name ∷ []) t (get_or (set index (place_in names w.name) (length (names_taken loaded) + 1)) (place_in names t) 0)
taking-indexed files names index rest loaded w taking t m =
    let here = taking-waits files names index rest loaded w taking in
    let inside : place_in names t < length index = omega (arith, place-below names t m, taking.way.long) in
    elim (same_or_apart w.name t) [
      | inl same_name ↦ (let at : get_or (set index (place_in names w.name) (length (names_taken loaded) + 1)) (place_in names t) 0 ≡ length (names_taken loaded) + 1 =
          subst (λ u. get_or (set index (place_in names u) (length (names_taken loaded) + 1)) (place_in names t) 0 ≡ length (names_taken loaded) + 1) (sym same_name.1)
          (get_or-set_same index (place_in names t) (length (names_taken loaded) + 1) 0 inside) in
          inl (
            in-append_right t (names_taken loaded) (w.name ∷ []) (inl (sym same_name.1)),
            at ∙ subst (λ u. length (names_taken loaded) + 1 ≡ index_among (names_taken loaded ++ w.name ∷ []) u) same_name.1 (sym (index-last (names_taken loaded) w.name here.1)),
          ))
      | inr other ↦ (let apart : place_in names t ≡ place_in names w.name → ⊥ = λ e. other.1 (sym (place-same names t w.name e (place-below names t m))) in
          subst (IsIndexed (names_taken loaded ++ w.name ∷ []) t) (sym (get_or-set_other index (place_in names w.name) (place_in names t) (length (names_taken loaded) + 1) 0 apart))
          (indexed-other (names_taken loaded) w.name t (get_or index (place_in names t) 0) other.1 (taking.way.indexed t m)))
    ]

abbrev loaded_by : List ℕ → Waiting → Loaded
loaded_by index w = record { name = w.name; parents = map (λ p. get_or index p 0) w.places.items; source = w.source; text = seen_theory w.text }

pub IsUnderWay-next : (files : List File) (names : List (List ℕ)) (index : List ℕ) (rest : List Waiting) (loaded : List Loaded) (w : Waiting) (l : Loaded) (after : List Waiting)
    → HaveNames files names → IsUnderWay files names index rest loaded → (next : IsNext index rest w) → l ≡ loaded_by index w → after ≡ next.front ++ next.back
    → IsUnderWay files names (set index (place_in names w.name) (length loaded + 1)) after (loaded ++ l ∷ [])
IsUnderWay-next files names index rest loaded w l after have way next made left =
    let taking : IsTaking files names index rest loaded w = record { have = have; way = way; next = next } in
    let here = taking-waits files names index rest loaded w taking in
    let name : l.name ≡ w.name = ap (λ (x : Loaded). x.name) made in
    let taken : names_taken loaded ++ w.name ∷ [] ≡ names_taken (loaded ++ l ∷ []) =
    ap (λ u. names_taken loaded ++ u ∷ []) (sym name) ∙ sym (map-append (λ (x : Loaded). x.name) loaded (l ∷ [])) in
    let long : length (names_taken loaded) ≡ length loaded = length-map loaded (λ (x : Loaded). x.name) in
    record {
      on = λ more behind.
          let first : AreTakenBehind files (names_taken loaded) (loaded_by index w ∷ more) = (
            taking-least files names index rest loaded w taking,
            parents-indexed files names (names_taken loaded) index w have way.indexed here.0 here.2 (taking-free files names index rest loaded w taking),
            subst (λ ts. AreTakenBehind files ts more) (sym taken) behind,
          ) in
          subst (AreTakenBehind files []) (sym (append_assoc loaded (l ∷ []) more)) (way.on (l ∷ more) (subst (λ x. AreTakenBehind files (names_taken loaded) (x ∷ more)) (sym made) first));
      kept = λ f m. elim (way.kept f m) [
        | inl t ↦ inl (subst (IsIn f.theory) taken (in-append_left f.theory (names_taken loaded) (w.name ∷ []) t))
        | inr r ↦ elim (waits_where next.front next.back w f (subst (λ ws. IsIn f (waiting_files ws)) next.parts r)) [
          | inl a ↦ inr (subst (λ ws. IsIn f (waiting_files ws)) (sym left) (waits_kept next.front next.back f (inl a)))
          | inr b ↦ elim b [
            | inl e ↦ inl (subst (IsIn f.theory) taken (in-append_right f.theory (names_taken loaded) (w.name ∷ []) (inl (ap (λ (g : File). g.theory) e))))
            | inr k ↦ inr (subst (λ ws. IsIn f (waiting_files ws)) (sym left) (waits_kept next.front next.back f (inr k)))
          ]
        ]
      ];
      waits = subst (λ ts. Each (Waits files names ts) after) taken (subst (Each (Waits files names (names_taken loaded ++ w.name ∷ []))) (sym left) (taking-waits_left files names index rest loaded w taking));
      ascend = subst (λ ws. IsStrictlySortedBy byte_order (theories (waiting_files ws))) (sym left) (subst (IsStrictlySortedBy byte_order) (sym (names_joined next.front next.back))
          (sorted_without w.name (theories (waiting_files next.front)) (theories (waiting_files next.back)) (sorted_parts files names index rest loaded w taking)));
      indexed = λ t m. subst (λ ts. IsIndexed ts t (get_or (set index (place_in names w.name) (length loaded + 1)) (place_in names t) 0)) taken
          (subst (λ n. IsIndexed (names_taken loaded ++ w.name ∷ []) t (get_or (set index (place_in names w.name) (n + 1)) (place_in names t) 0)) long (taking-indexed files names index rest loaded w taking t m));
      long = length_set index (place_in names w.name) (length loaded + 1) ∙ way.long;
    }
  where
    length_set : (xs : List ℕ) (k n : ℕ) → length (set xs k n) ≡ length xs
    length_set [] k n = refl
    length_set (x ∷ xs) zero n = refl
    length_set (x ∷ xs) (suc k) n = ap suc (length_set xs k n)

pub place-inside : (files : List File) (names : List (List ℕ)) (index : List ℕ) (rest : List Waiting) (loaded : List Loaded) (w : Waiting) → HaveNames files names → IsUnderWay files names index rest loaded → IsNext index rest w
    → place_in names w.name < length index
place-inside files names index rest loaded w have way next =
    let here = taking-waits files names index rest loaded w (record { have = have; way = way; next = next }) in
    let inside : IsIn w.name names = subst (IsIn w.name) (sym have.named) (in-map (λ (f : File). f.theory) (waiting_file w) files here.0) in
    omega (arith, place-below names w.name inside, way.long)

-- ---- the end
-- where none is ready, none waits
nobody-waits : (files : List File) (names : List (List ℕ)) (index : List ℕ) (rest : List Waiting) (loaded : List Loaded) (n : ℕ) (w : Waiting) → HaveNames files names → (rank : List ℕ → ℕ)
    → ((t p : List ℕ) → Imports files t p → rank p < rank t) → IsUnderWay files names index rest loaded
    → Each (λ (v : Waiting). are_taken index v.places.items ≡ false) rest → IsIn w rest → rank w.name < n → ⊥
nobody-waits files names index rest loaded zero w have rank falls way idle m low = omega arith
nobody-waits files names index rest loaded (suc n) w have rank falls way idle m low =
    let here = each_at (Waits files names (names_taken loaded)) rest way.waits w m in
    let stuck : are_taken index (map (place_in names) (named_imports (seen_theory w.text))) ≡ false =
    subst (λ ps. are_taken index ps ≡ false) here.2 (each_at (λ (v : Waiting). are_taken index v.places.items ≡ false) rest idle w m) in
    let place = one_fails (λ p. not (nat_eq (get_or index p 0) 0)) (map (place_in names) (named_imports (seen_theory w.text))) stuck in
    let import = in_mapped (place_in names) place.0 (named_imports (seen_theory w.text)) place.1 in
    let imp : Imports files w.name import.0 = (w.source, seen_theory w.text, here.0, import.1) in
    let stood = have.grounded.stand w.name import.0 imp in
    let no_index : not (nat_eq (get_or index (place_in names import.0) 0) 0) ≡ false = subst (λ k. not (nat_eq (get_or index k 0) 0) ≡ false) import.2 place.2 in
    elim (way.kept (file_of import.0 stood.0 stood.1) stood.2) [
      | inl taken ↦ both_ways (not (nat_eq (get_or index (place_in names import.0) 0) 0)) no_index
          (taken-indexed (names_taken loaded) import.0 (get_or index (place_in names import.0) 0) (way.indexed import.0 (import-named files names w.name import.0 have imp)) taken)
      | inr waiting ↦ (let v = in_mapped waiting_file (file_of import.0 stood.0 stood.1) rest waiting in
          let name : import.0 ≡ v.0.name = ap (λ (f : File). f.theory) v.2 in
          let lower : rank v.0.name < rank w.name = subst (λ t. rank t < rank w.name) name (falls w.name import.0 imp) in
          nobody-waits files names index rest loaded n v.0 have rank falls way idle v.1 (omega arith))
    ]

pub IsUnderWay-end : (files : List File) (names : List (List ℕ)) (index : List ℕ) (rest : List Waiting) (loaded : List Loaded) → HaveNames files names → IsUnderWay files names index rest loaded
    → Each (λ (v : Waiting). are_taken index v.places.items ≡ false) rest → AreInLoadOrder files loaded
IsUnderWay-end files names index rest loaded have way idle =
    subst (AreTakenBehind files []) (append-nil loaded) (way.on [] (λ t source text m. elim (way.kept (file_of t source text) m) [
      | inl taken ↦ taken
      | inr waiting ↦ (let v = in_mapped waiting_file (file_of t source text) rest waiting in
          absurd (nobody-waits files names index rest loaded (suc (have.grounded.rank v.0.name)) v.0 have have.grounded.rank have.grounded.falls way idle v.1 (omega arith)))
    ]))

-- the one that a search finds
pub IsNext-found : (index : List ℕ) (rest : List Waiting) (at : ℕ) (w : Waiting) → IsFirstReady index rest (Some at) → w ≡ get_or rest at w → (next : IsNext index rest w) × (next.front ++ next.back ≡ remove rest at)
IsNext-found index rest at w found read = (
  record {
    front = take at rest;
    back = drop (at + 1) rest;
    parts = split_at rest at w found.0 read;
    early = found.1;
    ready = subst (λ (v : Waiting). are_taken index v.places.items ≡ true) (sym read) (found.2 w);
  },
  rw add-one refl,
)

-- one turn of taking
pub way-turn : (files : List File) (names : List (List ℕ)) (index : List ℕ) (rest after : List Waiting) (all more : List code.Loaded) (made : code.Loaded) (w : Waiting) (at place n : ℕ) → HaveNames files names
    → IsUnderWay files names index rest (all_loaded all) → IsFirstReady index rest (Some at) → w ≡ get_or rest at w → after ≡ remove rest at → seen_loaded made ≡ loaded_by index w → more ≡ all ++ made ∷ []
    → place ≡ place_in names w.name → n ≡ length all + 1 → IsUnderWay files names (set index place n) after (all_loaded more)
way-turn files names index rest after all more made w at place n have way found read left made_is longer place_is n_is =
    let next = IsNext-found index rest at w found read in
    let step = IsUnderWay-next files names index rest (all_loaded all) w (seen_loaded made) after have way next.0 made_is (left ∙ sym next.1) in
    let loaded : all_loaded all ++ seen_loaded made ∷ [] ≡ all_loaded more = sym (map-append seen_loaded all (made ∷ [])) ∙ ap all_loaded (sym longer) in
    let number : length (all_loaded all) + 1 ≡ n = omega (arith, length-map all seen_loaded) in
    subst (IsUnderWay files names (set index place n) after) loaded
    (subst (λ k. IsUnderWay files names (set index k n) after (all_loaded all ++ seen_loaded made ∷ [])) (sym place_is)
    (subst (λ k. IsUnderWay files names (set index (place_in names w.name) k) after (all_loaded all ++ seen_loaded made ∷ [])) number step))

pub found-inside : (files : List File) (names : List (List ℕ)) (index : List ℕ) (rest : List Waiting) (loaded : List Loaded) (w : Waiting) (at : ℕ) → HaveNames files names → IsUnderWay files names index rest loaded
    → IsFirstReady index rest (Some at) → w ≡ get_or rest at w → place_in names w.name < length index
found-inside files names index rest loaded w at have way found read = place-inside files names index rest loaded w have way (IsNext-found index rest at w found read).0

-- ---- among all files
pub order-among : (files : List File) (taken : List (List ℕ)) (loaded : List Loaded) → AreTakenBehind (standing files) taken loaded → AreTakenBehind files taken loaded
order-among files taken [] all = λ t source text m. all t source text (standing-in (file_of t source text) files m refl)
order-among files taken (l ∷ loaded) all = (
  record {
    ready = record { stands = (in-standing (file_of l.name l.source l.text) files all.0.ready.stands).0; left = all.0.ready.left; free = all.0.ready.free };
    least = λ other bytes tree ready. all.0.least other bytes tree (record { stands = standing-in (file_of other bytes tree) files ready.stands refl; left = ready.left; free = ready.free });
  },
  all.1,
  order-among files (taken ++ l.name ∷ []) loaded all.2,
)

among-standing : (files : List File) (t p : List ℕ) → Imports (standing files) t p → Imports files t p
among-standing files t p imp = (imp.0, imp.1, (in-standing (file_of t imp.0 imp.1) files imp.2).0, imp.3)

pub standing-grounded : (files : List File) → AreGrounded files → AreGrounded (standing files)
standing-grounded files grounded = record {
  rank = grounded.rank;
  falls = λ t p imp. grounded.falls t p (among-standing files t p imp);
  stand = λ t p imp. let s = grounded.stand t p (among-standing files t p imp) in (s.0, s.1, standing-in (file_of p s.0 s.1) files s.2 refl);
}
