-- Tables of what files import, of what they reach, and of which are refused: there are such for any files.
use Rattle.std.proofs.Common.{◌≡◌, ◌⊎◌, ◌↔◌, ◌∙◌, inl, inr, ℕ, zero, suc, ◌+◌, ◌<◌, ◌≤◌, Bool, true, false, ◌||◌, ◌&&◌, List, [], ◌∷◌, length, map, get_or, MatchBool, refl, sym, ap, subst, arith, true≢false}
use Rattle.std.proofs.Math.ListN.{get_or-eq_default}
use Rattle.std.proofs.lemmas.Bool.{cases_lt}
use Rattle.std.proofs.lemmas.Bool.Decides.{eqb_tells}
use Rattle.std.specs.List.Sorted.{IsStrictlySortedBy}
use Rattle.pure_text.specs.Lists.{EachTwo, AnyOf}
use Rattle.pure_text.proofs.ListLaws.{any_decided, any_some}
use Rattle.pure_text.proofs.AscendingTexts.{byte_order}
use Rattle.pure_graph.specs.Reading.{File}
use Rattle.pure_graph.specs.Graph.{imports_of}
use Rattle.pure_session.specs.ImportGraph.{standing, theories, AreLinked, MarksPlaces, IsImportRow, IsLost, LeadsToCycle}
use Rattle.pure_session.specs.Places.{place_in, is_marked, Path, direct, along}
use Rattle.pure_session.specs.Judging.{IsGraphOf}
use Rattle.pure_session.proofs.PlaceLemmas.{place-most}
use Rattle.pure_session.proofs.PathLemmas.{IsClosedBelow, IsClosedBelow-none, IsClosedBelow-step}
use Rattle.pure_session.proofs.GraphLemmas.{IsGraphOf-from}

-- ---- what is decided
pub both_decided : (P Q : Type 0) → P ⊎ ¬ P → Q ⊎ ¬ Q → (P × Q) ⊎ ¬ (P × Q)
both_decided P Q (inl p) (inl q) = inl (p, q)
both_decided P Q (inl p) (inr n) = inr (λ w. n w.1)
both_decided P Q (inr n) d = inr (λ w. n w.0)

pub either_decided : (P Q : Type 0) → P ⊎ ¬ P → Q ⊎ ¬ Q → (P ⊎ Q) ⊎ ¬ (P ⊎ Q)
either_decided P Q (inl p) d = inl (inl p)
either_decided P Q (inr n) (inl q) = inl (inr q)
either_decided P Q (inr n) (inr m) = inr (λ w. elim w [ inl p ↦ n p | inr q ↦ m q ])

number_decided : (m n : ℕ) → (m ≡ n) ⊎ ¬ (m ≡ n)
number_decided m n = elim (eqb_tells m n) [ inl w ↦ inl w.1 | inr w ↦ inr w.1 ]

truth_decided : (b : Bool) → (b ≡ true) ⊎ ¬ (b ≡ true)
truth_decided true = inl refl
truth_decided false = inr (λ e. true≢false (sym e))

abbrev told : {P : Type 0} → P ⊎ ¬ P → Bool
told (inl p) = true
told (inr n) = false

told-true : (P : Type 0) (d : P ⊎ ¬ P) → told d ≡ true → P
told-true P (inl p) e = p
told-true P (inr n) e = absurd (true≢false (sym e))

told-holds : (P : Type 0) (d : P ⊎ ¬ P) → P → told d ≡ true
told-holds P (inl p) h = refl
told-holds P (inr n) h = absurd (n h)

-- ---- a list by its places
abbrev list_of : {A : Type 0} → ℕ → (ℕ → A) → List A
list_of zero f = []
list_of (suc n) f = f zero ∷ list_of n (λ i. f (suc i))

length-list_of : {A : Type 0} (n : ℕ) (f : ℕ → A) → length (list_of n f) ≡ n
length-list_of zero f = refl
length-list_of (suc n) f = ap suc (length-list_of n (λ i. f (suc i)))

read_at : {A : Type 0} (n : ℕ) (f : ℕ → A) (i : ℕ) (d : A) → i < n → get_or (list_of n f) i d ≡ f i
read_at zero f i d h = absurd (omega arith)
read_at (suc n) f zero d h = refl
read_at (suc n) f (suc i) d h = read_at n (λ j. f (suc j)) i d (omega arith)

read_past : {A : Type 0} (n : ℕ) (f : ℕ → A) (i : ℕ) (d : A) → n ≤ i → get_or (list_of n f) i d ≡ d
read_past n f i d h = get_or-eq_default (list_of n f) d (omega (arith, length-list_of n f))

-- ---- the imports of a file
at_place : (names : List (List ℕ)) (i : ℕ) (texts : List (List ℕ)) → AnyOf (λ t. place_in names t ≡ i) texts ⊎ ¬ AnyOf (λ t. place_in names t ≡ i) texts
at_place names i texts = any_decided (λ t. place_in names t ≡ i) (λ t. number_decided (place_in names t) i) texts

abbrev row_of : (names texts : List (List ℕ)) → List Bool
row_of names texts = list_of (suc (length names)) (λ i. told (at_place names i texts))

row-within : (names texts : List (List ℕ)) (i : ℕ) → get_or (row_of names texts) i false ≡ true → i < suc (length names)
row-within names texts i h = elim (cases_lt i (suc (length names))) [
  | inl less ↦ less
  | inr past ↦ absurd (true≢false (sym h ∙ read_past (suc (length names)) (λ j. told (at_place names j texts)) i false past))
]

row-marks : (names texts : List (List ℕ)) → MarksPlaces names texts (row_of names texts)
row-marks names texts i = (there, back)
  where
    here : i < suc (length names) → get_or (row_of names texts) i false ≡ told (at_place names i texts)
    here less = read_at (suc (length names)) (λ j. told (at_place names j texts)) i false less

    there : get_or (row_of names texts) i false ≡ true → AnyOf (λ t. place_in names t ≡ i) texts
    there h = told-true _ (at_place names i texts) (sym (here (row-within names texts i h)) ∙ h)

    back : AnyOf (λ t. place_in names t ≡ i) texts → get_or (row_of names texts) i false ≡ true
    back any =
        let some = any_some (λ t. place_in names t ≡ i) texts any in
        here (omega (arith, some.2, place-most names some.0)) ∙ told-holds _ (at_place names i texts) any

abbrev rows_of : (names : List (List ℕ)) → List File → List (List Bool)
rows_of names files = map (λ (f : File). row_of names (imports_of f.outcome)) files

each-row : (names : List (List ℕ)) (files : List File) → EachTwo (IsImportRow names) files (rows_of names files)
each-row names [] = tt
each-row names (f ∷ files) = (row-marks names (imports_of f.outcome), each-row names files)

edge-within : (names : List (List ℕ)) (files : List File) (i j : ℕ) → is_marked (rows_of names files) i j ≡ true → (i < length (rows_of names files)) × (j < suc (length names))
edge-within names [] i j h = absurd (true≢false (sym h))
edge-within names (f ∷ files) zero j h = (omega arith, row-within names (imports_of f.outcome) j h)
edge-within names (f ∷ files) (suc i) j h = let w = edge-within names files i j h in (omega (arith, w.0), w.1)

-- ---- what is reached
abbrev reach : (marked : ℕ → ℕ → Bool) → (bound : ℕ) → (from to : ℕ) → Bool
reach marked zero i j = marked i j
reach marked (suc n) i j = reach marked n i j || (reach marked n i n && reach marked n n j)

or-and : (a b c : Bool) → ((a || (b && c)) ≡ true) ↔ ((a ≡ true) ⊎ ((b ≡ true) × (c ≡ true)))
or-and true b c = (λ h. inl refl, λ w. refl)
or-and false true true = (λ h. inr (refl, refl), λ w. refl)
or-and false true false = (λ h. absurd (true≢false (sym h)), λ w. elim w [ inl e ↦ absurd (true≢false (sym e)) | inr p ↦ absurd (true≢false (sym p.1)) ])
or-and false false c = (λ h. absurd (true≢false (sym h)), λ w. elim w [ inl e ↦ absurd (true≢false (sym e)) | inr p ↦ absurd (true≢false (sym p.0)) ])

reached : (marked : ℕ → ℕ → Bool) (n : ℕ) → IsClosedBelow marked n (reach marked n)
reached marked zero = record { ways = λ i j. (IsClosedBelow-none marked).ways i j }
reached marked (suc n) =
    let next = IsClosedBelow-step marked (reach marked n) (reach marked (suc n)) n (reached marked n) (λ i j. or-and (reach marked n i j) (reach marked n i n) (reach marked n n j)) in
    let same : n + 1 ≡ suc n = omega arith in
    record { ways = λ i j. subst (λ b. (reach marked (suc n) i j ≡ true) ↔ Path marked b i j) same (next.ways i j) }

-- ---- what leads to a cycle
leads_decided : (marked : ℕ → ℕ → Bool) (place n : ℕ) → LeadsToCycle marked n place ⊎ ¬ LeadsToCycle marked n place
leads_decided marked place zero = inr (λ w. absurd (omega (arith, w.1)))
leads_decided marked place (suc n) = by (leads_decided marked place n) here
  where
    here : ((marked n n ≡ true) × ((n ≡ place) ⊎ (marked place n ≡ true))) ⊎ ¬ ((marked n n ≡ true) × ((n ≡ place) ⊎ (marked place n ≡ true)))
    here = both_decided _ _ (truth_decided (marked n n)) (either_decided _ _ (number_decided n place) (truth_decided (marked place n)))

    by : LeadsToCycle marked n place ⊎ ¬ LeadsToCycle marked n place
        → ((marked n n ≡ true) × ((n ≡ place) ⊎ (marked place n ≡ true))) ⊎ ¬ ((marked n n ≡ true) × ((n ≡ place) ⊎ (marked place n ≡ true)))
        → LeadsToCycle marked (suc n) place ⊎ ¬ LeadsToCycle marked (suc n) place
    by (inl w) d = inl (w.0, omega (arith, w.1), w.2, w.3)
    by (inr none) (inl p) = inl (n, omega arith, p.0, p.1)
    by (inr none) (inr never) = inr (λ w. elim (number_decided w.0 n) [
      | inl same ↦ never (subst (λ k. (marked k k ≡ true) × ((k ≡ place) ⊎ (marked place k ≡ true))) same (w.2, w.3))
      | inr other ↦ none (w.0, below w.0 w.1 other, w.2, w.3)
    ])
      where
        below : (k : ℕ) → k < suc n → ¬ (k ≡ n) → k < n
        below k less other = elim (cases_lt k n) [ inl h ↦ h | inr h ↦ absurd (other (omega arith)) ]

lost_decided : (marked : ℕ → ℕ → Bool) (count place : ℕ) → IsLost marked count place ⊎ ¬ IsLost marked count place
lost_decided marked count place = either_decided _ _ (number_decided place count) (either_decided _ _ (truth_decided (marked place count)) (leads_decided marked place count))

-- ---- the graph
module _ (files : List File) where
  abbrev names : List (List ℕ)
  names = theories (standing files)

  abbrev rows : List (List Bool)
  rows = rows_of names (standing files)

  abbrev closed : List (List Bool)
  closed = list_of (length rows) (λ i. list_of (suc (length names)) (λ j. reach (is_marked rows) (length rows) i j))

  path-within : (n i j : ℕ) → Path (is_marked rows) n i j → (i < length rows) × (j < suc (length names))
  path-within n i j (direct _ _ e) = edge-within names (standing files) i j e
  path-within n i j (along _ k _ e less p) = ((edge-within names (standing files) i k e).0, (path-within n k j p).1)

  closed-row : (i : ℕ) → i < length rows → get_or closed i [] ≡ list_of (suc (length names)) (λ j. reach (is_marked rows) (length rows) i j)
  closed-row i less = read_at (length rows) (λ i. list_of (suc (length names)) (λ j. reach (is_marked rows) (length rows) i j)) i [] less

  closed-at : (i j : ℕ) → i < length rows → j < suc (length names) → is_marked closed i j ≡ reach (is_marked rows) (length rows) i j
  closed-at i j less within = ap (λ r. get_or r j false) (closed-row i less) ∙ read_at (suc (length names)) (λ j. reach (is_marked rows) (length rows) i j) j false within

  closed-within : (i j : ℕ) → is_marked closed i j ≡ true → (i < length rows) × (j < suc (length names))
  closed-within i j h = elim (cases_lt i (length rows)) [
    | inl less ↦ elim (cases_lt j (suc (length names))) [
      | inl within ↦ (less, within)
      | inr past ↦ absurd (true≢false (sym h ∙ ap (λ r. get_or r j false) (closed-row i less) ∙ read_past (suc (length names)) (λ j. reach (is_marked rows) (length rows) i j) j false past))
    ]
    | inr past ↦ (let none : get_or closed i [] ≡ [] = read_past (length rows) (λ i. list_of (suc (length names)) (λ j. reach (is_marked rows) (length rows) i j)) i [] past in
        absurd (true≢false (sym h ∙ ap (λ r. get_or r j false) none)))
  ]

  closed-ways : (i j : ℕ) → (is_marked closed i j ≡ true) ↔ Path (is_marked rows) (length rows) i j
  closed-ways i j = (
    λ h. let w = closed-within i j h in ((reached (is_marked rows) (length rows)).ways i j).0 (sym (closed-at i j w.0 w.1) ∙ h),
    λ p. let w = path-within (length rows) i j p in closed-at i j w.0 w.1 ∙ ((reached (is_marked rows) (length rows)).ways i j).1 p,
  )

  abbrev lost : List Bool
  lost = list_of (length rows) (λ i. told (lost_decided (is_marked closed) (length rows) i))

  lost-told : (i : ℕ) → MatchBool (get_or lost i true) (i < length rows → IsLost (is_marked closed) (length rows) i) ((i < length rows) × ¬ IsLost (is_marked closed) (length rows) i)
  lost-told i = elim (cases_lt i (length rows)) [
    | inl less ↦ subst (λ b. MatchBool b (i < length rows → IsLost (is_marked closed) (length rows) i) ((i < length rows) × ¬ IsLost (is_marked closed) (length rows) i))
        (sym (read_at (length rows) (λ i. told (lost_decided (is_marked closed) (length rows) i)) i true less)) (by less (lost_decided (is_marked closed) (length rows) i))
    | inr past ↦ subst (λ b. MatchBool b (i < length rows → IsLost (is_marked closed) (length rows) i) ((i < length rows) × ¬ IsLost (is_marked closed) (length rows) i))
        (sym (read_past (length rows) (λ i. told (lost_decided (is_marked closed) (length rows) i)) i true past)) (λ less. absurd (omega arith))
  ]
    where
      by : i < length rows → (d : IsLost (is_marked closed) (length rows) i ⊎ ¬ IsLost (is_marked closed) (length rows) i)
          → MatchBool (told d) (i < length rows → IsLost (is_marked closed) (length rows) i) ((i < length rows) × ¬ IsLost (is_marked closed) (length rows) i)
      by less (inl p) = λ h. p
      by less (inr n) = (less, n)

  pub graph-there : IsStrictlySortedBy byte_order (theories files) → AreLinked files → (table : List (List Bool)) × (gone : List Bool) × IsGraphOf files (theories (standing files)) table gone
  graph-there sorted linked = (
    closed,
    lost,
    IsGraphOf-from files rows closed lost (record {
      table = record { sorted = sorted; linked = linked; each = each-row names (standing files) };
      ways = closed-ways;
    }) lost-told,
  )
