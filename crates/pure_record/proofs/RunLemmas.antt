-- Runs of tokens, read one after another.
use Rattle.std.proofs.Common.{◌≡◌, ℕ, zero, suc, ◌+◌, ◌<◌, ◌≤◌, Bool, true, false, List, [], ◌∷◌, length, drop, get_or, refl, sym, ◌∙◌, ap, subst, arith, Option, Some, None}
use Rattle.std.specs.Prelude.{nat_lt, if◌then◌else◌}
use Rattle.std.proofs.lemmas.Bool.Decides.{nat_tests}
use Rattle.std.proofs.lemmas.List.{drop_more}
use Rattle.pure_grammar.specs.declared.token.Token.{Token}
use Rattle.pure_record.specs.Spelled.{is_bar as bar_of, longer, runs_of, first_long}

-- the first long run, where `count` tokens stand before the first of these runs, the first of them at the place `start`
abbrev pub long_behind : (start count : ℕ) → List (List Token) → Option ℕ
long_behind start zero runs = first_long runs
long_behind start (suc n) [] = None
long_behind start (suc n) (run ∷ runs) = if nat_lt 1000 (suc n + length run) then Some start else first_long runs

-- there is a first run
some-runs : (source : List ℕ) (ts : List Token) → (run : List Token) × (runs : List (List Token)) × (runs_of source ts ≡ run ∷ runs)
some-runs source [] = ([], [], refl)
some-runs source (t ∷ ts) = tell (bar_of source t) refl (some-runs source ts)
  where
    tell : (b : Bool) → bar_of source t ≡ b → (run : List Token) × (runs : List (List Token)) × (runs_of source ts ≡ run ∷ runs)
        → (run : List Token) × (runs : List (List Token)) × (runs_of source (t ∷ ts) ≡ run ∷ runs)
    tell true h w = ([], runs_of source ts, rw h refl)
    tell false h (run, runs, e) = (t ∷ run, runs, rw h (ap (longer t) e))

few : (n : ℕ) → n ≤ 1000 → nat_lt 1000 n ≡ false
few n h = grind (arith, nat_tests)

many : (n : ℕ) → 1000 < n → nat_lt 1000 n ≡ true
many n h = grind (arith, nat_tests)

-- behind `|`
at-bar : (start count : ℕ) (runs : List (List Token)) → count ≤ 1000 → long_behind start count ([] ∷ runs) ≡ first_long runs
at-bar start zero runs h = refl
at-bar start (suc n) runs h = let no : nat_lt 1000 (suc n + 0) ≡ false = few (suc n + 0) (omega arith) in rw no refl

-- behind another token
at-first : (start : ℕ) (t : Token) (run : List Token) (runs : List (List Token)) → long_behind start zero ((t ∷ run) ∷ runs) ≡ long_behind t.from 1 (run ∷ runs)
at-first start t run runs =
    let same : suc (length run) ≡ 1 + length run = omega arith in
    ap (λ k. if nat_lt 1000 k then Some t.from else first_long runs) same

at-more : (start n : ℕ) (t : Token) (run : List Token) (runs : List (List Token)) → long_behind start (suc n) ((t ∷ run) ∷ runs) ≡ long_behind start (suc (suc n)) (run ∷ runs)
at-more start n t run runs =
    let same : suc n + suc (length run) ≡ suc (suc n) + length run = omega arith in
    ap (λ k. if nat_lt 1000 k then Some start else first_long runs) same

-- What a token makes of the run before it: none behind `|`, and else one token more.
pub record IsBehind (is_bar : Bool) (from start count start' count' : ℕ) : Type 0 where
  pub bar : is_bar ≡ true → count' ≡ 0
  pub first : is_bar ≡ false → count ≡ 0 → (start' ≡ from) × (count' ≡ 1)
  pub more : is_bar ≡ false → 0 < count → (start' ≡ start) × (count' ≡ count + 1)

pub run-step : (source : List ℕ) (t : Token) (ts : List Token) (start count start' count' : ℕ) → count ≤ 1000 → IsBehind (bar_of source t) t.from start count start' count'
    → long_behind start count (runs_of source (t ∷ ts)) ≡ long_behind start' count' (runs_of source ts)
run-step source t ts start count start' count' h behind = tell (bar_of source t) refl count refl
  where
    tell : (b : Bool) → bar_of source t ≡ b → (c : ℕ) → count ≡ c → long_behind start count (runs_of source (t ∷ ts)) ≡ long_behind start' count' (runs_of source ts)
    tell true e c is = rw (e, behind.bar e) (at-bar start count (runs_of source ts) h)
    tell false e zero is =
        let w = some-runs source ts in
        let f = behind.first e is in
        rw (e, w.2, f.0, f.1, is) (at-first start t w.0 w.1)
    tell false e (suc n) is =
        let w = some-runs source ts in
        let f = behind.more e (omega (arith, is)) in
        let next : count' ≡ suc (suc n) = omega (arith, f.1, is) in
        rw (e, w.2, f.0, next, is) (at-more start n t w.0 w.1)

-- a run that is too long
pub run-long : (source : List ℕ) (ts : List Token) (start count : ℕ) → 1000 < count → long_behind start count (runs_of source ts) ≡ Some start
run-long source ts start zero h = absurd (omega arith)
run-long source ts start (suc n) h =
    let w = some-runs source ts in
    let yes : nat_lt 1000 (suc n + length w.0) ≡ true = many (suc n + length w.0) (omega arith) in
    rw (w.2, yes) refl

-- no token is left
pub run-end : (source : List ℕ) (ts : List Token) (start count : ℕ) → ts ≡ [] → count ≤ 1000 → long_behind start count (runs_of source ts) ≡ None
run-end source ts start count e h = rw e (at-bar start count [] h)

-- ---- the loop's turn
pub record IsSoFar (source : List ℕ) (ts : List Token) (i start count : ℕ) : Type 0 where
  pub few : count ≤ 1000
  pub same : long_behind start count (runs_of source (drop i ts)) ≡ first_long (runs_of source ts)

pub run-turn : (source : List ℕ) (ts : List Token) (i start count start' count' : ℕ) (d : Token) (b : Bool) → i < length ts → IsSoFar source ts i start count → b ≡ bar_of source (get_or ts i d)
    → IsBehind b (get_or ts i d).from start count start' count' → long_behind start' count' (runs_of source (drop (i + 1) ts)) ≡ first_long (runs_of source ts)
run-turn source ts i start count start' count' d b h so is behind =
    sym (run-step source (get_or ts i d) (drop (i + 1) ts) start count start' count' so.few (subst (λ z. IsBehind z (get_or ts i d).from start count start' count') is behind))
    ∙ ap (λ z. long_behind start count (runs_of source z)) (sym (drop_more ts i d h)) ∙ so.same
