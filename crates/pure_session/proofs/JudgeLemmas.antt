-- What the graph of the files says of each is what their imports say.
use Rattle.std.proofs.Common.{◌≡◌, ◌⊎◌, ◌&&◌, ◌+◌, ◌<◌, ◌≤◌, inl, inr, ℕ, zero, suc, Bool, true, false, not, cond, List, [], ◌∷◌, ◌++◌, length, map, get_or, refl, sym, ◌∙◌, ap, subst, Option, Some, None, MatchBool, arith, length-append}
use Rattle.std.specs.List.{find}
use Rattle.std.specs.List.Sorted.{IsStrictlySortedBy}
use Rattle.std.proofs.lemmas.Bool.{MatchBool-at_true, MatchBool-at_false, both_ways, false_from_ne_true, cases_lt}
use Rattle.pure_text.specs.Lists.{IsIn, Each, EachTwo}
use Rattle.pure_text.proofs.ListLaws.{each_at, each-left, each-right, in-append_right, in-map}
use Rattle.pure_text.proofs.AscendingTexts.{byte_order}
use Rattle.pure_grammar.specs.Theories.TheoryText.{TheoryText}
use Rattle.pure_grammar.specs.Theories.Lexeme.{same}
use Rattle.pure_graph.specs.Outcome.{Outcome, Refused, Stands, pure_theory}
use Rattle.pure_graph.specs.Reading.{File}
use Rattle.pure_graph.specs.Graph.{HasStood, Imports, IsCyclic, IsRefused, IsFirstRefused, before, on_cycle, by_parent, imports_of, named_imports, IsStandingJudged, IsOutcomeJudged, AreJudged}
use Rattle.pure_session.specs.ImportGraph.{theories, AreLinked, AreGrounded, IsLost}
use Rattle.pure_session.specs.Places.{place_in, is_marked}
use Rattle.pure_session.specs.Judging.{IsGraphOf, reach_of, by_parent_if, verdict, unless, judged_outcome, judged_file}
use Rattle.pure_graph.specs.declared.outcome.Reason.{Reason}
use Rattle.pure_graph.specs.declared.outcome.Reason.TheVariants.{CyclicImports, ParentRefused}
use Rattle.pure_graph.proofs.LawsLemmas.{file_once}
use Rattle.pure_session.proofs.GraphLemmas.{in_mapped, stood_or_refused, import-listed, good-stood}

-- ---- the first that passes a test
pub record IsFirst {A : Type 0} (test : A → Bool) (xs : List A) (x : A) : Type 0 where
  pub front : List A
  pub back : List A
  pub parts : xs ≡ front ++ x ∷ back
  pub passed_over : Each (λ y. test y ≡ false) front
  pub passes : test x ≡ true

found_none : {A : Type 0} (test : A → Bool) (x : A) (xs : List A) (b : Bool) → test x ≡ b → (find test xs ≡ None → Each (λ y. test y ≡ false) xs) → cond b (Some x) (find test xs) ≡ None → Each (λ y. test y ≡ false) (x ∷ xs)
found_none test x xs true e more h = absurd (cc)
found_none test x xs false e more h = (e, more h)

pub find-none : {A : Type 0} (test : A → Bool) (xs : List A) → find test xs ≡ None → Each (λ y. test y ≡ false) xs
find-none test [] h = tt
find-none test (x ∷ xs) h = found_none test x xs (test x) refl (find-none test xs) h

found_some : {A : Type 0} (test : A → Bool) (x y : A) (xs : List A) (b : Bool) → test x ≡ b → (find test xs ≡ Some y → IsFirst test xs y) → cond b (Some x) (find test xs) ≡ Some y → IsFirst test (x ∷ xs) y
found_some test x y xs true e more h =
    let same : x ≡ y = cc in
    record { front = []; back = xs; parts = ap (λ z. z ∷ xs) same; passed_over = tt; passes = ap test (sym same) ∙ e }
found_some test x y xs false e more h =
    let f = more h in
    record { front = x ∷ f.front; back = f.back; parts = ap (λ zs. x ∷ zs) f.parts; passed_over = (e, f.passed_over); passes = f.passes }

pub find-some : {A : Type 0} (test : A → Bool) (xs : List A) (y : A) → find test xs ≡ Some y → IsFirst test xs y
find-some test [] y h = absurd (cc)
find-some test (x ∷ xs) y h = found_some test x y xs (test x) refl (find-some test xs y) h

each_both : {A : Type 0} (P Q R : A → Type 0) (xs : List A) → ((x : A) → P x → Q x → R x) → Each P xs → Each Q xs → Each R xs
each_both P Q R [] f p q = tt
each_both P Q R (x ∷ xs) f p q = (f x p.0 q.0, each_both P Q R xs f p.1 q.1)

-- ---- the places that are lost
-- the flags of the places below a bound
pub record AreLostBelow (marked : ℕ → ℕ → Bool) (count bound : ℕ) (lost : List Bool) : Type 0 where
  pub long : length lost ≡ bound
  pub each : (i : ℕ) → i < bound → MatchBool (get_or lost i true) (IsLost marked count i) (¬ IsLost marked count i)

at_end : (lost : List Bool) (b : Bool) → get_or (lost ++ b ∷ []) (length lost) true ≡ b
at_end [] b = refl
at_end (x ∷ lost) b = at_end lost b

in_front : (lost : List Bool) (b : Bool) (i : ℕ) → i < length lost → get_or (lost ++ b ∷ []) i true ≡ get_or lost i true
in_front [] b i h = absurd (omega arith)
in_front (x ∷ lost) b zero h = refl
in_front (x ∷ lost) b (suc i) h = in_front lost b i (omega arith)

behind_all : (lost : List Bool) (i : ℕ) → length lost ≤ i → get_or lost i true ≡ true
behind_all [] i h = refl
behind_all (x ∷ lost) zero h = absurd (omega arith)
behind_all (x ∷ lost) (suc i) h = behind_all lost i (omega arith)

pub AreLostBelow-none : (marked : ℕ → ℕ → Bool) (count : ℕ) (lost : List Bool) → lost ≡ [] → AreLostBelow marked count 0 lost
AreLostBelow-none marked count lost none_yet = rw none_yet (record { long = refl; each = λ i h. absurd (omega arith) })

pub AreLostBelow-more : (marked : ℕ → ℕ → Bool) (count bound : ℕ) (lost more : List Bool) (b : Bool) → AreLostBelow marked count bound lost → more ≡ lost ++ b ∷ []
    → MatchBool b (IsLost marked count bound) (¬ IsLost marked count bound) → AreLostBelow marked count (bound + 1) more
AreLostBelow-more marked count bound lost more b are is one = rw is (record {
  long = omega (arith, length-append lost (b ∷ []), are.long);
  each = λ i h. elim (cases_lt i bound) [
    | inl below ↦ (let at : get_or (lost ++ b ∷ []) i true ≡ get_or lost i true = in_front lost b i (omega (arith, are.long)) in
        subst (λ c. MatchBool c (IsLost marked count i) (¬ IsLost marked count i)) (sym at) (are.each i below))
    | inr past ↦ (let here : bound ≡ i = omega arith in
        let at : get_or (lost ++ b ∷ []) i true ≡ b = subst (λ k. get_or (lost ++ b ∷ []) k true ≡ b) (are.long ∙ here) (at_end lost b) in
        subst (λ c. MatchBool c (IsLost marked count i) (¬ IsLost marked count i)) (sym at) (subst (λ k. MatchBool b (IsLost marked count k) (¬ IsLost marked count k)) here one))
  ];
})

pub AreLostBelow-all : (marked : ℕ → ℕ → Bool) (count bound : ℕ) (lost : List Bool) → bound ≡ count → AreLostBelow marked count bound lost
    → (i : ℕ) → MatchBool (get_or lost i true) (i < count → IsLost marked count i) ((i < count) × ¬ IsLost marked count i)
AreLostBelow-all marked count bound lost full are i = elim (cases_lt i count) [
  | inl below ↦ tell (get_or lost i true) below (are.each i (omega arith))
  | inr past ↦ subst (λ c. MatchBool c (i < count → IsLost marked count i) ((i < count) × ¬ IsLost marked count i)) (sym (behind_all lost i (omega (arith, are.long)))) (λ h. absurd (omega arith))
]
  where
    tell : (b : Bool) → i < count → MatchBool b (IsLost marked count i) (¬ IsLost marked count i) → MatchBool b (i < count → IsLost marked count i) ((i < count) × ¬ IsLost marked count i)
    tell true below h = λ _. h
    tell false below h = (below, h)

-- ---- the verdict on one file
abbrev pub is_refused : (names : List (List ℕ)) → (lost : List Bool) → List ℕ → Bool
is_refused names lost p = not (same p pure_theory) && get_or lost (place_in names p) true

abbrev is_lost : (names : List (List ℕ)) → (lost : List Bool) → List ℕ → Bool
is_lost names lost p = get_or lost (place_in names p) true

abbrev on_own_way : (names : List (List ℕ)) → (rows : List (List Bool)) → List ℕ → Bool
on_own_way names rows t = is_marked rows (place_in names t) (place_in names t)

verdict-cyclic : (names : List (List ℕ)) (rows : List (List Bool)) (lost : List Bool) (t : List ℕ) (text : TheoryText) → on_own_way names rows t ≡ true → verdict names rows lost t text ≡ Some CyclicImports
verdict-cyclic names rows lost t text h = rw h refl

verdict-parents : (names : List (List ℕ)) (rows : List (List Bool)) (lost : List Bool) (t : List ℕ) (text : TheoryText) → on_own_way names rows t ≡ false
    → verdict names rows lost t text ≡ by_parent_if (find (is_lost names lost) (named_imports text))
verdict-parents names rows lost t text h = rw h refl

-- the graph's answer on a theory of a file
lost-refused : (files : List File) (names : List (List ℕ)) (rows : List (List Bool)) (lost : List Bool) (p : List ℕ) → IsGraphOf files names rows lost → IsIn p (theories files) → is_lost names lost p ≡ true → IsRefused files p
lost-refused files names rows lost p graph m h = MatchBool-at_true (IsRefused files p) (¬ IsRefused files p) h (graph.refused p m)

kept-good : (files : List File) (names : List (List ℕ)) (rows : List (List Bool)) (lost : List Bool) (p : List ℕ) → IsGraphOf files names rows lost → IsIn p (theories files) → is_lost names lost p ≡ false → ¬ IsRefused files p
kept-good files names rows lost p graph m h = MatchBool-at_false (IsRefused files p) (¬ IsRefused files p) h (graph.refused p m)

linked-imports : (files : List File) (t source : List ℕ) (text : TheoryText) → AreLinked files → IsIn (record { theory = t; outcome = Stands source text }) files → Each (λ p. IsIn p (theories files)) (named_imports text)
linked-imports files t source text linked m = each_at (λ (f : File). Each (λ p. IsIn p (theories files)) (imports_of f.outcome)) files linked (record { theory = t; outcome = Stands source text }) m

by_imports : (files : List File) (names : List (List ℕ)) (rows : List (List Bool)) (lost : List Bool) (imports : List (List ℕ)) (so_far : Outcome) (found : Option (List ℕ)) → IsGraphOf files names rows lost
    → Each (λ p. IsIn p (theories files)) imports → find (is_lost names lost) imports ≡ found
    → ((parent : List ℕ) × IsFirstRefused files imports parent × (unless (by_parent_if found) so_far ≡ Refused (ParentRefused parent))) ⊎ (Each (λ p. ¬ IsRefused files p) imports × (unless (by_parent_if found) so_far ≡ so_far))
by_imports files names rows lost imports so_far None graph listed e =
    inr (each_both (λ p. IsIn p (theories files)) (λ p. is_lost names lost p ≡ false) (λ p. ¬ IsRefused files p) imports (λ p m h. kept-good files names rows lost p graph m h) listed (find-none (is_lost names lost) imports e), refl)
by_imports files names rows lost imports so_far (Some parent) graph listed e =
    let first = find-some (is_lost names lost) imports parent e in
    let parted : Each (λ p. IsIn p (theories files)) (first.front ++ parent ∷ first.back) = subst (Each (λ p. IsIn p (theories files))) first.parts listed in
    inl (
      parent,
      record {
        front = first.front;
        back = first.back;
        parts = first.parts;
        kept = each_both (λ p. IsIn p (theories files)) (λ p. is_lost names lost p ≡ false) (λ p. ¬ IsRefused files p) first.front (λ p m h. kept-good files names rows lost p graph m h)
            (each-left (λ p. IsIn p (theories files)) first.front (parent ∷ first.back) parted) first.passed_over;
        refused = lost-refused files names rows lost parent graph (each-right (λ p. IsIn p (theories files)) first.front (parent ∷ first.back) parted).0 first.passes;
      },
      refl,
    )

standing-judged : (files : List File) (names : List (List ℕ)) (rows : List (List Bool)) (lost : List Bool) (t source : List ℕ) (text : TheoryText) (b : Bool) → IsGraphOf files names rows lost → AreLinked files
    → IsIn (record { theory = t; outcome = Stands source text }) files → on_own_way names rows t ≡ b
    → IsStandingJudged files t (named_imports text) (Stands source text) (unless (verdict names rows lost t text) (Stands source text))
standing-judged files names rows lost t source text true graph linked m e =
    inl ((graph.cyclic t (source, text, m)).0 e, ap (λ v. unless v (Stands source text)) (verdict-cyclic names rows lost t text e))
standing-judged files names rows lost t source text false graph linked m e =
    let free : IsCyclic files t → ⊥ = λ c. both_ways (on_own_way names rows t) e ((graph.cyclic t (source, text, m)).1 c) in
    inr (
      free,
      subst (λ v. ((parent : List ℕ) × IsFirstRefused files (named_imports text) parent × (unless v (Stands source text) ≡ Refused (ParentRefused parent))) ⊎ (Each (λ p. ¬ IsRefused files p) (named_imports text) × (unless v (Stands source text) ≡ Stands source text)))
          (sym (verdict-parents names rows lost t text e))
          (by_imports files names rows lost (named_imports text) (Stands source text) (find (is_lost names lost) (named_imports text)) graph (linked-imports files t source text linked m) refl),
    )

outcome-judged : (files : List File) (names : List (List ℕ)) (rows : List (List Bool)) (lost : List Bool) (t : List ℕ) (o : Outcome) → IsGraphOf files names rows lost → AreLinked files
    → IsIn (record { theory = t; outcome = o }) files → IsOutcomeJudged files t o (judged_outcome names rows lost t o)
outcome-judged files names rows lost t (Refused reason) graph linked m = refl
outcome-judged files names rows lost t (Stands source text) graph linked m = standing-judged files names rows lost t source text (on_own_way names rows t) graph linked m refl

two_mapped : {A B : Type 0} (R : A → B → Type 0) (g : A → B) (xs : List A) → ((x : A) → IsIn x xs → R x (g x)) → EachTwo R xs (map g xs)
two_mapped R g [] h = tt
two_mapped R g (x ∷ xs) h = (h x (inl refl), two_mapped R g xs (λ y m. h y (inr m)))

pub files-judged : (files : List File) (names : List (List ℕ)) (rows : List (List Bool)) (lost : List Bool) → IsGraphOf files names rows lost → AreLinked files → AreJudged files (map (judged_file names rows lost) files)
files-judged files names rows lost graph linked =
    two_mapped (λ (f j : File). (j.theory ≡ f.theory) × IsOutcomeJudged files f.theory f.outcome j.outcome) (judged_file names rows lost) files
    (λ f m. (refl, outcome-judged files names rows lost f.theory f.outcome graph linked m))

-- ---- ranks
kept-outcome : (v : Option Reason) (s : List ℕ) (x : TheoryText) (source : List ℕ) (text : TheoryText) → unless v (Stands s x) ≡ Stands source text → (v ≡ None) × (Stands s x ≡ Stands source text)
kept-outcome None s x source text h = (refl, h)
kept-outcome (Some reason) s x source text h = absurd (cc)

judged-stands : (names : List (List ℕ)) (rows : List (List Bool)) (lost : List Bool) (t : List ℕ) (o : Outcome) (source : List ℕ) (text : TheoryText) → judged_outcome names rows lost t o ≡ Stands source text
    → (o ≡ Stands source text) × (verdict names rows lost t text ≡ None)
judged-stands names rows lost t (Refused reason) source text h = absurd (cc)
judged-stands names rows lost t (Stands s x) source text h =
    let w = kept-outcome (verdict names rows lost t x) s x source text h in
    let same : x ≡ text = let e : Stands s x ≡ Stands source text = w.1 in cc in
    (w.1, ap (verdict names rows lost t) (sym same) ∙ w.0)

parent-none : (found : Option (List ℕ)) → by_parent_if found ≡ None → found ≡ None
parent-none None h = refl
parent-none (Some parent) h = absurd (cc)

verdict-none : (names : List (List ℕ)) (rows : List (List Bool)) (lost : List Bool) (t : List ℕ) (text : TheoryText) (b : Bool) → on_own_way names rows t ≡ b → verdict names rows lost t text ≡ None
    → (on_own_way names rows t ≡ false) × (find (is_lost names lost) (named_imports text) ≡ None)
verdict-none names rows lost t text true e h = absurd (let no : Some CyclicImports ≡ None = sym (verdict-cyclic names rows lost t text e) ∙ h in cc)
verdict-none names rows lost t text false e h = (e, parent-none (find (is_lost names lost) (named_imports text)) (sym (verdict-parents names rows lost t text e) ∙ h))

same-imports : (files : List File) (t source : List ℕ) (text : TheoryText) (p : List ℕ) → IsStrictlySortedBy byte_order (theories files) → IsIn (record { theory = t; outcome = Stands source text }) files → Imports files t p → IsIn p (named_imports text)
same-imports files t source text p sorted m imp =
    let one : record { theory = t; outcome = Stands imp.0 imp.1 } ≡ record { theory = t; outcome = Stands source text } =
    file_once files (record { theory = t; outcome = Stands imp.0 imp.1 }) (record { theory = t; outcome = Stands source text }) sorted imp.2 m refl in
    let said : Stands imp.0 imp.1 ≡ Stands source text = ap (λ (f : File). f.outcome) one in
    let tree : imp.1 ≡ text = cc in
    subst (λ x. IsIn p (named_imports x)) tree imp.3

not-refused : (files : List File) (names : List (List ℕ)) (rows : List (List Bool)) (lost : List Bool) (t source : List ℕ) (text : TheoryText) → IsStrictlySortedBy byte_order (theories files) → IsGraphOf files names rows lost → AreLinked files
    → IsIn (record { theory = t; outcome = Stands source text }) files → verdict names rows lost t text ≡ None → IsRefused files t → ⊥
not-refused files names rows lost t source text sorted graph linked m kept (before reason r) = stood_or_refused files t reason sorted (source, text, m) r
not-refused files names rows lost t source text sorted graph linked m kept (on_cycle c) =
    both_ways (on_own_way names rows t) (verdict-none names rows lost t text (on_own_way names rows t) refl kept).0 ((graph.cyclic t (source, text, m)).1 c)
not-refused files names rows lost t source text sorted graph linked m kept (by_parent {p = p} imp r) =
    let inside : IsIn p (named_imports text) = same-imports files t source text p sorted m imp in
    let passed = find-none (is_lost names lost) (named_imports text) (verdict-none names rows lost t text (on_own_way names rows t) refl kept).1 in
    kept-good files names rows lost p graph (each_at (λ q. IsIn q (theories files)) (named_imports text) (linked-imports files t source text linked m) p inside)
    (each_at (λ q. is_lost names lost q ≡ false) (named_imports text) passed p inside) r

find_or : (names : List (List ℕ)) (lost : List Bool) (imports : List (List ℕ)) (found : Option (List ℕ)) → find (is_lost names lost) imports ≡ found → (found ≡ None) ⊎ ((p : List ℕ) × IsFirst (is_lost names lost) imports p)
find_or names lost imports None e = inl refl
find_or names lost imports (Some p) e = inr (p, find-some (is_lost names lost) imports p e)

-- a theory that isn't refused stands behind the tests too
good-kept : (files : List File) (names : List (List ℕ)) (rows : List (List Bool)) (lost : List Bool) (t source : List ℕ) (text : TheoryText) → IsGraphOf files names rows lost → AreLinked files
    → IsIn (record { theory = t; outcome = Stands source text }) files → (¬ IsRefused files t) → HasStood (map (judged_file names rows lost) files) t
good-kept files names rows lost t source text graph linked m good =
    let free : on_own_way names rows t ≡ false = false_from_ne_true (on_own_way names rows t) (λ h. good (on_cycle ((graph.cyclic t (source, text, m)).0 h))) in
    let kept : verdict names rows lost t text ≡ None = verdict-parents names rows lost t text free ∙ ap by_parent_if (elim (find_or names lost (named_imports text) (find (is_lost names lost) (named_imports text)) refl) [
      | inl none_found ↦ none_found
      | inr w ↦ (let inside : IsIn w.0 (named_imports text) = subst (IsIn w.0) (sym w.1.parts) (in-append_right w.0 w.1.front (w.0 ∷ w.1.back) (inl refl)) in
          absurd (good (by_parent (source, text, m, inside)
          (lost-refused files names rows lost w.0 graph (each_at (λ q. IsIn q (theories files)) (named_imports text) (linked-imports files t source text linked m) w.0 inside) w.1.passes))))
    ]) in
    let judged : judged_file names rows lost (record { theory = t; outcome = Stands source text }) ≡ record { theory = t; outcome = Stands source text } =
    λ i. record { theory = t; outcome = ap (λ v. unless v (Stands source text)) kept i } in
    (source, text, subst (λ f. IsIn f (map (judged_file names rows lost) files)) judged (in-map (judged_file names rows lost) (record { theory = t; outcome = Stands source text }) files m))

-- an import behind the tests, before them
import-before : (files : List File) (names : List (List ℕ)) (rows : List (List Bool)) (lost : List Bool) (t p : List ℕ) → Imports (map (judged_file names rows lost) files) t p
    → Imports files t p × ((source : List ℕ) × (text : TheoryText) × IsIn (record { theory = t; outcome = Stands source text }) files × (verdict names rows lost t text ≡ None))
import-before files names rows lost t p imp =
    let w = in_mapped (judged_file names rows lost) (record { theory = t; outcome = Stands imp.0 imp.1 }) files imp.2 in
    let name : w.0.theory ≡ t = sym (ap (λ (f : File). f.theory) w.2) in
    let said : judged_outcome names rows lost t w.0.outcome ≡ Stands imp.0 imp.1 =
    ap (λ u. judged_outcome names rows lost u w.0.outcome) (sym name) ∙ sym (ap (λ (f : File). f.outcome) w.2) in
    let kept = judged-stands names rows lost t w.0.outcome imp.0 imp.1 said in
    let file : w.0 ≡ record { theory = t; outcome = Stands imp.0 imp.1 } = λ i. record { theory = name i; outcome = kept.0 i } in
    let m : IsIn (record { theory = t; outcome = Stands imp.0 imp.1 }) files = subst (λ f. IsIn f files) file w.1 in
    ((imp.0, imp.1, m, imp.3), (imp.0, imp.1, m, kept.1))

pub judged-grounded : (files : List File) (names : List (List ℕ)) (rows : List (List Bool)) (lost : List Bool) → IsStrictlySortedBy byte_order (theories files) → IsGraphOf files names rows lost → AreLinked files
    → AreGrounded (map (judged_file names rows lost) files)
judged-grounded files names rows lost sorted graph linked = record {
  rank = reach_of names rows;
  falls = λ t p imp.
      let w = import-before files names rows lost t p imp in
      graph.falls t p w.0 (λ r. not-refused files names rows lost t w.1.0 w.1.1 sorted graph linked w.1.2 w.1.3 r);
  stand = λ t p imp.
      let w = import-before files names rows lost t p imp in
      let good : IsRefused files p → ⊥ = λ r. not-refused files names rows lost t w.1.0 w.1.1 sorted graph linked w.1.2 w.1.3 (by_parent w.0 r) in
      let s = good-stood files p (import-listed files t p linked w.0) good in
      good-kept files names rows lost p s.0 s.1 graph linked s.2 good;
}

pub judged-made : (files done : List File) (names : List (List ℕ)) (rows : List (List Bool)) (lost : List Bool) → done ≡ map (judged_file names rows lost) files → IsGraphOf files names rows lost → AreLinked files → AreJudged files done
judged-made files done names rows lost made graph linked = subst (AreJudged files) (sym made) (files-judged files names rows lost graph linked)

pub grounded-made : (files done : List File) (names : List (List ℕ)) (rows : List (List Bool)) (lost : List Bool) → done ≡ map (judged_file names rows lost) files → IsStrictlySortedBy byte_order (theories files)
    → IsGraphOf files names rows lost → AreLinked files → AreGrounded done
grounded-made files done names rows lost made sorted graph linked = subst AreGrounded (sym made) (judged-grounded files names rows lost sorted graph linked)
