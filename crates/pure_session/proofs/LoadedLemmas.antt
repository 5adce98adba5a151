-- What the tests on a file leave of it: the names of loaded theories.
use Rattle.std.proofs.Common.{◌≡◌, ◌≢◌, ◌&&◌, inl, inr, ℕ, ◌+◌, Bool, true, false, not, cond, List, [], ◌∷◌, ◌++◌, map, refl, sym, ◌∙◌, ap, subst, Option, Some, None, nat_lt}
use Rattle.std.specs.List.{list_any}
use Rattle.std.specs.Cmp.Lexicographic.{same_text, nat_list_eq_equiv}
use Rattle.std.proofs.lemmas.Bool.{and_parts, both_ways, not-true, cases_Bool}
use Rattle.pure_io.specs.declared.library.File as library
use Rattle.pure_text.specs.Lists.{IsIn, EachTwo}
use Rattle.pure_text.proofs.ListLaws.{each_of}
use Rattle.pure_grammar.specs.Theories.Lexeme.{same}
use Rattle.pure_grammar.specs.Theories.TheoryText.{TheoryText}
use Rattle.pure_grammar.specs.Tokens.Token.{is_spelling, is_keyword, is_long}
use Rattle.pure_lex.specs.Identifier.{is_identifier}
use Rattle.pure_graph.specs.Limits.{most_files}
use Rattle.pure_graph.specs.Listing.{AreTheories, file_name}
use Rattle.pure_graph.specs.Outcome.{Outcome, Refused, Stands, IsOwnOutcome, is_known_version, is_headed, known_outcome, tree_outcome, pure_theory}
use Rattle.pure_graph.specs.Reading.{Answer, File, IsTried, AreReadFrom, counted, fits, file_parts}
use Rattle.pure_graph.specs.declared.outcome.Reason.TheVariants.{TooManyFiles, TooLarge, UnknownVersion, HeaderName}
use Rattle.pure_graph.specs.Session.{Shown}
use Rattle.pure_graph.specs.Graph.{IsOutcomeJudged, linked, without, first_absent, imports_of}
use Rattle.pure_graph.specs.Order.{Loaded, file_of, AreTakenBehind}
use Rattle.pure_graph.proofs.Ascending.{among-in}
use Rattle.pure_session.specs.Plain.{ArePlain}
use Rattle.pure_session.specs.ToldTheories.{AreTheoriesOf}
use Rattle.pure_session.proofs.GraphLemmas.{in_mapped}
use Rattle.pure_session.proofs.PlainLemmas.{plain-spelling}

-- a loaded theory is that of a file
taken-stands : (files : List File) (taken : List (List ℕ)) (loaded : List Loaded) (l : Loaded) → AreTakenBehind files taken loaded → IsIn l loaded → IsIn (file_of l.name l.source l.text) files
taken-stands files taken [] l all m = absurd m
taken-stands files taken (k ∷ loaded) l all (inl e) = subst (λ (x : Loaded). IsIn (file_of x.name x.source x.text) files) (sym e) all.0.ready.stands
taken-stands files taken (k ∷ loaded) l all (inr m) = taken-stands files (taken ++ k.name ∷ []) loaded l all.2 m

pub right_of : {A B : Type 0} (R : A → B → Type 0) (xs : List A) (ys : List B) (y : B) → EachTwo R xs ys → IsIn y ys → (x : A) × IsIn x xs × R x y
right_of R [] [] y each m = absurd m
right_of R [] (z ∷ ys) y each m = absurd each
right_of R (x ∷ xs) [] y each m = absurd each
right_of R (x ∷ xs) (z ∷ ys) y each (inl e) = (x, inl refl, subst (R x) (sym e) each.0)
right_of R (x ∷ xs) (z ∷ ys) y each (inr m) = let w = right_of R xs ys y each.1 m in (w.0, inr w.1, w.2)

pub judged-before : (files : List File) (t : List ℕ) (o : Outcome) (source : List ℕ) (text : TheoryText) → IsOutcomeJudged files t o (Stands source text) → o ≡ Stands source text
judged-before files t (Refused reason) source text h = absurd (cc)
judged-before files t (Stands s x) source text (inl (c, e)) = absurd (cc)
judged-before files t (Stands s x) source text (inr (n, inl (p, f, e))) = absurd (cc)
judged-before files t (Stands s x) source text (inr (n, inr (k, e))) = sym e

pub linked-before : (o : Outcome) (absent : Option (List ℕ)) (source : List ℕ) (text : TheoryText) → without absent o ≡ Stands source text → o ≡ Stands source text
linked-before o None source text h = h
linked-before o (Some p) source text h = absurd (cc)

pub counted-before : (n : ℕ) (o : Outcome) (source : List ℕ) (text : TheoryText) → counted n o ≡ Stands source text → o ≡ Stands source text
counted-before n o source text h = tell (fits n o) h
  where
    tell : (b : Bool) → cond b o (Refused TooLarge) ≡ Stands source text → o ≡ Stands source text
    tell true e = e
    tell false e = absurd (cc)

known-headed : (theory source : List ℕ) (tree : TheoryText) (s : List ℕ) (x : TheoryText) → known_outcome theory source tree ≡ Stands s x → is_headed theory tree ≡ true
known-headed theory source tree s x h = elim (cases_Bool (is_headed theory tree)) [
  | inl headed ↦ headed
  | inr other ↦ (let refused : known_outcome theory source tree ≡ Refused HeaderName = rw other refl in absurd (let no : Refused HeaderName ≡ Stands s x = sym refused ∙ h in cc))
]

-- a tree that stands has a version that is known
pub tree-known : (theory source : List ℕ) (tree : TheoryText) (s : List ℕ) (x : TheoryText) → tree_outcome theory source tree ≡ Stands s x → known_outcome theory source tree ≡ Stands s x
tree-known theory source tree s x h = by (is_known_version tree.version) h
  where
    by : (b : Bool) → cond b (known_outcome theory source tree) (Refused UnknownVersion) ≡ Stands s x → known_outcome theory source tree ≡ Stands s x
    by true e = e
    by false e = absurd (cc)

headed-other : (theory : List ℕ) (tree : TheoryText) → is_headed theory tree ≡ true → theory ≡ pure_theory → ⊥
headed-other theory tree h e =
    let parts = and_parts (same tree.name theory) (not (same tree.name pure_theory)) h in
    let name : tree.name ≡ theory = same_text tree.name theory (sym parts.0) in
    both_ways (same tree.name pure_theory) (not-true (same tree.name pure_theory) parts.1) (ap (λ n. same n pure_theory) (name ∙ e) ∙ nat_list_eq_equiv.refl pure_theory)

own-headed : (theory : List ℕ) (bytes : Option (List ℕ)) (s : List ℕ) (x : TheoryText) → IsOwnOutcome theory bytes (Stands s x) → theory ≡ pure_theory → ⊥
own-headed theory None s x own e = cc
own-headed theory (Some source) s x (inl (l, o)) e = cc
own-headed theory (Some source) s x (inr (l, inl (at, f, o))) e = cc
own-headed theory (Some source) s x (inr (l, inr (tree, f, o))) e = headed-other theory tree (known-headed theory source tree s x (tree-known theory source tree s x (sym o))) e

tried-headed : (is_read : Bool) (a : Answer) (own : Outcome) (s : List ℕ) (x : TheoryText) → IsTried is_read a own → own ≡ Stands s x → a.theory ≡ pure_theory → ⊥
tried-headed true a own s x tried o e = own-headed a.theory a.bytes s x (subst (IsOwnOutcome a.theory a.bytes) o tried) e
tried-headed false a own s x tried o e = let no : Refused TooManyFiles ≡ Stands s x = sym tried ∙ o in cc

read-named : (place n : ℕ) (answers : List Answer) (files : List File) (f : File) (s : List ℕ) (x : TheoryText) → AreReadFrom place n answers files → IsIn f files → f.outcome ≡ Stands s x
    → IsIn f.theory (map (λ (a : Answer). a.theory) answers) × (f.theory ≡ pure_theory → ⊥)
read-named place n [] [] f s x read m o = absurd m
read-named place n [] (g ∷ files) f s x read m o = absurd read
read-named place n (a ∷ answers) [] f s x read m o = absurd m
read-named place n (a ∷ answers) (g ∷ files) f s x (own, tried, made, rest) (inl e) o =
    let theory : f.theory ≡ a.theory = ap (λ (h : File). h.theory) (e ∙ made) in
    let said : counted n own ≡ Stands s x = sym (ap (λ (h : File). h.outcome) (e ∙ made)) ∙ o in
    (inl theory, λ p. tried-headed (nat_lt place most_files) a own s x tried (counted-before n own s x said) (sym theory ∙ p))
read-named place n (a ∷ answers) (g ∷ files) f s x (own, tried, made, rest) (inr m) o =
    let w = read-named (place + 1) (n + file_parts (counted n own)) answers files f s x rest m o in
    (inr w.0, w.1)

plain-listed : (names theories : List (List ℕ)) (t : List ℕ) → AreTheories names theories → IsIn t theories → IsIn 46 t → ⊥
plain-listed names theories t listed m dotted =
    let both : (is_identifier t && list_any (same (file_name t)) names) ≡ true = sym (listed.counted t) ∙ among-in t theories m in
    let is_one : is_identifier t ≡ true = (and_parts (is_identifier t) (list_any (same (file_name t)) names) both).0 in
    let is_ident = (and_parts (is_spelling t && not (is_keyword t)) (not (is_long t)) is_one).0 in
    plain-spelling t (and_parts (is_spelling t) (not (is_keyword t)) is_ident).0 dotted

-- The names of the theories of a library have no dot, and none is that of the built-in theory.
pub theories-plain : (told : Option (List library.File)) (theories : List Loaded) (refused : List Shown) (n : ℕ) → AreTheoriesOf told theories refused n → ArePlain theories
theories-plain told theories refused n of = each_of (λ (l : Loaded). (¬ IsIn 46 l.name) × (l.name ≢ pure_theory)) theories (λ l m.
    let listed : List (List ℕ) = map (λ (a : Answer). a.theory) of.answers in
    let all : List File = map (linked listed) of.loading.read in
    let stood = taken-stands of.loading.judged [] theories l of.loading.loaded m in
    let f = right_of (λ (f j : File). (j.theory ≡ f.theory) × IsOutcomeJudged all f.theory f.outcome j.outcome) all of.loading.judged (file_of l.name l.source l.text) of.loading.are_judged stood in
    let said : f.0.outcome ≡ Stands l.source l.text = judged-before all f.0.theory f.0.outcome l.source l.text f.2.1 in
    let r = in_mapped (linked listed) f.0 of.loading.read f.1 in
    let own : r.0.outcome ≡ Stands l.source l.text =
    linked-before r.0.outcome (first_absent listed (imports_of r.0.outcome)) l.source l.text (sym (ap (λ (h : File). h.outcome) r.2) ∙ said) in
    let name : l.name ≡ r.0.theory = f.2.0 ∙ ap (λ (h : File). h.theory) r.2 in
    let w = read-named 0 0 of.answers of.loading.read r.0 l.source l.text of.loading.are_read r.1 own in
    let inside : IsIn l.name of.listed_theories = subst (λ t. IsIn t of.listed_theories) (sym name) (subst (IsIn r.0.theory) of.of_theories w.0) in
    (plain-listed of.names of.listed_theories l.name of.listed inside, λ e. w.1 (sym name ∙ e)))
