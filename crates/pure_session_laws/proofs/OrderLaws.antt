-- The theories of a session are in order.
use Rattle.std.proofs.Common.{◌≡◌, ◌≤◌, ◌+◌, inl, inr, ℕ, zero, suc, Bool, true, false, not, cond, List, [], ◌∷◌, ◌++◌, length, map, refl, sym, ◌∙◌, subst, arith, Some, length-append}
use Rattle.std.specs.List.{filter, list_any, slice_get}
use Rattle.std.specs.Cmp.Lexicographic.{same_text, nat_list_eq_equiv}
use Rattle.std.proofs.lemmas.Bool.{both_ways}
use Rattle.std.proofs.lemmas.Option.{same_Some}
use Rattle.pure_text.specs.Lists.{IsIn, Each, AreDistinct}
use Rattle.pure_text.proofs.ListLaws.{each_at, in-append_left, in-append_right, distinct-snoc}
use Rattle.pure_grammar.specs.Theories.Lexeme.{same}
use Rattle.pure_grammar.specs.Theories.TheoryText.{TheoryText}
use Rattle.pure_grammar.specs.Theories.Phrase.{Ident, ImportsPhrase, NoImport, Imports}
use Rattle.pure_grammar.specs.Theories.PhraseTree.{with_text, mentions, imports_of}
use Rattle.pure_graph.specs.Outcome.{IsTheoryText, pure_theory}
use Rattle.pure_graph.specs.Reading.{File}
use Rattle.pure_graph.specs.Graph.{named_imports}
use Rattle.pure_graph.specs.Order.{Loaded, index_among, AreTakenBehind}
use Rattle.pure_graph.proofs.Ascending.{among-in}
use Rattle.pure_session_laws.specs.InOrder.{AreParents, LoadedInOrder}
use Rattle.pure_session_laws.proofs.StoodLaws.{IsOwn, loaded-own}

-- ---- distinct names

abbrev names_of : List Loaded → List (List ℕ)
names_of = map (λ (l : Loaded). l.name)

-- none of those that are taken is taken again
behind-new : (files : List File) (taken : List (List ℕ)) (loaded : List Loaded) → AreTakenBehind files taken loaded → (x : List ℕ) → IsIn x (names_of loaded) → IsIn x taken → ⊥
behind-new files taken [] all x m t = m
behind-new files taken (l ∷ loaded) all x (inl e) t = all.0.ready.left (subst (λ y. IsIn y taken) e t)
behind-new files taken (l ∷ loaded) all x (inr m) t = behind-new files (taken ++ l.name ∷ []) loaded all.2 x m (in-append_left x taken (l.name ∷ []) t)

pub names-distinct : (files : List File) (taken : List (List ℕ)) (loaded : List Loaded) → AreTakenBehind files taken loaded → AreDistinct (names_of loaded)
names-distinct files taken [] all = tt
names-distinct files taken (l ∷ loaded) all = (
  λ m. behind-new files (taken ++ l.name ∷ []) loaded all.2 l.name m (in-append_right l.name taken (l.name ∷ []) (inl refl)),
  names-distinct files (taken ++ l.name ∷ []) loaded all.2,
)

-- ---- indexes

same-self : (t : List ℕ) → same t t ≡ true
same-self t = nat_list_eq_equiv.refl t

-- a text among others is the first of them, or among the rest
among-rest : (t x : List ℕ) (ts : List (List ℕ)) → IsIn x (t ∷ ts) → same t x ≡ false → IsIn x ts
among-rest t x ts (inl e) h = absurd (both_ways (same t x) h (subst (λ y. same t y ≡ true) (sym e) (same-self t)))
among-rest t x ts (inr m) h = m

index-within : (taken : List (List ℕ)) (x : List ℕ) → IsIn x taken → (1 ≤ index_among taken x) × (index_among taken x ≤ length taken)
index-within [] x m = absurd m
index-within (t ∷ taken) x m = by (same t x) refl (λ h. index-within taken x (among-rest t x taken m h))
  where
    by : (b : Bool) → same t x ≡ b → (same t x ≡ false → (1 ≤ index_among taken x) × (index_among taken x ≤ length taken))
        → (1 ≤ cond b 1 (suc (index_among taken x))) × (cond b 1 (suc (index_among taken x)) ≤ suc (length taken))
    by true h later = (omega arith, omega arith)
    by false h later = let w = later h in (omega arith, omega (arith, w.1))

index-once : (taken : List (List ℕ)) (x y : List ℕ) → IsIn x taken → IsIn y taken → index_among taken x ≡ index_among taken y → x ≡ y
index-once [] x y m n e = absurd m
index-once (t ∷ taken) x y m n e = by (same t x) (same t y) refl refl e (λ h k f. index-once taken x y (among-rest t x taken m h) (among-rest t y taken n k) f)
  where
    by : (b c : Bool) → same t x ≡ b → same t y ≡ c → cond b 1 (suc (index_among taken x)) ≡ cond c 1 (suc (index_among taken y))
        → (same t x ≡ false → same t y ≡ false → index_among taken x ≡ index_among taken y → x ≡ y) → x ≡ y
    by true true h k e later = sym (same_text t x (sym h)) ∙ same_text t y (sym k)
    by true false h k e later = let w = index-within taken y (among-rest t y taken n k) in absurd (omega (arith, w.0, e))
    by false true h k e later = let w = index-within taken x (among-rest t x taken m h) in absurd (omega (arith, w.0, e))
    by false false h k e later = later h k (omega (arith, e))

-- ---- distinct imports

in-filter : {A : Type 0} (p : A → Bool) (x : A) (xs : List A) → IsIn x (filter p xs) → IsIn x xs
in-filter p x [] m = m
in-filter p x (y ∷ ys) m = by (p y) m (in-filter p x ys)
  where
    by : (b : Bool) → IsIn x (cond b (y ∷ filter p ys) (filter p ys)) → (IsIn x (filter p ys) → IsIn x ys) → IsIn x (y ∷ ys)
    by true (inl e) later = inl e
    by true (inr n) later = inr (later n)
    by false n later = inr (later n)

filter-distinct : {A : Type 0} (p : A → Bool) (xs : List A) → AreDistinct xs → AreDistinct (filter p xs)
filter-distinct p [] d = tt
filter-distinct p (y ∷ ys) d = by (p y) (filter-distinct p ys d.1)
  where
    by : (b : Bool) → AreDistinct (filter p ys) → AreDistinct (cond b (y ∷ filter p ys) (filter p ys))
    by true more = (λ m. d.0 (in-filter p y ys m), more)
    by false more = more

with-distinct : (known : List (List ℕ)) (x : List ℕ) → AreDistinct known → AreDistinct (with_text known x)
with-distinct known x d = by (list_any (same x) known) refl
  where
    by : (b : Bool) → list_any (same x) known ≡ b → AreDistinct (cond b known (known ++ x ∷ []))
    by true h = d
    by false h = distinct-snoc known x d (λ m. both_ways (list_any (same x) known) h (among-in x known m))

mentions-distinct : (known : List (List ℕ)) (xs : List Ident) → AreDistinct known → AreDistinct (mentions known xs)
mentions-distinct known [] d = d
mentions-distinct known (x ∷ xs) d = mentions-distinct (with_text known x.text) xs (with-distinct known x.text d)

imports-distinct : (p : ImportsPhrase) → AreDistinct (imports_of p)
imports-distinct NoImport = ((λ m. m), tt)
imports-distinct (Imports x xs) = mentions-distinct (x.text ∷ []) xs ((λ m. m), tt)

named-distinct : (source : List ℕ) (text : TheoryText) → IsTheoryText source text → AreDistinct (named_imports text)
named-distinct source text (tokens, spells, is) =
    filter-distinct (λ p. not (same p pure_theory)) text.imports (subst (λ (t : TheoryText). AreDistinct t.imports) is.means (imports-distinct is.file.imports))

-- ---- parents

in-image : {A B : Type 0} (f : A → B) (x : A) (ys : List A) → ((y : A) → IsIn y ys → f x ≡ f y → x ≡ y) → IsIn (f x) (map f ys) → IsIn x ys
in-image f x [] once m = m
in-image f x (y ∷ ys) once (inl e) = inl (once y (inl refl) e)
in-image f x (y ∷ ys) once (inr n) = inr (in-image f x ys (λ z k. once z (inr k)) n)

map-distinct : {A B : Type 0} (f : A → B) (xs : List A) → ((x y : A) → IsIn x xs → IsIn y xs → f x ≡ f y → x ≡ y) → AreDistinct xs → AreDistinct (map f xs)
map-distinct f [] once d = tt
map-distinct f (x ∷ xs) once d = (λ m. d.0 (in-image f x xs (λ y n. once x y (inl refl) (inr n)) m), map-distinct f xs (λ y z m n. once y z (inr m) (inr n)) d.1)

each-map : {A B : Type 0} (f : A → B) (P : B → Type 0) (Q : A → Type 0) (xs : List A) → ((x : A) → Q x → P (f x)) → Each Q xs → Each P (map f xs)
each-map f P Q [] has h = tt
each-map f P Q (x ∷ xs) has h = (has x h.0, each-map f P Q xs has h.1)

parents-of : (taken : List (List ℕ)) (imports : List (List ℕ)) → Each (λ p. IsIn p taken) imports → AreDistinct imports → AreParents (length taken) (map (index_among taken) imports)
parents-of taken imports free d = record {
  earlier = each-map (index_among taken) (λ p. (1 ≤ p) × (p ≤ length taken)) (λ p. IsIn p taken) imports (λ p m. index-within taken p m) free;
  distinct = map-distinct (index_among taken) imports (λ p q m n e. index-once taken p q (each_at (λ x. IsIn x taken) imports free p m) (each_at (λ x. IsIn x taken) imports free q n) e) d;
}

parents-at : (files : List File) (taken : List (List ℕ)) (loaded : List Loaded) → AreTakenBehind files taken loaded → ((l : Loaded) → IsIn l loaded → IsOwn l.name l.source l.text)
    → (k n : ℕ) (l : Loaded) → n ≡ length taken + k → slice_get loaded k ≡ Some l → AreParents n l.parents
parents-at files taken [] all own k n l size at = absurd (cc)
parents-at files taken (m ∷ loaded) all own zero n l size at =
    let here : m ≡ l = same_Some m l at in
    let before : length taken ≡ n = omega (arith, size) in
    let imports : List (List ℕ) = named_imports m.text in
    let made : AreParents (length taken) (map (index_among taken) imports) = parents-of taken imports all.0.ready.free (named-distinct m.source m.text (own m (inl refl)).spelled) in
    subst (λ (x : Loaded). AreParents n x.parents) here (subst (AreParents n) (sym all.1) (subst (λ b. AreParents b (map (index_among taken) imports)) before made))
parents-at files taken (m ∷ loaded) all own (suc k) n l size at =
    let longer = length-append taken (m.name ∷ []) in
    parents-at files (taken ++ m.name ∷ []) loaded all.2 (λ x i. own x (inr i)) k n l (omega (arith, size, longer)) at

pub loaded-in-order : LoadedInOrder
loaded-in-order answers theories refused n of = record {
  names = names-distinct of.judged [] theories of.loaded;
  parents = λ k l at. parents-at of.judged [] theories of.loaded (loaded-own answers theories refused n of) k k l (omega arith) at;
}
