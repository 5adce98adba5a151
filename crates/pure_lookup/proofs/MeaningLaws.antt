-- What a written name means: one thing at most, what is declared, and what one declaration more changes.
use Rattle.std.proofs.Common.{◌≡◌, ◌≢◌, ◌⊎◌, ◌↔◌, ℕ, ◌+◌, ◌<◌, ◌≤◌, List, [], ◌∷◌, ◌++◌, refl, ap, sym, ◌∙◌, subst, inl, inr, arith}
use Rattle.std.specs.Prelude.{Option, Some, None, slice_get}
use Rattle.std.proofs.lemmas.Option.{slice_get_within}
use Rattle.pure_text.specs.Lists.{IsIn}
use Rattle.pure_text.proofs.ListLaws.{in-append_left, in-append_right, in_split, each_at}
use Rattle.pure_definitions.specs.Names.{Label, builtin_count, protect_name}
use Rattle.pure_definitions.specs.Terms.Term.{Term}
use Rattle.pure_definitions.specs.Declarations.Decl.{Decl, ClassDecl, ConDecl, ConstDecl, AxiomDecl, PromiseDecl}
use Rattle.pure_typ.specs.NameTexts.{builtin_texts, HasText}
use Rattle.pure_typ.proofs.NamesLemmas.{slice_get-left, length-builtin_texts, Some-inj}
use Rattle.pure_logic.specs.Content.{TheoryId, Content, IsContent}
use Rattle.pure_logic.specs.Beginning.{theories_of}
use Rattle.pure_logic.proofs.AncestorLaws.{in-theories, theories-in, theories_are_told_apart}
use Rattle.pure_lookup.specs.Meaning.{Space, classes, constructors, constants, facts, IsDeclaredIn, pure_text, full_text, Meaning, Declared, Built, IsWritable, IsOfPure, IsOfTheory, IsVisible, IsMeant}
use Rattle.pure_lookup.specs.LookUps.{Fact, BuiltFact, AxiomFact, PromisedFact, IsFoundName, HasMeaning, IsFoundFact, IsLocal, IsFoundLocal, local, elsewhere}
use Rattle.pure_lookup.specs.Laws.{IsInSession, IsTheoryText, Declares, with_decl}
use Rattle.pure_lookup.proofs.TextLemmas.{one_builtin, one_built, builtin-not_built, one_name, pure-has_no_dot, one_cut}

-- Under one full name there is one thing at most in Pure, and one in the other theories.
of_pure-once : (Q : Content) (space : Space) (full : List ℕ) (m n : Meaning) → IsOfPure Q space full m → IsOfPure Q space full n → m ≡ n
of_pure-once Q space full (Declared m) (Declared n) h k = ap Declared (one_builtin full m n h.1 k.1)
of_pure-once Q space full (Declared m) (Built n) h k = absurd (builtin-not_built m n full h.1 k.1)
of_pure-once Q space full (Built m) (Declared n) h k = absurd (builtin-not_built n m full k.1 h.1)
of_pure-once Q space full (Built m) (Built n) h k = ap Built (one_built full m n h.1 k.1)

module _ (texts : List (List ℕ)) (Q : Content) (s : IsInSession texts Q) (space : Space) where
  of_theory-once : (full : List ℕ) (m n : Meaning) → IsOfTheory texts Q space full m → IsOfTheory texts Q space full n → m ≡ n
  of_theory-once full (Declared m) (Declared n) h k = ap Declared (one_name texts s.names full m n h.1 k.1)
  of_theory-once full (Declared m) (Built n) h k = absurd k
  of_theory-once full (Built m) n h k = absurd h

  -- A theory's full name isn't one of Pure.
  not-pure : (t : TheoryId) (theory base other : List ℕ) → IsIn t (theories_of Q) → HasText texts t.name theory → full_text pure_text other ≡ full_text theory base → ⊥
  not-pure t theory base other m h e = let known = s.theories t theory m h in absurd (known.1 (sym (one_cut pure_text theory other base pure-has_no_dot known.0 e).0))

  visible-once : (p q : ℕ) (t u b c : List ℕ) (m n : Meaning) → IsVisible texts Q space p t b m → IsVisible texts Q space q u c n → full_text t b ≡ full_text u c → m ≡ n
  visible-once p q t u b c m n (inl h) (inl k) e = of_pure-once Q space (full_text u c) m n (rw (← e) h.2) k.2
  visible-once p q t u b c m n (inl h) (inr (v, i, place, text, k)) e = absurd (not-pure v u c b i text (ap (λ w. full_text w b) (sym h.1) ∙ e))
  visible-once p q t u b c m n (inr (v, i, place, text, h)) (inl k) e = absurd (not-pure v t b c i text (ap (λ w. full_text w c) (sym k.1) ∙ sym e))
  visible-once p q t u b c m n (inr (v, i, place, text, h)) (inr (x, j, place', text', k)) e = of_theory-once (full_text u c) m n (rw (← e) h) k

  -- At one place in load order there is one theory.
  theory-once : (p q : ℕ) (t u b c : List ℕ) (m n : Meaning) → IsVisible texts Q space p t b m → IsVisible texts Q space q u c n → p ≡ q → t ≡ u
  theory-once p q t u b c m n (inl h) (inl k) e = h.1 ∙ sym k.1
  theory-once p q t u b c m n (inl h) (inr (v, i, place, text, k)) e = let zero_place = h.0 in absurd (omega arith)
  theory-once p q t u b c m n (inr (v, i, place, text, h)) (inl k) e = let zero_place = k.0 in absurd (omega arith)
  theory-once p q t u b c m n (inr (v, i, place, text, h)) (inr (x, j, place', text', k)) e =
      let index : v.index ≡ x.index = omega arith in
      let same : v ≡ x = (theories_are_told_apart Q s.apart).by_index v x i j index in
      Some-inj (sym text ∙ (ap (λ y. slice_get (builtin_texts ++ texts) y.name) same ∙ text'))

  pub one_meaning : (written : List ℕ) (m n : Meaning) → IsMeant texts Q space written m → IsMeant texts Q space written n → m ≡ n
  one_meaning written m n (inl h) (inl k) = let first = h.1 in let second = k.1 in visible-once first.place second.place first.theory second.theory first.base second.base m n first.visible second.visible (sym first.full ∙ second.full)
  one_meaning written m n (inl h) (inr k) = absurd (k.0 h.0)
  one_meaning written m n (inr h) (inl k) = absurd (h.0 k.0)
  one_meaning written m n (inr h) (inr k) =
      let first = h.1 in
      let second = k.1 in
      let below = first.last second.place second.theory n second.visible in
      let above = second.last first.place first.theory m first.visible in
      let theory = theory-once first.place second.place first.theory second.theory written written m n first.visible second.visible (omega arith) in
      visible-once first.place second.place first.theory second.theory written written m n first.visible second.visible (ap (λ t. full_text t written) theory)

  pub one_found : (written : List ℕ) (a b : Option ℕ) → IsFoundName texts Q space written a → IsFoundName texts Q space written b → a ≡ b
  one_found written None None h k = refl
  one_found written None (Some n) h k = absurd (h (Declared n) k)
  one_found written (Some m) None h k = absurd (k (Declared m) h)
  one_found written (Some m) (Some n) h k = let same = one_meaning written (Declared m) (Declared n) h k in cc

-- A meaning is that of one fact at most.
fact-once : (Q : Content) → IsContent Q → (f g : Fact) (m : Meaning) → HasMeaning Q.declarations f m → HasMeaning Q.declarations g m → f ≡ g
fact-once Q q (BuiltFact i) (BuiltFact j) m h k = cc
fact-once Q q (BuiltFact i) (AxiomFact n B) m h k = let is = k.0 in absurd (cc)
fact-once Q q (BuiltFact i) (PromisedFact n l B) m h k = let is = k.0 in absurd (cc)
fact-once Q q (AxiomFact n A) (BuiltFact j) m h k = let is = h.0 in absurd (cc)
fact-once Q q (AxiomFact n A) (AxiomFact o B) m h k =
    let first = h.0 in
    let second = k.0 in
    let names : n ≡ o = cc in
    let same = q.named_once (AxiomDecl n A) (AxiomDecl o B) h.1 k.1 names in
    cc
fact-once Q q (AxiomFact n A) (PromisedFact o l B) m h k =
    let first = h.0 in
    let second = k.0 in
    let names : n ≡ o = cc in
    let same = q.named_once (AxiomDecl n A) (PromiseDecl o l B) h.1 k.1 names in
    absurd (cc)
fact-once Q q (PromisedFact n l A) (BuiltFact j) m h k = let is = h.0 in absurd (cc)
fact-once Q q (PromisedFact n l A) (AxiomFact o B) m h k =
    let first = h.0 in
    let second = k.0 in
    let names : n ≡ o = cc in
    let same = q.named_once (PromiseDecl n l A) (AxiomDecl o B) h.1 k.1 names in
    absurd (cc)
fact-once Q q (PromisedFact n l A) (PromisedFact o k' B) m h k =
    let first = h.0 in
    let second = k.0 in
    let names : n ≡ o = cc in
    let same = q.named_once (PromiseDecl n l A) (PromiseDecl o k' B) h.1 k.1 names in
    cc

pub one_fact : (texts : List (List ℕ)) (Q : Content) → IsInSession texts Q → IsContent Q → (written : List ℕ) (a b : Option Fact) → IsFoundFact texts Q written a → IsFoundFact texts Q written b → a ≡ b
one_fact texts Q s q written None None h k = refl
one_fact texts Q s q written None (Some g) h k = absurd (h k.0 k.1)
one_fact texts Q s q written (Some f) None h k = absurd (k h.0 h.1)
one_fact texts Q s q written (Some f) (Some g) h k =
    let same = one_meaning texts Q s facts written h.0 k.0 h.1 k.1 in
    ap Some (fact-once Q q f g k.0 (rw (← same) h.2) k.2)

-- A fact is local to a lemma under one name, so there is one at most.
local-once : (texts : List (List ℕ)) (Q : Content) → IsInSession texts Q → IsContent Q → (lemma : ℕ) (written : List ℕ) (m n : ℕ) (k l : Label) (A B : Term)
    → IsLocal texts Q lemma written m k A → IsLocal texts Q lemma written n l B → PromisedFact m k A ≡ PromisedFact n l B
local-once texts Q s q lemma written m n k l A B h j =
    let text : h.text ≡ j.text = Some-inj (sym h.lemma_text ∙ j.lemma_text) in
    let names : m ≡ n = one_name texts s.names (full_text j.text written) m n (rw (← text) h.full) j.full in
    let same = q.named_once (PromiseDecl m k A) (PromiseDecl n l B) h.promised j.promised names in
    cc

pub one_local : (texts : List (List ℕ)) (Q : Content) → IsInSession texts Q → IsContent Q → (lemma : ℕ) (written : List ℕ) (a b : Option Fact)
    → IsFoundLocal texts Q lemma written a → IsFoundLocal texts Q lemma written b → a ≡ b
one_local texts Q s q lemma written (Some (PromisedFact m k A)) (Some (PromisedFact n l B)) (local h) (local j) = ap Some (local-once texts Q s q lemma written m n k l A B h j)
one_local texts Q s q lemma written (Some (PromisedFact m k A)) b (local h) (elsewhere none f) = absurd (none m k A h)
one_local texts Q s q lemma written a (Some (PromisedFact n l B)) (elsewhere none f) (local j) = absurd (none n l B j)
one_local texts Q s q lemma written a b (elsewhere none f) (elsewhere other g) = one_fact texts Q s q written a b f g

-- A full name with two dots isn't that of a theory's own.
three_parts : (theory lemma base other part : List ℕ) → (¬ IsIn 46 theory) → (¬ IsIn 46 other) → (¬ IsIn 46 part) → full_text theory (full_text lemma base) ≡ full_text other part → ⊥
three_parts theory lemma base other part clean apart plain e =
    let cut = one_cut theory other (full_text lemma base) part clean apart e in
    plain (rw (← cut.1) (in-append_right 46 lemma (46 ∷ base) (inl refl)))

local-unseen : (texts : List (List ℕ)) (Q : Content) → IsInSession texts Q → (theory lemma base : List ℕ) → (¬ IsIn 46 theory) → (n : ℕ) → builtin_count ≤ n
    → HasText texts n (full_text theory (full_text lemma base)) → (space : Space) (place : ℕ) (other part : List ℕ) → (¬ IsIn 46 part) → IsVisible texts Q space place other part (Declared n) → ⊥
local-unseen texts Q s theory lemma base clean n late full space place other part plain (inl h) =
    let few = slice_get_within builtin_texts n (full_text other part) h.2.1 in
    let six = length-builtin_texts in
    absurd (omega (arith, late, few, six))
local-unseen texts Q s theory lemma base clean n late full space place other part plain (inr (t, i, at, text, h)) =
    three_parts theory lemma base other part clean (s.theories t other i text).0 plain (Some-inj (sym full ∙ h.1))

pub local_is_never_meant : (texts : List (List ℕ)) (Q : Content) → IsInSession texts Q → (theory lemma base : List ℕ) → (¬ IsIn 46 theory) → (n : ℕ) → builtin_count ≤ n
    → HasText texts n (full_text theory (full_text lemma base)) → (space : Space) (written : List ℕ) → ¬ IsMeant texts Q space written (Declared n)
local_is_never_meant texts Q s theory lemma base clean n late full space written (inl h) = local-unseen texts Q s theory lemma base clean n late full space h.1.place h.1.theory h.1.base h.1.clean h.1.visible
local_is_never_meant texts Q s theory lemma base clean n late full space written (inr h) = local-unseen texts Q s theory lemma base clean n late full space h.1.place h.1.theory written h.0 h.1.visible

-- What is visible under a name may be written.
pub visible-writable : (texts : List (List ℕ)) (Q : Content) (space : Space) (p : ℕ) (t b : List ℕ) (n : ℕ) → IsVisible texts Q space p t b (Declared n) → IsWritable Q space n
visible-writable texts Q space p t b n (inl h) = h.2.0
visible-writable texts Q space p t b n (inr (v, i, place, text, h)) = h.0

meant-writable : (texts : List (List ℕ)) (Q : Content) (space : Space) (written : List ℕ) (n : ℕ) → IsMeant texts Q space written (Declared n) → IsWritable Q space n
meant-writable texts Q space written n (inl h) = visible-writable texts Q space h.1.place h.1.theory h.1.base n h.1.visible
meant-writable texts Q space written n (inr h) = visible-writable texts Q space h.1.place h.1.theory written n h.1.visible

pub found_is_declared : (texts : List (List ℕ)) (Q : Content) (space : Space) (written : List ℕ) (n : ℕ) → IsFoundName texts Q space written (Some n) → IsDeclaredIn space Q.declarations n
found_is_declared texts Q space written n h = (meant-writable texts Q space written n h).declared

pub protect_is_never_found : (texts : List (List ℕ)) (Q : Content) (space : Space) (written : List ℕ) → ¬ IsMeant texts Q space written (Declared protect_name)
protect_is_never_found texts Q space written h = (meant-writable texts Q space written protect_name h).other refl

-- What is declared by one of two lists, and by both.
declared-left : (space : Space) (ds es : List Decl) (n : ℕ) → IsDeclaredIn space ds n → IsDeclaredIn space (ds ++ es) n
declared-left classes ds es n (k, m, e) = (k, in-append_left (ClassDecl k) ds es m, e)
declared-left constructors ds es n (k, m) = (k, in-append_left (ConDecl n k) ds es m)
declared-left constants ds es n (T, m) = (T, in-append_left (ConstDecl n T) ds es m)
declared-left facts ds es n (inl (A, m)) = inl (A, in-append_left (AxiomDecl n A) ds es m)
declared-left facts ds es n (inr (l, A, m)) = inr (l, A, in-append_left (PromiseDecl n l A) ds es m)

declared-right : (space : Space) (ds es : List Decl) (n : ℕ) → IsDeclaredIn space es n → IsDeclaredIn space (ds ++ es) n
declared-right classes ds es n (k, m, e) = (k, in-append_right (ClassDecl k) ds es m, e)
declared-right constructors ds es n (k, m) = (k, in-append_right (ConDecl n k) ds es m)
declared-right constants ds es n (T, m) = (T, in-append_right (ConstDecl n T) ds es m)
declared-right facts ds es n (inl (A, m)) = inl (A, in-append_right (AxiomDecl n A) ds es m)
declared-right facts ds es n (inr (l, A, m)) = inr (l, A, in-append_right (PromiseDecl n l A) ds es m)

declared-split : (space : Space) (ds es : List Decl) (n : ℕ) → IsDeclaredIn space (ds ++ es) n → IsDeclaredIn space ds n ⊎ IsDeclaredIn space es n
declared-split classes ds es n (k, m, e) = elim (in_split (ClassDecl k) ds es m) [ inl i ↦ inl (k, i, e) | inr i ↦ inr (k, i, e) ]
declared-split constructors ds es n (k, m) = elim (in_split (ConDecl n k) ds es m) [ inl i ↦ inl (k, i) | inr i ↦ inr (k, i) ]
declared-split constants ds es n (T, m) = elim (in_split (ConstDecl n T) ds es m) [ inl i ↦ inl (T, i) | inr i ↦ inr (T, i) ]
declared-split facts ds es n (inl (A, m)) = elim (in_split (AxiomDecl n A) ds es m) [ inl i ↦ inl (inl (A, i)) | inr i ↦ inr (inl (A, i)) ]
declared-split facts ds es n (inr (l, A, m)) = elim (in_split (PromiseDecl n l A) ds es m) [ inl i ↦ inl (inr (l, A, i)) | inr i ↦ inr (inr (l, A, i)) ]

module _ (texts : List (List ℕ)) (Q : Content) (d : Decl) (space : Space) where
  writable-more : (n : ℕ) → IsWritable Q space n → IsWritable (with_decl Q d) space n
  writable-more n h = record { declared = declared-left space Q.declarations (d ∷ []) n h.declared; other = h.other }

  writable-back : (n : ℕ) → (¬ Declares d space n) → IsWritable (with_decl Q d) space n → IsWritable Q space n
  writable-back n new h = record { declared = elim (declared-split space Q.declarations (d ∷ []) n h.declared) [ inl i ↦ i | inr i ↦ absurd (new i) ]; other = h.other }

  visible-more : (p : ℕ) (t b : List ℕ) (m : Meaning) → IsVisible texts Q space p t b m → IsVisible texts (with_decl Q d) space p t b m
  visible-more p t b (Declared n) (inl h) = inl (h.0, h.1, (writable-more n h.2.0, h.2.1))
  visible-more p t b (Built i) (inl h) = inl h
  visible-more p t b (Declared n) (inr (v, i, place, text, h)) = inr (v, i, place, text, (writable-more n h.0, h.1))
  visible-more p t b (Built j) (inr h) = inr h

  -- No new name has this full text.
  abbrev IsOld : List ℕ → Type 0
  IsOld full = (n : ℕ) → Declares d space n → ¬ HasText texts n full

  visible-back : (p : ℕ) (t b : List ℕ) (m : Meaning) → (IsTheoryText texts Q t → IsOld (full_text t b)) → IsVisible texts (with_decl Q d) space p t b m → IsVisible texts Q space p t b m
  visible-back p t b (Declared n) old (inl h) = inl (h.0, h.1, (writable-back n (λ new. old (inl h.1) n new (slice_get-left builtin_texts texts n (full_text t b) h.2.1)) h.2.0, h.2.1))
  visible-back p t b (Built i) old (inl h) = inl h
  visible-back p t b (Declared n) old (inr (v, i, place, text, h)) = inr (v, i, place, text, (writable-back n (λ new. old (inr (v, i, text)) n new h.1) h.0, h.1))
  visible-back p t b (Built j) old (inr h) = inr h

  module _ (written : List ℕ)
      (other : (n : ℕ) (theory base : List ℕ) → Declares d space n → IsTheoryText texts Q theory → (¬ IsIn 46 base) → HasText texts n (full_text theory base) → (written ≢ full_text theory base) × (written ≢ base)) where
    old-in_full : (t b : List ℕ) → (¬ IsIn 46 b) → written ≡ full_text t b → IsTheoryText texts Q t → IsOld (full_text t b)
    old-in_full t b clean e theory n new text = (other n t b new theory clean text).0 e

    old-by_base : (¬ IsIn 46 written) → (t : List ℕ) → IsTheoryText texts Q t → IsOld (full_text t written)
    old-by_base clean t theory n new text = (other n t written new theory clean text).1 refl

    meant-more : (m : Meaning) → IsMeant texts Q space written m → IsMeant texts (with_decl Q d) space written m
    meant-more m (inl (dot, h)) = inl (dot, record { place = h.place; theory = h.theory; base = h.base; full = h.full; clean = h.clean; visible = visible-more h.place h.theory h.base m h.visible })
    meant-more m (inr (dot, h)) = inr (
      dot,
      record {
        place = h.place;
        theory = h.theory;
        visible = visible-more h.place h.theory written m h.visible;
        last = λ q t n v. h.last q t n (visible-back q t written n (old-by_base dot t) v);
      },
    )

    meant-back : (m : Meaning) → IsMeant texts (with_decl Q d) space written m → IsMeant texts Q space written m
    meant-back m (inl (dot, h)) = inl (dot, record { place = h.place; theory = h.theory; base = h.base; full = h.full; clean = h.clean; visible = visible-back h.place h.theory h.base m (old-in_full h.theory h.base h.clean h.full) h.visible })
    meant-back m (inr (dot, h)) = inr (
      dot,
      record {
        place = h.place;
        theory = h.theory;
        visible = visible-back h.place h.theory written m (old-by_base dot h.theory) h.visible;
        last = λ q t n v. h.last q t n (visible-more q t written n v);
      },
    )

    pub meaning_is_kept : (m : Meaning) → IsMeant texts Q space written m ↔ IsMeant texts (with_decl Q d) space written m
    meaning_is_kept m = (meant-more m, meant-back m)

-- A promise has one name.
promise-names : (n : ℕ) (l : Label) (A : Term) (space : Space) (m : ℕ) → Declares (PromiseDecl n l A) space m → m ≡ n
promise-names n l A classes m (k, inl e, is) = absurd (cc)
promise-names n l A classes m (k, inr i, is) = absurd i
promise-names n l A constructors m (k, inl e) = absurd (cc)
promise-names n l A constructors m (k, inr i) = absurd i
promise-names n l A constants m (T, inl e) = absurd (cc)
promise-names n l A constants m (T, inr i) = absurd i
promise-names n l A facts m (inl (B, inl e)) = absurd (cc)
promise-names n l A facts m (inl (B, inr i)) = absurd i
promise-names n l A facts m (inr (k, B, inl e)) = cc
promise-names n l A facts m (inr (k, B, inr i)) = absurd i

-- The texts of a content's theories have no dot.
theory-plain : (texts : List (List ℕ)) (Q : Content) → IsInSession texts Q → (theory : List ℕ) → IsTheoryText texts Q theory → ¬ IsIn 46 theory
theory-plain texts Q s theory (inl e) m = pure-has_no_dot (rw (← e) m)
theory-plain texts Q s theory (inr (t, i, text)) m = (s.theories t theory i text).0 m

pub local_changes_none : (texts : List (List ℕ)) (Q : Content) → IsInSession texts Q → (theory lemma base : List ℕ) → (¬ IsIn 46 theory) → (n : ℕ) (l : Label) (A : Term)
    → HasText texts n (full_text theory (full_text lemma base)) → (space : Space) (written : List ℕ) (m : Meaning) → IsMeant texts Q space written m ↔ IsMeant texts (with_decl Q (PromiseDecl n l A)) space written m
local_changes_none texts Q s theory lemma base clean n l A full space written m = meaning_is_kept texts Q (PromiseDecl n l A) space written never m
  where
    never : (k : ℕ) (other part : List ℕ) → Declares (PromiseDecl n l A) space k → IsTheoryText texts Q other → (¬ IsIn 46 part) → HasText texts k (full_text other part) → (written ≢ full_text other part) × (written ≢ part)
    never k other part new of plain text =
        let same : k ≡ n = promise-names n l A space k new in
        absurd (three_parts theory lemma base other part clean (theory-plain texts Q s other of) plain (Some-inj (sym full ∙ subst (λ (j : ℕ). HasText texts j (full_text other part)) same text)))

-- No theory of a content comes after its own.
not-after : (Q : Content) (s : (texts : List (List ℕ)) × IsInSession texts Q) (t u : TheoryId) → Q.own ≡ Some t → IsIn u (theories_of Q) → u.index ≤ t.index
not-after Q (texts, s) t u own m = elim (in-theories u Q m) [
  | inl e ↦ (let same : t ≡ u = Some-inj (sym own ∙ e) in rw same (omega arith))
  | inr a ↦ (let less = each_at (λ v. v.index < t.index) Q.ancestors (s.apart.own t own).index u a in omega arith)
]

module _ (texts : List (List ℕ)) (Q : Content) (s : IsInSession texts Q) (t : TheoryId) (own : Q.own ≡ Some t) (theory base : List ℕ) (text : HasText texts t.name theory) where
  module _ (d : Decl) (space : Space) (n : ℕ) (other : n ≢ protect_name) (full : HasText texts n (full_text theory base)) (new : Declares d space n) where
    new-visible : IsVisible texts (with_decl Q d) space (1 + t.index) theory base (Declared n)
    new-visible = inr (t, theories-in t Q (inl own), refl, text, (record { declared = declared-right space Q.declarations (d ∷ []) n new; other = other }, full))

    place-last : (q : ℕ) (u : List ℕ) (m : Meaning) → IsVisible texts (with_decl Q d) space q u base m → q ≤ 1 + t.index
    place-last q u m (inl h) = let first = h.0 in omega arith
    place-last q u m (inr (v, i, place, vtext, h)) = let before = not-after Q (texts, s) t v own i in omega arith

    pub new_is_meant : (¬ IsIn 46 base) → IsMeant texts (with_decl Q d) space base (Declared n) × IsMeant texts (with_decl Q d) space (full_text theory base) (Declared n)
    new_is_meant clean = (
      inr (clean, record { place = 1 + t.index; theory = theory; visible = new-visible; last = place-last }),
      inl (in-append_right 46 theory (46 ∷ base) (inl refl), record { place = 1 + t.index; theory = theory; base = base; full = refl; clean = clean; visible = new-visible }),
    )
