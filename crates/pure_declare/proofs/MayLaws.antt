-- What a call that declares asks of its caller, test by test.
use Rattle.std.proofs.Common.{◌≡◌, ◌↔◌, ◌<◌, ◌+◌, ℕ, List, [], ◌∷◌, ◌++◌, map, take, get_or, length, Bool, IsTrue, refl, sym, ◌∙◌, ap, subst}
use Rattle.std.specs.Prelude.{Option, Some, None, slice_get, option_map}
use Rattle.std.proofs.lemmas.Option.{same_Some, none-some}
use Rattle.pure_text.specs.Lists.{IsIn, Each}
use Rattle.pure_text.proofs.ListLaws.{each-append, each_at}
use Rattle.pure_definitions.specs.Names.{Label}
use Rattle.pure_definitions.specs.Declarations.Decl.{Decl, ClassDecl, ConDecl, ArityDecl, ConstDecl, AxiomDecl, PromiseDecl}
use Rattle.pure_grammar.specs.Theories.TheoryText.{Have, Command}
use Rattle.pure_grammar.specs.Theories.Spans.{OfProp, cited_span}
use Rattle.pure_typ.specs.NameTexts.{HasText, name_texts}
use Rattle.pure_logic.specs.Content.{TheoryId, Content}
use Rattle.pure_lookup.specs.Meaning.{full_text}
use Rattle.pure_script.specs.declared.theory.Have as code
use Rattle.pure_script.specs.Seen.{span, seen_have}
use Rattle.pure_theory_tables.specs.View.{outline}
use Rattle.pure_theory_tables.specs.declared.decl.Decl as outlined
use Rattle.pure_theory_tables.proofs.GetLaws.{get_in, all_taken, each_turn_at}
use Rattle.pure_theory.specs.Refusals.{IsLabelAbove}
use Rattle.pure_declare.specs.Commands.{IsOwnText}
use Rattle.pure_declare.specs.Premises.{IsNamed, AreHavesNamed, HasFullNames, HasNames, LiesIn, IsPassed}
use Rattle.pure_declare.proofs.HaveSteps.{haves-longer}

-- A test of the second of two properties, of which the first holds.
pub second_as : (P Q : Type 0) (b : Bool) → P → IsTrue b ↔ Q → IsTrue b ↔ (P × Q)
second_as P Q b p h = (λ t. (p, h.0 t), λ q. h.1 q.1)

-- The haves of a lemma, one after another.
module _ (haves : List code.Have) (i : ℕ) (have : code.Have) (within : i < length haves) (read : have ≡ get_or haves i have) where
  pub named-more : (texts : List (List ℕ)) (lemma : List ℕ) → AreHavesNamed texts lemma (map seen_have (take i haves)) → IsNamed texts (full_text lemma have.name) → AreHavesNamed texts lemma (map seen_have (take (i + 1) haves))
  named-more texts lemma so_far here =
      rw (haves-longer haves i have within read) (each-append (λ (h : Have). IsNamed texts (full_text lemma h.name)) (map seen_have (take i haves)) (seen_have have ∷ []) so_far (here, tt))

  pub lies-more : (source : List ℕ) → Each (λ c. LiesIn source (cited_span c)) (map (λ (h : Have). OfProp h.prop) (map seen_have (take i haves))) → LiesIn source (span have.prop)
      → Each (λ c. LiesIn source (cited_span c)) (map (λ (h : Have). OfProp h.prop) (map seen_have (take (i + 1) haves)))
  lies-more source so_far here = rw (haves-longer haves i have within read) (lies-append (map seen_have (take i haves)) so_far)
    where
      lies-append : (hs : List Have) → Each (λ c. LiesIn source (cited_span c)) (map (λ (h : Have). OfProp h.prop) hs) → Each (λ c. LiesIn source (cited_span c)) (map (λ (h : Have). OfProp h.prop) (hs ++ seen_have have ∷ []))
      lies-append [] so_far = (here, tt)
      lies-append (h ∷ hs) so_far = (so_far.0, lies-append hs so_far.1)

-- A lemma's name, and those of its haves.
pub named_in : (texts : List (List ℕ)) (lemma : ℕ) (text : List ℕ) (b : Bool) (haves : List Have) → HasText texts lemma text → IsTrue b ↔ AreHavesNamed texts text haves
    → (other : List ℕ) → HasText texts lemma other → IsTrue b ↔ AreHavesNamed texts other haves
named_in texts lemma text b haves has h other is = subst (λ (t : List ℕ). IsTrue b ↔ AreHavesNamed texts t haves) (same_Some text other (sym has ∙ is)) h

pub lemma_named : (texts : List (List ℕ)) (lemma : ℕ) (text : List ℕ) (b : Bool) (haves : List Have) → HasText texts lemma text
    → ((other : List ℕ) → HasText texts lemma other → IsTrue b ↔ AreHavesNamed texts other haves) → IsTrue b ↔ (IsNamed texts text × AreHavesNamed texts text haves)
lemma_named texts lemma text b haves has h = (λ t. ((lemma, has), (h text has).0 t), λ p. (h text has).1 p.1)

-- The theory with this name.
own-of : (o : Option TheoryId) (n : ℕ) → Some n ≡ option_map (λ (t : TheoryId). t.name) o → (t : TheoryId) × (o ≡ Some t) × (t.name ≡ n)
own-of None n e = absurd (none-some n (sym e))
own-of (Some t) n e = (t, refl, sym (same_Some n t.name e))

-- A content without an own theory.
pub no-own : (texts : List (List ℕ)) (Q : Content) (command : Command) → None ≡ option_map (λ (t : TheoryId). t.name) Q.own → ¬ HasNames texts Q command
no-own texts Q command none h = none-some h.own.own.name (none ∙ ap (λ (o : Option TheoryId). option_map (λ (t : TheoryId). t.name) o) h.own.is_own)

-- A content with an own theory of this name.
module _ (texts : List (List ℕ)) (Q : Content) (own : ℕ) (is : Some own ≡ option_map (λ (t : TheoryId). t.name) Q.own) where
  text-own : (theory : List ℕ) → IsOwnText texts Q theory → HasText texts own theory
  text-own theory o =
      let found = own-of Q.own own is in
      let same : found.0 ≡ o.own = same_Some found.0 o.own (sym found.1 ∙ o.is_own) in
      let name : o.own.name ≡ own = ap (λ (t : TheoryId). t.name) (sym same) ∙ found.2 in
      subst (λ (n : ℕ). HasText texts n theory) name o.text

  own-text : (theory : List ℕ) → HasText texts own theory → IsOwnText texts Q theory
  own-text theory has =
      let found = own-of Q.own own is in
      record { own = found.0; is_own = found.1; text = subst (λ (n : ℕ). HasText texts n theory) (sym found.2) has }

  pub own-unnamed : (command : Command) → slice_get (name_texts texts) own ≡ None → ¬ HasNames texts Q command
  own-unnamed command none h = none-some h.theory (sym none ∙ text-own h.theory h.own)

  pub own-named : (command : Command) (theory : List ℕ) (b : Bool) → HasText texts own theory → IsTrue b ↔ HasFullNames texts theory command → IsTrue b ↔ HasNames texts Q command
  own-named command theory b has h = (
    λ t. record { theory = theory; own = own-text theory has; full = h.0 t },
    λ n. h.1 (subst (λ (text : List ℕ). HasFullNames texts text command) (same_Some n.theory theory (sym (text-own n.theory n.own) ∙ has)) n.full),
  )

-- The label comes after those of all promises where each declaration is passed.
pub above_passed : (ds : List Decl) (label : Label) → Each (λ d. IsPassed label (outline d)) ds → IsLabelAbove ds label
above_passed ds label each x l A m = each_at (λ d. IsPassed label (outline d)) ds each (PromiseDecl x l A) m

passed_above : (ds : List Decl) (label : Label) → IsLabelAbove ds label → (d : Decl) → IsIn d ds → IsPassed label (outline d)
passed_above ds label above (ClassDecl k) m = tt
passed_above ds label above (ConDecl k n) m = tt
passed_above ds label above (ArityDecl a) m = tt
passed_above ds label above (ConstDecl c T) m = tt
passed_above ds label above (AxiomDecl x A) m = tt
passed_above ds label above (PromiseDecl x l A) m = above x l A m

-- The declaration at a place.
module _ (ds : List Decl) (place : ℕ) (decl : outlined.Decl) (at : Some decl ≡ option_map outline (slice_get ds place)) (label : Label) where
  -- the declaration, and its outline
  declared-at : (o : Option Decl) → Some decl ≡ option_map outline o → (d : Decl) × (o ≡ Some d) × (outline d ≡ decl)
  declared-at None e = absurd (none-some decl (sym e))
  declared-at (Some d) e = (d, refl, sym (same_Some decl (outline d) e))

  pub passed-more : IsPassed label decl → Each (λ d. IsPassed label (outline d)) (take place ds) → Each (λ d. IsPassed label (outline d)) (take (place + 1) ds)
  passed-more p so_far =
      let found = declared-at (slice_get ds place) at in
      each_turn_at (λ d. IsPassed label (outline d)) ds place found.0 found.1 so_far (subst (IsPassed label) (sym found.2) p)

  pub passed-there : IsLabelAbove ds label → IsPassed label decl
  passed-there above =
      let found = declared-at (slice_get ds place) at in
      subst (IsPassed label) found.2 (passed_above ds label above found.0 (get_in ds place found.0 found.1))

-- No declaration is left.
pub passed-all : (ds : List Decl) (place : ℕ) (label : Label) → None ≡ option_map outline (slice_get ds place) → Each (λ d. IsPassed label (outline d)) (take place ds) → IsLabelAbove ds label
passed-all ds place label none so_far = above_passed ds label (subst (Each (λ d. IsPassed label (outline d))) (all_taken ds place (none-at (slice_get ds place) none)) so_far)
  where
    none-at : (o : Option Decl) → None ≡ option_map outline o → o ≡ None
    none-at None e = refl
    none-at (Some d) e = absurd (none-some (outline d) e)
