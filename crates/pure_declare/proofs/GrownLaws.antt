-- A command keeps what the next one needs of a content.
use Rattle.std.proofs.Common.{◌≡◌, ℕ, List, [], ◌∷◌, ◌++◌, refl, sym, ◌∙◌, subst, inl, inr, ⊎_elim, arith}
use Rattle.std.specs.Prelude.{Result, Ok, Err}
use Rattle.pure_text.specs.Lists.{IsIn, Each}
use Rattle.pure_text.proofs.ListLaws.{in_split, in-append_left, each_imply}
use Rattle.pure_definitions.specs.Names.{Label}
use Rattle.pure_definitions.specs.Types.Order.{Class, Arity}
use Rattle.pure_definitions.specs.Types.Typ.{Typ}
use Rattle.pure_definitions.specs.Terms.Term.{Term}
use Rattle.pure_definitions.specs.Terms.Subst.{typ_instance}
use Rattle.pure_definitions.specs.Declarations.Decl.{Decl, ClassDecl, ConDecl, ArityDecl, ConstDecl, AxiomDecl, PromiseDecl, IsDeclaredClass}
use Rattle.pure_grammar.specs.Theories.TheoryText.{Span, Step, Command, Class as ClassOf, TypeDecl, Arity as ArityOf, Const, Axiom, Definition, Lemma}
use Rattle.pure_logic.specs.Content.{Content, IsContent, definition, schematic_typ_variable}
use Rattle.pure_lookup.specs.Laws.{IsInSession}
use Rattle.pure_theory.specs.Refusals.{IsBefore, IsLabelAbove}
use Rattle.pure_theory.specs.Stage.{with_declarations}
use Rattle.pure_statements.specs.declared.reason.Reason.{Reason}
use Rattle.pure_statements.specs.Chain.{refuses, goes_on, holds, passes}
use Rattle.pure_declare.specs.Notes.{Outcome, Change}
use Rattle.pure_declare.specs.Commands.{Place, IsOutcome, IsSaid, IsNewClassChange, IsClassChange, IsTypeChange, IsFoundArityChange, IsClassArityChange, IsDomainsArityChange, IsArityChange, IsNewConstChange, IsConstChange, IsAxiomChange, IsBodyChange, IsTermChange, IsTypedChange, IsTreeChange, IsTextChange, IsNewDefinitionChange, IsDefinitionChange, IsLemmaOutcome, declaring, declaring_const, declaring_definition, declaring_axiom, forking}
use Rattle.pure_declare.specs.First.{IsDeclaredAs, outcome_of}
use Rattle.pure_declare.specs.Premises.{HasClassesAbove}
use Rattle.pure_declare.specs.Grown.{IsGrown, DeclaresGrown}
use Rattle.pure_declare.proofs.KnownLaws.{classes-known}

pub before-through : (l m n : Label) → IsBefore l m → IsBefore m n → IsBefore l n
before-through l m n (inl a) (inl b) = inl (omega arith)
before-through l m n (inl a) (inr b) = let same = b.0 in inl (omega arith)
before-through l m n (inr a) (inl b) = let same = a.0 in inl (omega arith)
before-through l m n (inr (a, inl c)) (inr (b, inl d)) = inr (a ∙ b, inl (omega arith))
before-through l m n (inr (a, inl c)) (inr (b, inr d)) = let same = d.0 in inr (a ∙ b, inl (omega arith))
before-through l m n (inr (a, inr c)) (inr (b, inl d)) = let same = c.0 in inr (a ∙ b, inl (omega arith))
before-through l m n (inr (a, inr c)) (inr (b, inr d)) = let first = c.1 in let second = d.1 in inr (a ∙ b, inr (c.0 ∙ d.0, omega arith))

-- Declarations that may be added: a class after those above it, and a promise with this label.
abbrev pub MayFollow : List Decl → Label → Decl → Type 0
MayFollow ds label (ClassDecl k) = Each (IsDeclaredClass ds) k.above
MayFollow ds label (PromiseDecl x l A) = l ≡ label
MayFollow ds label _ = Unit {0}

class-later : (ds es : List Decl) (c : ℕ) → IsDeclaredClass ds c → IsDeclaredClass (ds ++ es) c
class-later ds es c (k, m, same) = (k, in-append_left (ClassDecl k) ds es m, same)

module _ (label : Label) (Q : Content) (above : HasClassesAbove Q) (labels : IsLabelAbove Q.declarations label) where
  pub same-grown : IsGrown label Q Q
  same-grown = record {
    own = refl;
    ancestors = refl;
    below = λ d m. m;
    above = above;
    labels = λ later b x l A m. before-through l label later (labels x l A m) b;
  }

  module _ (added : List Decl) (may : (d : Decl) → IsIn d added → MayFollow Q.declarations label d) where
    grown-class : (k : Class) → IsIn (ClassDecl k) added → Each (IsDeclaredClass Q.declarations) k.above
    grown-class k m = may (ClassDecl k) m

    grown-label : (x : ℕ) (l : Label) (A : Term) → IsIn (PromiseDecl x l A) added → l ≡ label
    grown-label x l A m = may (PromiseDecl x l A) m

    more-grown : IsGrown label Q (with_declarations Q (Q.declarations ++ added))
    more-grown = record {
      own = refl;
      ancestors = refl;
      below = λ d m. in-append_left d Q.declarations added m;
      above = λ k m. each_imply (IsDeclaredClass Q.declarations) (IsDeclaredClass (Q.declarations ++ added)) k.above (class-later Q.declarations added)
          (⊎_elim (λ old. above k old) (λ new. grown-class k new) (in_split (ClassDecl k) Q.declarations added m));
      labels = λ later b x l A m.
          ⊎_elim (λ old. before-through l label later (labels x l A old) b) (λ new. subst (λ (j : Label). IsBefore j later) (sym (grown-label x l A new)) b) (in_split (PromiseDecl x l A) Q.declarations added m);
    }

    -- what is the content with these declarations has grown
    pub grown-by : (R : Content) → R ≡ with_declarations Q (Q.declarations ++ added) → IsGrown label Q R
    grown-by R e = subst (λ (S : Content). IsGrown label Q S) (sym e) more-grown

pub one-may : (ds : List Decl) (label : Label) (d : Decl) → MayFollow ds label d → (e : Decl) → IsIn e (d ∷ []) → MayFollow ds label e
one-may ds label d h e (inl same) = subst (λ (x : Decl). MayFollow ds label x) (sym same) h
one-may ds label d h e (inr none) = absurd none

module _ (P : Place) (s : IsInSession P.texts P.content) (content : IsContent P.content) (above : HasClassesAbove P.content) (labels : IsLabelAbove P.content.declarations P.label) where
  -- The next content of a change has grown.
  abbrev pub Grows : Content → Type 0
  Grows R = IsGrown P.label P.content R

  by-one : (d : Decl) → MayFollow P.content.declarations P.label d → (R : Content) → R ≡ with_declarations P.content (P.content.declarations ++ d ∷ []) → Grows R
  by-one d may R e = grown-by P.label P.content above labels (d ∷ []) (one-may P.content.declarations P.label d may) R e

  said : (command : Command) (Is : Result Change Reason → Type 0) → ((c : Change) → Is (Ok c) → Grows c.next) → (o : Outcome) → IsSaid P command Is (Ok o) → Grows o.next
  unfolding IsSaid
  said command Is grows o (refuses reason h e) = absurd (cc)
  said command Is grows o (goes_on c h e) = let next : o.next ≡ c.next = cc in subst Grows (sym next) (grows c h)

  -- what a change that is given grows to
  by-given : (c D : Change) (r t : Result Change Reason) → r ≡ Ok c → t ≡ Ok D → r ≡ t → Grows D.next → Grows c.next
  by-given c D r t a b e g = let same : D ≡ c = cc in subst (λ (x : Change). Grows x.next) same g

  class-grows : (n : ℕ) (names : List (List ℕ)) (c : Change) → IsClassChange P n names (Ok c) → Grows c.next
  unfolding IsClassChange IsNewClassChange
  class-grows n names c (holds h e) = absurd (cc)
  class-grows n names c (passes new (refuses reason h e)) = absurd (cc)
  class-grows n names c (passes new (goes_on cs found e)) =
      let k : Class = record { name = n; above = cs } in
      by-given c (declaring P [] (ClassDecl k)) _ _ refl refl e (by-one (ClassDecl k) (classes-known P.texts P.content s content names cs found) (with_declarations P.content (P.content.declarations ++ ClassDecl k ∷ [])) refl)

  typ-grows : (n params : ℕ) (c : Change) → IsTypeChange P n params (Ok c) → Grows c.next
  unfolding IsTypeChange
  typ-grows n params c (holds h e) = absurd (cc)
  typ-grows n params c (passes new e) = by-given c (declaring P [] (ConDecl n params)) _ _ refl refl e (by-one (ConDecl n params) tt _ refl)

  found_arity-grows : (a : Arity) (c : Change) → IsFoundArityChange P a (Ok c) → Grows c.next
  unfolding IsFoundArityChange
  found_arity-grows a c (holds h e) = absurd (cc)
  found_arity-grows a c (passes m (holds h e)) = absurd (cc)
  found_arity-grows a c (passes m (passes new (refuses reason h e))) = absurd (cc)
  found_arity-grows a c (passes m (passes new (goes_on fits h e))) = by-given c (declaring P [] (ArityDecl a)) _ _ refl refl e (by-one (ArityDecl a) tt _ refl)

  arity-grows : (con : List ℕ) (domains : List (List (List ℕ))) (class : List ℕ) (c : Change) → IsArityChange P con domains class (Ok c) → Grows c.next
  unfolding IsArityChange IsDomainsArityChange IsClassArityChange
  arity-grows con domains class c (refuses reason h e) = absurd (cc)
  arity-grows con domains class c (goes_on k found (refuses reason h e)) = absurd (cc)
  arity-grows con domains class c (goes_on k found (goes_on sorts made (refuses reason h e))) = absurd (cc)
  arity-grows con domains class c (goes_on k found (goes_on sorts made (goes_on d there h))) = found_arity-grows (record { con = k; domains = sorts; class = d }) c h

  const-grows : (n : ℕ) (span : Span) (c : Change) → IsConstChange P n span (Ok c) → Grows c.next
  unfolding IsConstChange IsNewConstChange
  const-grows n span c (holds h e) = absurd (cc)
  const-grows n span c (passes new (refuses reason h e)) = absurd (cc)
  const-grows n span c (passes new (goes_on T h e)) = by-given c (declaring_const P n T) _ _ refl refl e (by-one (ConstDecl n (typ_instance schematic_typ_variable T)) tt _ refl)

  axiom-grows : (n : ℕ) (span : Span) (c : Change) → IsAxiomChange P n span (Ok c) → Grows c.next
  unfolding IsAxiomChange
  axiom-grows n span c (holds h e) = absurd (cc)
  axiom-grows n span c (passes new (refuses reason h e)) = absurd (cc)
  axiom-grows n span c (passes new (goes_on t h e)) = by-given c (declaring_axiom P n t.prop) _ _ refl refl e (by-one (AxiomDecl n t.prop) tt _ refl)

  two-may : (n f : ℕ) (T : Typ) (body : Term) (d : Decl) → IsIn d (definition n f T body) → MayFollow P.content.declarations P.label d
  two-may n f T body d (inl same) = subst (λ (x : Decl). MayFollow P.content.declarations P.label x) (sym same) tt
  two-may n f T body d (inr (inl same)) = subst (λ (x : Decl). MayFollow P.content.declarations P.label x) (sym same) tt
  two-may n f T body d (inr (inr none)) = absurd none

  body-grows : (n f : ℕ) (T : Typ) (body : Term) (c : Change) → IsBodyChange P n f T body (Ok c) → Grows c.next
  unfolding IsBodyChange
  body-grows n f T body c (holds h e) = absurd (cc)
  body-grows n f T body c (passes a (holds h e)) = absurd (cc)
  body-grows n f T body c (passes a (passes b (holds h e))) = absurd (cc)
  body-grows n f T body c (passes a (passes b (passes d e))) =
      by-given c (declaring_definition P n f T body) _ _ refl refl e (grown-by P.label P.content above labels (definition n f T body) (two-may n f T body) _ refl)

  text-grows : (x : List ℕ) (n f : ℕ) (span : Span) (T : Typ) (c : Change) → IsTextChange P x n f span T (Ok c) → Grows c.next
  unfolding IsTextChange IsTreeChange IsTypedChange IsTermChange
  text-grows x n f span T c (refuses reason h e) = absurd (cc)
  text-grows x n f span T c (goes_on raw read (refuses reason h e)) = absurd (cc)
  text-grows x n f span T c (goes_on raw read (goes_on body is (refuses reason h e))) = absurd (cc)
  text-grows x n f span T c (goes_on raw read (goes_on body is (goes_on t typed (refuses reason h e)))) = absurd (cc)
  text-grows x n f span T c (goes_on raw read (goes_on body is (goes_on t typed (goes_on u normal h)))) = body-grows n f T u c h

  definition-grows : (x : List ℕ) (n f : ℕ) (typ text : Span) (c : Change) → IsDefinitionChange P x n f typ text (Ok c) → Grows c.next
  unfolding IsDefinitionChange IsNewDefinitionChange
  definition-grows x n f typ text c (holds h e) = absurd (cc)
  definition-grows x n f typ text c (passes new (refuses reason h e)) = absurd (cc)
  definition-grows x n f typ text c (passes new (goes_on T h k)) = text-grows x n f text T c k

  lemma-grows : (n : ℕ) (span : Span) (script : List Step) (o : Outcome) → IsLemmaOutcome P n span script (Ok o) → Grows o.next
  unfolding IsLemmaOutcome
  lemma-grows n span script o (holds h e) = absurd (cc)
  lemma-grows n span script o (passes new (refuses reason h e)) = absurd (cc)
  lemma-grows n span script o (passes new (goes_on t h e)) =
      let same : forking P n script t ≡ o = cc in
      subst (λ (x : Outcome). Grows x.next) same (by-one (PromiseDecl n P.label t.prop) refl _ refl)

  outcome-grows : (command : Command) (o : Outcome) → IsOutcome P command (Ok o) → Grows o.next
  outcome-grows (ClassOf x names) o (n, is, h) = said (ClassOf x names) (IsClassChange P n names) (class-grows n names) o h
  outcome-grows (TypeDecl x params) o (n, is, h) = said (TypeDecl x params) (IsTypeChange P n params) (typ-grows n params) o h
  outcome-grows (ArityOf con domains class) o h = said (ArityOf con domains class) (IsArityChange P con domains class) (arity-grows con domains class) o h
  outcome-grows (Const x span) o (n, is, h) = said (Const x span) (IsConstChange P n span) (const-grows n span) o h
  outcome-grows (Axiom x span) o (n, is, h) = said (Axiom x span) (IsAxiomChange P n span) (axiom-grows n span) o h
  outcome-grows (Definition x typ text) o (n, f, is, also, h) = said (Definition x typ text) (IsDefinitionChange P x n f typ text) (definition-grows x n f typ text) o h
  outcome-grows (Lemma x span haves script) o (n, is, h) = lemma-grows n span script o h

  answer-grows : (command : Command) (o : Outcome) (answer : Result Outcome Reason) → IsOutcome P command answer → o ≡ outcome_of P command answer → Grows o.next
  answer-grows command o (Ok p) h e = subst (λ (x : Outcome). Grows x.next) (sym e) (outcome-grows command p h)
  answer-grows command o (Err reason) h e = subst (λ (x : Outcome). Grows x.next) (sym e) (same-grown P.label P.content above labels)

  -- What comes of a command has grown.
  pub declared-grows : (command : Command) (o : Outcome) → IsDeclaredAs P command o → Grows o.next
  declared-grows command o h = answer-grows command o h.answer h.is h.comes

pub declares_grown : DeclaresGrown
declares_grown texts source label Q command note next s content above labels h =
    declared-grows (record { texts = texts; source = source; label = label; theory = h.theory; content = Q }) s content above labels command (record { note = note; next = next }) h.declares
