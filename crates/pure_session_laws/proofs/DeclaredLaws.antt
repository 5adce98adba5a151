-- What a command with its parts adds is its theory's own.
use Rattle.std.proofs.Common.{◌≡◌, ◌⊎◌, ◌+◌, ℕ, List, [], ◌∷◌, ◌++◌, append_assoc, refl, sym, ◌∙◌, subst, inl, inr, Some}
use Rattle.std.specs.Prelude.{Result, Ok, Err}
use Rattle.std.proofs.lemmas.Option.{same_Some}
use Rattle.pure_text.specs.Lists.{IsIn, Each}
use Rattle.pure_text.proofs.ListLaws.{each_at, in_split}
use Rattle.pure_definitions.specs.Names.{Label}
use Rattle.pure_definitions.specs.Types.Order.{Arity}
use Rattle.pure_definitions.specs.Types.Typ.{Typ}
use Rattle.pure_definitions.specs.Terms.Term.{Term}
use Rattle.pure_definitions.specs.Terms.Subst.{typ_instance}
use Rattle.pure_definitions.specs.Declarations.Decl.{Decl, ClassDecl, ConDecl, ArityDecl, ConstDecl, AxiomDecl, PromiseDecl}
use Rattle.pure_grammar.specs.Theories.TheoryText.{Span, Step, Command, Class as ClassOf, TypeDecl, Arity as ArityOf, Const as ConstOf, Axiom, Definition, Lemma}
use Rattle.pure_typ.specs.NameTexts.{HasText}
use Rattle.pure_logic.specs.Content.{TheoryId, Content, definition, schematic_typ_variable}
use Rattle.pure_method.specs.Theory.Stage.{with_declarations}
use Rattle.pure_statements.specs.declared.reason.Reason.{Reason}
use Rattle.pure_statements.specs.Chain.{refuses, goes_on, holds, passes}
use Rattle.pure_method.specs.Declare.Notes.{Note, Outcome, Change}
use Rattle.pure_method.specs.Declare.Commands.{Place, IsNameOf, fact_base, IsOutcome, IsSaid, IsNewClassChange, IsClassChange, IsTypeChange, IsFoundArityChange, IsClassArityChange, IsDomainsArityChange, IsArityChange, IsNewConstChange, IsConstChange, IsAxiomChange, IsBodyChange, IsTermChange, IsTypedChange, IsTreeChange, IsTextChange, IsNewDefinitionChange, IsDefinitionChange, IsLemmaOutcome, declaring, declaring_const, declaring_definition, declaring_axiom, forking}
use Rattle.pure_method.specs.Declare.First as first
use Rattle.pure_method.specs.Declare.First.{outcome_of}
use Rattle.pure_method.specs.Declare.Parts.{Part, Whole, Within, End, DeclaresPart}
use Rattle.pure_method.specs.Declare.Fold.{part_label, AreParts, Declares}
use Rattle.pure_method.proofs.Declare.PartLaws.{AreNames, IsPartDone, by_command, by_binding, by_refusal, part-done, next-bound}
use Rattle.pure_session_laws.specs.Owned.{IsNameIn, IsOf}

-- The second content is of the same theory, and each of its declarations is the first's, or one of the theory t.
pub record HasAdded (texts : List (List ℕ)) (t : TheoryId) (Q R : Content) : Type 0 where
  pub own : R.own ≡ Q.own
  pub ancestors : R.ancestors ≡ Q.ancestors
  pub each : (d : Decl) → IsIn d R.declarations → IsIn d Q.declarations ⊎ IsOf texts t d

nothing-added : (texts : List (List ℕ)) (t : TheoryId) (Q : Content) → HasAdded texts t Q Q
nothing-added texts t Q = record { own = refl; ancestors = refl; each = λ d m. inl m }

further-added : (texts : List (List ℕ)) (t : TheoryId) (Q R S : Content) → HasAdded texts t Q R → HasAdded texts t R S → HasAdded texts t Q S
further-added texts t Q R S h k = record {
  own = k.own ∙ h.own;
  ancestors = k.ancestors ∙ h.ancestors;
  each = λ d m. elim (k.each d m) [ inl there ↦ h.each d there | inr new ↦ inr new ];
}

-- ---- a command whose haves are passed over

module _ (P : Place) (t : TheoryId) (text : HasText P.texts t.name P.theory) (index : P.label.theory ≡ t.index) where
  abbrev Adds : Content → Type 0
  Adds R = HasAdded P.texts t P.content R

  more : (added : List Decl) (R : Content) → Each (IsOf P.texts t) added → R ≡ with_declarations P.content (P.content.declarations ++ added) → Adds R
  more added R h e = subst Adds (sym e) (record {
    own = refl;
    ancestors = refl;
    each = λ d m. elim (in_split d P.content.declarations added m) [ inl old ↦ inl old | inr new ↦ inr (each_at (IsOf P.texts t) added h d new) ];
  })

  -- a name with a base in the theory
  its-name : (base : List ℕ) (n : ℕ) → IsNameOf P base n → IsNameIn P.texts t.name n
  its-name base n is = record { text = P.theory; base = base; of_theory = text; full = is }

  by-given : (c D : Change) (r s : Result Change Reason) → r ≡ Ok c → s ≡ Ok D → r ≡ s → Adds D.next → Adds c.next
  by-given c D r s a b e g = let same : D ≡ c = cc in subst (λ (x : Change). Adds x.next) same g

  said : (command : Command) (Is : Result Change Reason → Type 0) → ((c : Change) → Is (Ok c) → Adds c.next) → (o : Outcome) → IsSaid P command Is (Ok o) → Adds o.next
  unfolding IsSaid
  said command Is adds o (refuses reason h e) = absurd (cc)
  said command Is adds o (goes_on c h e) = let next : o.next ≡ c.next = cc in subst Adds (sym next) (adds c h)

  class-adds : (n : ℕ) → IsNameIn P.texts t.name n → (names : List (List ℕ)) (c : Change) → IsClassChange P n names (Ok c) → Adds c.next
  unfolding IsClassChange IsNewClassChange
  class-adds n is names c (holds h e) = absurd (cc)
  class-adds n is names c (passes new (refuses reason h e)) = absurd (cc)
  class-adds n is names c (passes new (goes_on cs found e)) = by-given c (declaring P [] (ClassDecl (record { name = n; above = cs }))) _ _ refl refl e (more (ClassDecl (record { name = n; above = cs }) ∷ []) _ (is, tt) refl)

  typ-adds : (n : ℕ) → IsNameIn P.texts t.name n → (params : ℕ) (c : Change) → IsTypeChange P n params (Ok c) → Adds c.next
  unfolding IsTypeChange
  typ-adds n is params c (holds h e) = absurd (cc)
  typ-adds n is params c (passes new e) = by-given c (declaring P [] (ConDecl n params)) _ _ refl refl e (more (ConDecl n params ∷ []) _ (is, tt) refl)

  found-adds : (a : Arity) (c : Change) → IsFoundArityChange P a (Ok c) → Adds c.next
  unfolding IsFoundArityChange
  found-adds a c (holds h e) = absurd (cc)
  found-adds a c (passes m (holds h e)) = absurd (cc)
  found-adds a c (passes m (passes new (refuses reason h e))) = absurd (cc)
  found-adds a c (passes m (passes new (goes_on fits h e))) = by-given c (declaring P [] (ArityDecl a)) _ _ refl refl e (more (ArityDecl a ∷ []) _ (tt, tt) refl)

  arity-adds : (con : List ℕ) (domains : List (List (List ℕ))) (class : List ℕ) (c : Change) → IsArityChange P con domains class (Ok c) → Adds c.next
  unfolding IsArityChange IsDomainsArityChange IsClassArityChange
  arity-adds con domains class c (refuses reason h e) = absurd (cc)
  arity-adds con domains class c (goes_on k found (refuses reason h e)) = absurd (cc)
  arity-adds con domains class c (goes_on k found (goes_on sorts made (refuses reason h e))) = absurd (cc)
  arity-adds con domains class c (goes_on k found (goes_on sorts made (goes_on d there h))) = found-adds (record { con = k; domains = sorts; class = d }) c h

  const-adds : (n : ℕ) → IsNameIn P.texts t.name n → (span : Span) (c : Change) → IsConstChange P n span (Ok c) → Adds c.next
  unfolding IsConstChange IsNewConstChange
  const-adds n is span c (holds h e) = absurd (cc)
  const-adds n is span c (passes new (refuses reason h e)) = absurd (cc)
  const-adds n is span c (passes new (goes_on T h e)) = by-given c (declaring_const P n T) _ _ refl refl e (more (ConstDecl n (typ_instance schematic_typ_variable T) ∷ []) _ (is, tt) refl)

  axiom-adds : (n : ℕ) → IsNameIn P.texts t.name n → (span : Span) (c : Change) → IsAxiomChange P n span (Ok c) → Adds c.next
  unfolding IsAxiomChange
  axiom-adds n is span c (holds h e) = absurd (cc)
  axiom-adds n is span c (passes new (refuses reason h e)) = absurd (cc)
  axiom-adds n is span c (passes new (goes_on s h e)) = by-given c (declaring_axiom P n s.prop) _ _ refl refl e (more (AxiomDecl n s.prop ∷ []) _ (is, tt) refl)

  body-adds : (n f : ℕ) → IsNameIn P.texts t.name n → IsNameIn P.texts t.name f → (T : Typ) (body : Term) (c : Change) → IsBodyChange P n f T body (Ok c) → Adds c.next
  unfolding IsBodyChange
  body-adds n f is its T body c (holds h e) = absurd (cc)
  body-adds n f is its T body c (passes a (holds h e)) = absurd (cc)
  body-adds n f is its T body c (passes a (passes b (holds h e))) = absurd (cc)
  body-adds n f is its T body c (passes a (passes b (passes d e))) = by-given c (declaring_definition P n f T body) _ _ refl refl e (more (definition n f T body) _ (is, (its, tt)) refl)

  text-adds : (x : List ℕ) (n f : ℕ) → IsNameIn P.texts t.name n → IsNameIn P.texts t.name f → (span : Span) (T : Typ) (c : Change) → IsTextChange P x n f span T (Ok c) → Adds c.next
  unfolding IsTextChange IsTreeChange IsTypedChange IsTermChange
  text-adds x n f is its span T c (refuses reason h e) = absurd (cc)
  text-adds x n f is its span T c (goes_on raw read (refuses reason h e)) = absurd (cc)
  text-adds x n f is its span T c (goes_on raw read (goes_on body found (refuses reason h e))) = absurd (cc)
  text-adds x n f is its span T c (goes_on raw read (goes_on body found (goes_on u typed (refuses reason h e)))) = absurd (cc)
  text-adds x n f is its span T c (goes_on raw read (goes_on body found (goes_on u typed (goes_on v normal h)))) = body-adds n f is its T v c h

  definition-adds : (x : List ℕ) (n f : ℕ) → IsNameIn P.texts t.name n → IsNameIn P.texts t.name f → (typ span : Span) (c : Change) → IsDefinitionChange P x n f typ span (Ok c) → Adds c.next
  unfolding IsDefinitionChange IsNewDefinitionChange
  definition-adds x n f is its typ span c (holds h e) = absurd (cc)
  definition-adds x n f is its typ span c (passes new (refuses reason h e)) = absurd (cc)
  definition-adds x n f is its typ span c (passes new (goes_on T h k)) = text-adds x n f is its span T c k

  lemma-adds : (n : ℕ) → IsNameIn P.texts t.name n → (span : Span) (script : List Step) (o : Outcome) → IsLemmaOutcome P n span script (Ok o) → Adds o.next
  unfolding IsLemmaOutcome
  lemma-adds n is span script o (holds h e) = absurd (cc)
  lemma-adds n is span script o (passes new (refuses reason h e)) = absurd (cc)
  lemma-adds n is span script o (passes new (goes_on s h e)) =
      let same : forking P n script s ≡ o = cc in
      subst (λ (x : Outcome). Adds x.next) same (more (PromiseDecl n P.label s.prop ∷ []) _ ((is, index), tt) refl)

  outcome-adds : (command : Command) (o : Outcome) → IsOutcome P command (Ok o) → Adds o.next
  outcome-adds (ClassOf x names) o (n, is, h) = said (ClassOf x names) (IsClassChange P n names) (class-adds n (its-name x n is) names) o h
  outcome-adds (TypeDecl x params) o (n, is, h) = said (TypeDecl x params) (IsTypeChange P n params) (typ-adds n (its-name x n is) params) o h
  outcome-adds (ArityOf con domains class) o h = said (ArityOf con domains class) (IsArityChange P con domains class) (arity-adds con domains class) o h
  outcome-adds (ConstOf x span) o (n, is, h) = said (ConstOf x span) (IsConstChange P n span) (const-adds n (its-name x n is) span) o h
  outcome-adds (Axiom x span) o (n, is, h) = said (Axiom x span) (IsAxiomChange P n span) (axiom-adds n (its-name x n is) span) o h
  outcome-adds (Definition x typ span) o (n, f, is, also, h) =
      said (Definition x typ span) (IsDefinitionChange P x n f typ span) (definition-adds x n f (its-name x n is) (its-name (fact_base x) f also) typ span) o h
  outcome-adds (Lemma x span haves script) o (n, is, h) = lemma-adds n (its-name x n is) span script o h

  answer-adds : (command : Command) (o : Outcome) (answer : Result Outcome Reason) → IsOutcome P command answer → o ≡ outcome_of P command answer → Adds o.next
  answer-adds command o (Ok p) h e = subst (λ (x : Outcome). Adds x.next) (sym e) (outcome-adds command p h)
  answer-adds command o (Err reason) h e = subst (λ (x : Outcome). Adds x.next) (sym e) (nothing-added P.texts t P.content)

whole-adds : (texts : List (List ℕ)) (source : List ℕ) (label : Label) (Q : Content) (command : Command) (note : Note) (next : Content) (theory : TheoryId)
    → Q.own ≡ Some theory → label.theory ≡ theory.index → first.Declares texts source label Q command note next → HasAdded texts theory Q next
whole-adds texts source label Q command note next theory own index h =
    let same : h.own.own ≡ theory = same_Some h.own.own theory (sym h.own.is_own ∙ own) in
    let text : HasText texts theory.name h.theory = subst (λ (t : TheoryId). HasText texts t.name h.theory) same h.own.text in
    answer-adds (record { texts = texts; source = source; label = label; theory = h.theory; content = Q }) theory text index command (record { note = note; next = next }) h.declares.answer h.declares.is h.declares.comes

-- ---- a part

-- The base of a have's name is that of its lemma, a dot and its own.
part-name : (texts : List (List ℕ)) (t : TheoryId) (theory : List ℕ) → HasText texts t.name theory → (part : Part) (n m : ℕ) → AreNames texts theory part n m → IsNameIn texts t.name n
part-name texts t theory text (Whole command) n m is = absurd is
part-name texts t theory text (Within lemma have) n m is =
    record { text = theory; base = lemma ++ 46 ∷ have.name; of_theory = text; full = subst (λ (x : List ℕ). HasText texts n x) (append_assoc theory (46 ∷ lemma) (46 ∷ have.name)) is.0 }
part-name texts t theory text (End lemma prop script) n m is = record { text = theory; base = lemma; of_theory = text; full = is.0 }

part-adds : (texts : List (List ℕ)) (source : List ℕ) (label : Label) (Q : Content) (part : Part) (note : Note) (next : Content) (theory : TheoryId)
    → Q.own ≡ Some theory → label.theory ≡ theory.index → DeclaresPart texts source label Q part note next → HasAdded texts theory Q next
part-adds texts source label Q part note next theory own index h = by (part-done texts source label Q note next part h)
  where
    by : IsPartDone texts source label Q part note next → HasAdded texts theory Q next
    by (by_command command d row e) = whole-adds texts source label Q command note next theory own index d
    by (by_binding text is b proof names) =
        let same : is.own ≡ theory = same_Some is.own theory (sym is.is_own ∙ own) in
        let of_theory : HasText texts theory.name text = subst (λ (t : TheoryId). HasText texts t.name text) same is.text in
        let P : Place = record { texts = texts; source = source; label = label; theory = text; content = Q } in
        more P theory of_theory index (PromiseDecl b.number label b.stated.prop ∷ []) next ((part-name texts theory text of_theory part b.number b.lemma names, index), tt) (next-bound texts source label Q note next text b)
    by (by_refusal row e same) = subst (HasAdded texts theory Q) (sym same) (nothing-added texts theory Q)

-- ---- a command with its parts

pub parts-add : (texts : List (List ℕ)) (source : List ℕ) (label : Label) (theory : TheoryId) → label.theory ≡ theory.index → (parts : List Part) (place : ℕ) (Q : Content) (notes : List Note) (last : Content)
    → Q.own ≡ Some theory → AreParts texts source label place Q parts notes last → HasAdded texts theory Q last
parts-add texts source label theory index [] place Q notes last own h = subst (HasAdded texts theory Q) (sym h.1) (nothing-added texts theory Q)
parts-add texts source label theory index (part ∷ parts) place Q notes last own (note, next, more, declares, rest, e) =
    let added : HasAdded texts theory Q next = part-adds texts source (part_label label place) Q part note next theory own index declares in
    further-added texts theory Q next last added (parts-add texts source label theory index parts (place + 1) next more last (added.own ∙ own) rest)

pub declared-adds : (texts : List (List ℕ)) (source : List ℕ) (label : Label) (Q : Content) (command : Command) (notes : List Note) (next : Content) (theory : TheoryId)
    → Q.own ≡ Some theory → label.theory ≡ theory.index → Declares texts source label Q command notes next → HasAdded texts theory Q next
declared-adds texts source label Q command notes next theory own index h = parts-add texts source label theory index h.parts 0 Q notes next own h.are
