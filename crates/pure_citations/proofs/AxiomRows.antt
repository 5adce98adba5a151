-- The row of a command that declares an axiom.
use Rattle.std.proofs.Common.{◌≡◌, ◌⊎◌, ◌∙◌, ℕ, ◌+◌, List, [], ◌∷◌, ◌++◌, inl, inr, refl, sym, ap, subst}
use Rattle.std.specs.Prelude.{Result, Ok, Err}
use Rattle.pure_text.specs.Lists.{IsIn}
use Rattle.pure_text.proofs.ListLaws.{in_split}
use Rattle.pure_definitions.specs.Names.{Label}
use Rattle.pure_definitions.specs.Types.Typ.{Typ}
use Rattle.pure_definitions.specs.Types.Order.{Arity}
use Rattle.pure_definitions.specs.Terms.Term.{Term}
use Rattle.pure_definitions.specs.Terms.Subst.{typ_instance}
use Rattle.pure_definitions.specs.Declarations.Decl.{Decl, ClassDecl, ConDecl, ArityDecl, ConstDecl, AxiomDecl, PromiseDecl}
use Rattle.pure_grammar.specs.Theories.TheoryText.{Span, Step, Command, Class, TypeDecl, Arity as ArityOf, Const, Axiom, Definition, Lemma}
use Rattle.pure_typ.specs.NameTexts.{HasText}
use Rattle.pure_logic.specs.Content.{Content, definition, schematic_typ_variable}
use Rattle.pure_lookup.specs.Meaning.{full_text}
use Rattle.pure_print.specs.declared.row.Row.{Row}
use Rattle.pure_print.specs.declared.row.RowStatus.TheVariants.{Declared}
use Rattle.pure_statements.specs.declared.reason.Reason.{Reason}
use Rattle.pure_statements.specs.Chain.{Gives, refuses, goes_on, holds, passes}
use Rattle.pure_statements.specs.Rows.{declared_row}
use Rattle.pure_table.specs.Declare.Notes.{Note, Said, Forked, Outcome, Change}
use Rattle.pure_table.specs.Declare.Commands.{Place, IsOutcome, IsSaid, IsNewClassChange, IsClassChange, IsTypeChange, IsFoundArityChange, IsClassArityChange, IsDomainsArityChange, IsArityChange, IsNewConstChange, IsConstChange, IsAxiomChange, IsBodyChange, IsTermChange, IsTypedChange, IsTreeChange, IsTextChange, IsNewDefinitionChange, IsDefinitionChange, IsLemmaOutcome, declaring, declaring_const, declaring_definition, declaring_axiom, saying, forking, fact_base, definition_end}
use Rattle.pure_table.specs.Declare.First.{Declares as DeclaresSo, outcome_of}
use Rattle.pure_table.specs.Declare.Parts.{Part, DeclaresPart}
use Rattle.pure_table.specs.Declare.Fold.{part_label, AreParts}
use Rattle.pure_table.proofs.Declare.PartLaws.{IsPartDone, by_command, by_binding, by_refusal, part-done, next-bound}
use Rattle.pure_citations.specs.Heads as heads
use Rattle.pure_citations.specs.Rowed.{Declares}

-- A note is a row that declares the axiom.
abbrev pub IsRowNote : (texts : List (List ℕ)) → (name : ℕ) → Note → Type 0
IsRowNote texts name note = (row : Row) × (note ≡ Said row) × Declares texts name row

-- The declaration is no axiom.
abbrev IsNoAxiomDecl : Decl → Type 0
IsNoAxiomDecl (AxiomDecl x A) = ⊥
IsNoAxiomDecl _ = Unit {0}

-- Behind a declaration that is no axiom an axiom stood before.
none-added : (n : ℕ) (A : Term) (ds : List Decl) (d : Decl) → IsNoAxiomDecl d → IsIn (AxiomDecl n A) (ds ++ d ∷ []) → IsIn (AxiomDecl n A) ds
none-added n A ds d none m = elim (in_split (AxiomDecl n A) ds (d ∷ []) m) [
  | inl old ↦ old
  | inr new ↦ elim new [ inl same ↦ absurd (subst IsNoAxiomDecl (sym same) none) | inr void ↦ absurd void ]
]

next-of : (c D : Change) → Gives D (Ok c) → c.next ≡ D.next
next-of c D e = let same : c ≡ D = cc in ap (λ (x : Change). x.next) same

given-outcome : (o O : Outcome) → Gives O (Ok o) → o ≡ O
given-outcome o O e = cc

append-twice : (xs ys zs : List ℕ) → (xs ++ ys) ++ zs ≡ xs ++ (ys ++ zs)
append-twice [] ys zs = refl
append-twice (x ∷ xs) ys zs = ap (λ ws. x ∷ ws) (append-twice xs ys zs)

-- the end of a definition's name, by both names of it
ends-same : definition_end ≡ heads.definition_end
unfolding definition_end heads.definition_end
ends-same = refl

module _ (P : Place) (n : ℕ) (A : Term) where
  -- The axiom stood before, or the change adds it.
  abbrev Adds : Change → Type 0 → Type 0
  Adds c New = IsIn (AxiomDecl n A) c.next.declarations → IsIn (AxiomDecl n A) P.content.declarations ⊎ New

  one-decl : (c : Change) (d : Decl) → c.next.declarations ≡ P.content.declarations ++ d ∷ [] → IsNoAxiomDecl d → Adds c ⊥
  one-decl c d e none m = inl (none-added n A P.content.declarations d none (subst (λ ds. IsIn (AxiomDecl n A) ds) e m))

  class-adds : (k : ℕ) (names : List (List ℕ)) (c : Change) → IsClassChange P k names (Ok c) → Adds c ⊥
  unfolding IsClassChange IsNewClassChange
  class-adds k names c (holds h e) = absurd (cc)
  class-adds k names c (passes new (refuses reason h e)) = absurd (cc)
  class-adds k names c (passes new (goes_on cs found e)) = one-decl c (ClassDecl (record { name = k; above = cs })) (ap (λ (Q : Content). Q.declarations) (next-of c (declaring P [] (ClassDecl (record { name = k; above = cs }))) e)) tt

  typ-adds : (k params : ℕ) (c : Change) → IsTypeChange P k params (Ok c) → Adds c ⊥
  unfolding IsTypeChange
  typ-adds k params c (holds h e) = absurd (cc)
  typ-adds k params c (passes new e) = one-decl c (ConDecl k params) (ap (λ (Q : Content). Q.declarations) (next-of c (declaring P [] (ConDecl k params)) e)) tt

  found_arity-adds : (a : Arity) (c : Change) → IsFoundArityChange P a (Ok c) → Adds c ⊥
  unfolding IsFoundArityChange
  found_arity-adds a c (holds h e) = absurd (cc)
  found_arity-adds a c (passes m (holds h e)) = absurd (cc)
  found_arity-adds a c (passes m (passes new (refuses reason h e))) = absurd (cc)
  found_arity-adds a c (passes m (passes new (goes_on fits h e))) = one-decl c (ArityDecl a) (ap (λ (Q : Content). Q.declarations) (next-of c (declaring P [] (ArityDecl a)) e)) tt

  arity-adds : (con : List ℕ) (domains : List (List (List ℕ))) (class : List ℕ) (c : Change) → IsArityChange P con domains class (Ok c) → Adds c ⊥
  unfolding IsArityChange IsDomainsArityChange IsClassArityChange
  arity-adds con domains class c (refuses reason h e) = absurd (cc)
  arity-adds con domains class c (goes_on k found (refuses reason h e)) = absurd (cc)
  arity-adds con domains class c (goes_on k found (goes_on sorts made (refuses reason h e))) = absurd (cc)
  arity-adds con domains class c (goes_on k found (goes_on sorts made (goes_on d there h))) = found_arity-adds (record { con = k; domains = sorts; class = d }) c h

  const-adds : (k : ℕ) (span : Span) (c : Change) → IsConstChange P k span (Ok c) → Adds c ⊥
  unfolding IsConstChange IsNewConstChange
  const-adds k span c (holds h e) = absurd (cc)
  const-adds k span c (passes new (refuses reason h e)) = absurd (cc)
  const-adds k span c (passes new (goes_on T h e)) = one-decl c (ConstDecl k (typ_instance schematic_typ_variable T)) (ap (λ (Q : Content). Q.declarations) (next-of c (declaring_const P k T) e)) tt

  axiom-same : (m : ℕ) (B : Term) → AxiomDecl n A ≡ AxiomDecl m B → n ≡ m
  axiom-same m B e = cc

  axiom-adds : (m : ℕ) (span : Span) (c : Change) → IsAxiomChange P m span (Ok c) → Adds c (n ≡ m)
  unfolding IsAxiomChange
  axiom-adds m span c (holds h e) in_next = absurd (cc)
  axiom-adds m span c (passes new (refuses reason h e)) in_next = absurd (cc)
  axiom-adds m span c (passes new (goes_on s h e)) in_next =
      let whole = ap (λ (Q : Content). Q.declarations) (next-of c (declaring_axiom P m s.prop) e) in
      elim (in_split (AxiomDecl n A) P.content.declarations (AxiomDecl m s.prop ∷ []) (subst (λ ds. IsIn (AxiomDecl n A) ds) whole in_next)) [
        | inl old ↦ inl old
        | inr added ↦ elim added [ inl same ↦ inr (axiom-same m s.prop same) | inr void ↦ absurd void ]
      ]

  two-decls : (c f : ℕ) (T : Typ) (body : Term) → IsIn (AxiomDecl n A) (definition c f T body) → n ≡ f
  two-decls c f T body (inl same) = absurd (subst IsNoAxiomDecl (sym same) tt)
  two-decls c f T body (inr (inl same)) = axiom-same f _ same
  two-decls c f T body (inr (inr void)) = absurd void

  body-adds : (m f : ℕ) (T : Typ) (body : Term) (c : Change) → IsBodyChange P m f T body (Ok c) → Adds c (n ≡ f)
  unfolding IsBodyChange
  body-adds m f T body c (holds h e) in_next = absurd (cc)
  body-adds m f T body c (passes a (holds h e)) in_next = absurd (cc)
  body-adds m f T body c (passes a (passes b (holds h e))) in_next = absurd (cc)
  body-adds m f T body c (passes a (passes b (passes d e))) in_next =
      let whole = ap (λ (Q : Content). Q.declarations) (next-of c (declaring_definition P m f T body) e) in
      elim (in_split (AxiomDecl n A) P.content.declarations (definition m f T body) (subst (λ ds. IsIn (AxiomDecl n A) ds) whole in_next)) [
        | inl old ↦ inl old
        | inr added ↦ inr (two-decls m f T body added)
      ]

  text-adds : (x : List ℕ) (m f : ℕ) (text : Span) (T : Typ) (c : Change) → IsTextChange P x m f text T (Ok c) → Adds c (n ≡ f)
  unfolding IsTextChange IsTreeChange IsTypedChange IsTermChange
  text-adds x m f text T c (refuses reason h e) = absurd (cc)
  text-adds x m f text T c (goes_on raw read (refuses reason h e)) = absurd (cc)
  text-adds x m f text T c (goes_on raw read (goes_on body is (refuses reason h e))) = absurd (cc)
  text-adds x m f text T c (goes_on raw read (goes_on body is (goes_on t typed (refuses reason h e)))) = absurd (cc)
  text-adds x m f text T c (goes_on raw read (goes_on body is (goes_on t typed (goes_on u normal h)))) = body-adds m f T u c h

  definition-adds : (x : List ℕ) (m f : ℕ) (typ text : Span) (c : Change) → IsDefinitionChange P x m f typ text (Ok c) → Adds c (n ≡ f)
  unfolding IsDefinitionChange IsNewDefinitionChange
  definition-adds x m f typ text c (holds h e) = absurd (cc)
  definition-adds x m f typ text c (passes new (refuses reason h e)) = absurd (cc)
  definition-adds x m f typ text c (passes new (goes_on T h k)) = text-adds x m f text T c k

  -- The axiom stood before, or the note declares it.
  abbrev Comes : Outcome → Type 0
  Comes o = IsIn (AxiomDecl n A) o.next.declarations → IsIn (AxiomDecl n A) P.content.declarations ⊎ IsRowNote P.texts n o.note

  said-comes : (command : Command) (Is : Result Change Reason → Type 0) (New : Type 0) → ((c : Change) → Is (Ok c) → Adds c New) → (New → (c : Change) → Declares P.texts n (declared_row P.theory command c.tail)) → (o : Outcome) → IsSaid P command Is (Ok o) → Comes o
  unfolding IsSaid
  said-comes command Is New adds row o (refuses reason h e) m = absurd (cc)
  said-comes command Is New adds row o (goes_on c h e) m =
      let same : o ≡ saying P command c = given-outcome o (saying P command c) e in
      elim (adds c h (subst (λ (x : Outcome). IsIn (AxiomDecl n A) x.next.declarations) same m)) [
        | inl old ↦ inl old
        | inr new ↦ inr (declared_row P.theory command c.tail, ap (λ (x : Outcome). x.note) same, row new c)
      ]

  no-row : (command : Command) → ⊥ → (c : Change) → Declares P.texts n (declared_row P.theory command c.tail)
  no-row command none c = absurd none

  axiom-row : (x : List ℕ) (span : Span) (m : ℕ) → HasText P.texts m (full_text P.theory x) → n ≡ m → (c : Change) → Declares P.texts n (declared_row P.theory (Axiom x span) c.tail)
  axiom-row x span m is same c = (refl, full_text P.theory x, inl refl, (m, is, sym same))

  fact-text : (x : List ℕ) → full_text P.theory (fact_base x) ≡ full_text P.theory x ++ heads.definition_end
  fact-text x = sym (append-twice P.theory (46 ∷ x) definition_end) ∙ ap (λ (w : List ℕ). full_text P.theory x ++ w) ends-same

  definition-row : (x : List ℕ) (typ text : Span) (f : ℕ) → HasText P.texts f (full_text P.theory (fact_base x)) → n ≡ f → (c : Change) → Declares P.texts n (declared_row P.theory (Definition x typ text) c.tail)
  definition-row x typ text f is same c = (refl, full_text P.theory x ++ heads.definition_end, inr (full_text P.theory x, refl, refl), (f, subst (HasText P.texts f) (fact-text x) is, sym same))

  lemma-comes : (base : List ℕ) (m : ℕ) (span : Span) (script : List Step) (o : Outcome) → IsLemmaOutcome P m span script (Ok o) → Comes o
  unfolding IsLemmaOutcome
  lemma-comes base m span script o (holds h e) in_next = absurd (cc)
  lemma-comes base m span script o (passes new (refuses reason h e)) in_next = absurd (cc)
  lemma-comes base m span script o (passes new (goes_on s h e)) in_next =
      let same : o ≡ forking P m script s = given-outcome o (forking P m script s) e in
      inl (none-added n A P.content.declarations (PromiseDecl m P.label s.prop) tt (subst (λ (x : Outcome). IsIn (AxiomDecl n A) x.next.declarations) same in_next))

  outcome-comes : (command : Command) (o : Outcome) → IsOutcome P command (Ok o) → Comes o
  outcome-comes (Class x names) o (k, is, h) = said-comes (Class x names) (IsClassChange P k names) ⊥ (class-adds k names) (no-row (Class x names)) o h
  outcome-comes (TypeDecl x params) o (k, is, h) = said-comes (TypeDecl x params) (IsTypeChange P k params) ⊥ (typ-adds k params) (no-row (TypeDecl x params)) o h
  outcome-comes (ArityOf con domains class) o h = said-comes (ArityOf con domains class) (IsArityChange P con domains class) ⊥ (arity-adds con domains class) (no-row (ArityOf con domains class)) o h
  outcome-comes (Const x span) o (k, is, h) = said-comes (Const x span) (IsConstChange P k span) ⊥ (const-adds k span) (no-row (Const x span)) o h
  outcome-comes (Axiom x span) o (k, is, h) = said-comes (Axiom x span) (IsAxiomChange P k span) (n ≡ k) (axiom-adds k span) (axiom-row x span k is) o h
  outcome-comes (Definition x typ text) o (k, f, is, also, h) = said-comes (Definition x typ text) (IsDefinitionChange P x k f typ text) (n ≡ f) (definition-adds x k f typ text) (definition-row x typ text f also) o h
  outcome-comes (Lemma x span haves script) o (k, is, h) = lemma-comes x k span script o h

  answer-comes : (command : Command) (o : Outcome) (answer : Result Outcome Reason) → IsOutcome P command answer → o ≡ outcome_of P command answer → Comes o
  answer-comes command o (Ok p) h e = subst Comes (sym e) (outcome-comes command p h)
  answer-comes command o (Err reason) h e = λ m. inl (subst (λ (x : Outcome). IsIn (AxiomDecl n A) x.next.declarations) e m)

module _ (texts : List (List ℕ)) (source : List ℕ) (n : ℕ) (A : Term) where
  -- An axiom of a command's next content stood before, or the command's row declares it.
  declares_axioms : (label : Label) (Q : Content) (command : Command) (note : Note) (next : Content) → DeclaresSo texts source label Q command note next → IsIn (AxiomDecl n A) next.declarations → IsIn (AxiomDecl n A) Q.declarations ⊎ IsRowNote texts n note
  declares_axioms label Q command note next h m =
      let P : Place = record { texts = texts; source = source; label = label; theory = h.theory; content = Q } in
      answer-comes P n A command (record { note = note; next = next }) h.declares.answer h.declares.is h.declares.comes m

  -- So of a part: a have and a lemma's end add promises alone.
  part_axioms : (label : Label) (Q : Content) (part : Part) (note : Note) (next : Content) → DeclaresPart texts source label Q part note next → IsIn (AxiomDecl n A) next.declarations → IsIn (AxiomDecl n A) Q.declarations ⊎ IsRowNote texts n note
  part_axioms label Q part note next h m = from (part-done texts source label Q note next part h)
    where
      from : IsPartDone texts source label Q part note next → IsIn (AxiomDecl n A) Q.declarations ⊎ IsRowNote texts n note
      from (by_command command d row e) = declares_axioms label Q command note next d m
      from (by_binding theory own b p names) =
          let promise : Decl = PromiseDecl b.number label b.stated.prop in
          inl (none-added n A Q.declarations promise tt (subst (λ (R : Content). IsIn (AxiomDecl n A) R.declarations) (next-bound texts source label Q note next theory b) m))
      from (by_refusal row e same) = inl (subst (λ (R : Content). IsIn (AxiomDecl n A) R.declarations) same m)

  -- An axiom of the content behind parts stood before, or a row among their notes declares it.
  pub parts_axioms : (label : Label) (place : ℕ) (Q : Content) (parts : List Part) (notes : List Note) (last : Content) → AreParts texts source label place Q parts notes last → IsIn (AxiomDecl n A) last.declarations
      → IsIn (AxiomDecl n A) Q.declarations ⊎ ((note : Note) × IsIn note notes × IsRowNote texts n note)
  parts_axioms label place Q [] notes last h m = inl (subst (λ (R : Content). IsIn (AxiomDecl n A) R.declarations) h.1 m)
  parts_axioms label place Q (part ∷ parts) notes last (note, next, more, d, rest, is) m = elim (parts_axioms label (place + 1) next parts more last rest m) [
    | inr later ↦ inr (later.0, subst (IsIn later.0) (sym is) (inr later.1), later.2)
    | inl before ↦ elim (part_axioms (part_label label place) Q part note next d before) [
      | inl old ↦ inl old
      | inr new ↦ inr (note, subst (IsIn note) (sym is) (inl refl), new)
    ]
  ]
