-- What a command did: what it added to the content, and why it might.
use Rattle.std.proofs.Common.{◌≡◌, ℕ, List, [], ◌++◌, refl, sym, ap, subst, inl, inr}
use Rattle.std.specs.Prelude.{Result, Ok, Err}
use Rattle.pure_text.specs.Lists.{EachTwo}
use Rattle.pure_definitions.specs.Types.Typ.{Typ}
use Rattle.pure_definitions.specs.Types.Order.{Class, Arity, IsCoregular}
use Rattle.pure_definitions.specs.Terms.Term.{Term}
use Rattle.pure_definitions.specs.Terms.Subst.{typ_instance}
use Rattle.pure_definitions.specs.Declarations.Decl.{ClassDecl, ConDecl, ArityDecl, ConstDecl, AxiomDecl, algebra_of}
use Rattle.pure_grammar.specs.Theories.TheoryText.{Span, Step, Have, Command, Class as ClassOf, TypeDecl, Arity as ArityOf, Const, Axiom, Definition, Lemma}
use Rattle.pure_grammar.specs.Terms.RawTree.{RawTree}
use Rattle.pure_order.specs.OrderTables.Arities.{with_arity}
use Rattle.pure_order.specs.OrderTables.Unknown.{HasArityFor}
use Rattle.pure_logic.specs.Content.{Content, definition, schematic_typ_variable}
use Rattle.pure_lookup.specs.Meaning.{classes, constructors, constants, facts}
use Rattle.pure_theory.specs.Stage.{with_declarations, with_decl}
use Rattle.pure_theory.specs.Definitions.{HasVariable}
use Rattle.pure_print.specs.declared.row.Row.{Row}
use Rattle.pure_statements.specs.declared.reason.Reason.{Reason}
use Rattle.pure_statements.specs.declared.reason.Reason.TheVariants.{UnknownClass, UnknownType}
use Rattle.pure_statements.specs.declared.stated.Stated.{Stated}
use Rattle.pure_statements.specs.Chain.{Gives, Found, refuses, goes_on, holds, passes}
use Rattle.pure_statements.specs.Statement.{IsNormalised, IsStated, IsStatedTyp}
use Rattle.pure_statements.specs.Elaborated.{IsTypedTerm}
use Rattle.pure_statements.specs.Rows.{declared_row, refused_row}
use Rattle.pure_declare.specs.Notes.{Note, Said, Outcome, Change}
use Rattle.pure_declare.specs.Lookups.{AreWritten, IsWrittenSort}
use Rattle.pure_declare.specs.Commands.{Place, vocabulary, IsTaken, IsOutcome, IsSaid, IsMiscounted, IsNewClassChange, IsClassChange, IsTypeChange, IsFoundArityChange, IsClassArityChange, IsDomainsArityChange, IsArityChange, IsNewConstChange, IsConstChange, IsAxiomChange, IsBodyChange, IsTermChange, IsTypedChange, IsTreeChange, IsTextChange, IsNewDefinitionChange, IsDefinitionChange, IsLemmaOutcome, declaring, declaring_const, declaring_definition, declaring_axiom, saying, forking}
use Rattle.pure_declare.specs.First.{IsDeclaredAs, outcome_of}

-- An arity whose names are found, and which fits.
pub record IsFoundArity (P : Place) (a : Arity) : Type 0 where
  pub con : (written : List ℕ) × Found ((vocabulary P).constructor_written written) UnknownType (Ok a.con)
  pub domains : (written : List (List (List ℕ))) × EachTwo (IsWrittenSort (vocabulary P)) written a.domains
  pub class : (written : List ℕ) × Found ((vocabulary P).class_written written) UnknownClass (Ok a.class)
  pub counted : IsMiscounted P.content.declarations a → ⊥
  pub new : HasArityFor (algebra_of P.content.declarations) a.con a.class → ⊥
  pub coregular : IsCoregular (with_arity (algebra_of P.content.declarations) a)

-- A definition of new names: its type is stated, and its body is a closed normal form at the type.
pub record IsFoundDefinition (P : Place) (c f : ℕ) (T : Typ) (body : Term) : Type 0 where
  pub new_constant : IsTaken P constants c → ⊥
  pub new_fact : IsTaken P facts f → ⊥
  pub typ : (span : Span) × IsStatedTyp (vocabulary P) P.source span (Ok T)
  pub term : (raw : RawTree) × (t : Term) × IsTypedTerm (vocabulary P) T raw (Ok t) × IsNormalised t (Ok body)
  pub closed : HasVariable body → ⊥

-- The content is that of the place with what a command that isn't a lemma declares.
pub data IsChanged (P : Place) (R : Content) : Type 0 where
  a_class : (k : Class) (names : List (List ℕ)) → (IsTaken P classes k.name → ⊥) → AreWritten (vocabulary P) names k.above → R ≡ with_decl P.content (ClassDecl k) → IsChanged P R
  a_typ : (n params : ℕ) → (IsTaken P constructors n → ⊥) → R ≡ with_decl P.content (ConDecl n params) → IsChanged P R
  an_arity : (a : Arity) → IsFoundArity P a → R ≡ with_decl P.content (ArityDecl a) → IsChanged P R
  a_const : (n : ℕ) (span : Span) (T : Typ) → (IsTaken P constants n → ⊥) → IsStatedTyp (vocabulary P) P.source span (Ok T) → R ≡ with_decl P.content (ConstDecl n (typ_instance schematic_typ_variable T)) → IsChanged P R
  an_axiom : (n : ℕ) (span : Span) (s : Stated) → (IsTaken P facts n → ⊥) → IsStated (vocabulary P) P.source span (Ok s) → R ≡ with_decl P.content (AxiomDecl n s.prop) → IsChanged P R
  a_definition : (c f : ℕ) (T : Typ) (body : Term) → IsFoundDefinition P c f T body → R ≡ with_declarations P.content (P.content.declarations ++ definition c f T body) → IsChanged P R

-- The command is a lemma of a new name, which is bound as it is stated.
pub record IsBinding (P : Place) (command : Command) (o : Outcome) : Type 0 where
  pub base : List ℕ
  pub span : Span
  pub haves : List Have
  pub script : List Step
  pub number : ℕ
  pub stated : Stated
  pub command_is : command ≡ Lemma base span haves script
  pub new : IsTaken P facts number → ⊥
  pub states : IsStated (vocabulary P) P.source span (Ok stated)
  pub is : o ≡ forking P number script stated

-- A command declares, or binds a lemma, or is refused.
pub data IsDone (P : Place) (command : Command) (o : Outcome) : Type 0 where
  changes : (row : Row) → o.note ≡ Said row → IsChanged P o.next → IsDone P command o
  binds : IsBinding P command o → IsDone P command o
  is_refused : (row : Row) → o ≡ record { note = Said row; next = P.content } → IsDone P command o

-- the outcome of this note and content
abbrev pub outcome_with : Note → Content → Outcome
outcome_with note next = record { note = note; next = next }

next-of : (c D : Change) → Gives D (Ok c) → c.next ≡ D.next
next-of c D e = let same : c ≡ D = cc in ap (λ (x : Change). x.next) same

given-outcome : (o O : Outcome) → Gives O (Ok o) → o ≡ O
given-outcome o O e = cc

module _ (P : Place) where
  class-changed : (n : ℕ) (names : List (List ℕ)) (c : Change) → IsClassChange P n names (Ok c) → IsChanged P c.next
  unfolding IsClassChange IsNewClassChange
  class-changed n names c (holds h e) = absurd (cc)
  class-changed n names c (passes new (refuses reason h e)) = absurd (cc)
  class-changed n names c (passes new (goes_on cs found e)) = a_class (record { name = n; above = cs }) names new found (next-of c (declaring P [] (ClassDecl (record { name = n; above = cs }))) e)

  typ-changed : (n params : ℕ) (c : Change) → IsTypeChange P n params (Ok c) → IsChanged P c.next
  unfolding IsTypeChange
  typ-changed n params c (holds h e) = absurd (cc)
  typ-changed n params c (passes new e) = a_typ n params new (next-of c (declaring P [] (ConDecl n params)) e)

  -- what is found of an arity before it is tested
  record AreFoundNames (a : Arity) : Type 0 where
    con : (written : List ℕ) × Found ((vocabulary P).constructor_written written) UnknownType (Ok a.con)
    domains : (written : List (List (List ℕ))) × EachTwo (IsWrittenSort (vocabulary P)) written a.domains
    class : (written : List ℕ) × Found ((vocabulary P).class_written written) UnknownClass (Ok a.class)

  found_arity-changed : (a : Arity) (c : Change) → AreFoundNames a → IsFoundArityChange P a (Ok c) → IsChanged P c.next
  unfolding IsFoundArityChange
  found_arity-changed a c names (holds h e) = absurd (cc)
  found_arity-changed a c names (passes m (holds h e)) = absurd (cc)
  found_arity-changed a c names (passes m (passes new (refuses reason h e))) = absurd (cc)
  found_arity-changed a c names (passes m (passes new (goes_on fits h e))) =
      an_arity a (record { con = names.con; domains = names.domains; class = names.class; counted = m; new = new; coregular = h }) (next-of c (declaring P [] (ArityDecl a)) e)

  arity-changed : (con : List ℕ) (domains : List (List (List ℕ))) (class : List ℕ) (c : Change) → IsArityChange P con domains class (Ok c) → IsChanged P c.next
  unfolding IsArityChange IsDomainsArityChange IsClassArityChange
  arity-changed con domains class c (refuses reason h e) = absurd (cc)
  arity-changed con domains class c (goes_on k found (refuses reason h e)) = absurd (cc)
  arity-changed con domains class c (goes_on k found (goes_on sorts made (refuses reason h e))) = absurd (cc)
  arity-changed con domains class c (goes_on k found (goes_on sorts made (goes_on d there h))) =
      found_arity-changed (record { con = k; domains = sorts; class = d }) c (record { con = (con, found); domains = (domains, made); class = (class, there) }) h

  const-changed : (n : ℕ) (span : Span) (c : Change) → IsConstChange P n span (Ok c) → IsChanged P c.next
  unfolding IsConstChange IsNewConstChange
  const-changed n span c (holds h e) = absurd (cc)
  const-changed n span c (passes new (refuses reason h e)) = absurd (cc)
  const-changed n span c (passes new (goes_on T h e)) = a_const n span T new h (next-of c (declaring_const P n T) e)

  axiom-changed : (n : ℕ) (span : Span) (c : Change) → IsAxiomChange P n span (Ok c) → IsChanged P c.next
  unfolding IsAxiomChange
  axiom-changed n span c (holds h e) = absurd (cc)
  axiom-changed n span c (passes new (refuses reason h e)) = absurd (cc)
  axiom-changed n span c (passes new (goes_on s h e)) = an_axiom n span s new h (next-of c (declaring_axiom P n s.prop) e)

  -- what is known of a definition whose body is brought to normal form
  record IsReadDefinition (c f : ℕ) (T : Typ) (body : Term) : Type 0 where
    typ : (span : Span) × IsStatedTyp (vocabulary P) P.source span (Ok T)
    term : (raw : RawTree) × (t : Term) × IsTypedTerm (vocabulary P) T raw (Ok t) × IsNormalised t (Ok body)

  -- Neither the constant nor the fact is taken.
  abbrev IsNewPair : ℕ → ℕ → Type 0
  IsNewPair n f = (IsTaken P constants n → ⊥) × (IsTaken P facts f → ⊥)

  body-changed : (n f : ℕ) (T : Typ) (body : Term) (c : Change) → IsNewPair n f → IsReadDefinition n f T body → IsBodyChange P n f T body (Ok c) → IsChanged P c.next
  unfolding IsBodyChange
  body-changed n f T body c new is (holds h e) = absurd (cc)
  body-changed n f T body c new is (passes a (holds h e)) = absurd (cc)
  body-changed n f T body c new is (passes a (passes b (holds h e))) = absurd (cc)
  body-changed n f T body c new is (passes a (passes b (passes d e))) =
      a_definition n f T body (record { new_constant = new.0; new_fact = new.1; typ = is.typ; term = is.term; closed = a }) (next-of c (declaring_definition P n f T body) e)

  text-changed : (x : List ℕ) (n f : ℕ) (text : Span) (T : Typ) (c : Change) → IsNewPair n f → (span : Span) × IsStatedTyp (vocabulary P) P.source span (Ok T) → IsTextChange P x n f text T (Ok c) → IsChanged P c.next
  unfolding IsTextChange IsTreeChange IsTypedChange IsTermChange
  text-changed x n f text T c new typ (refuses reason h e) = absurd (cc)
  text-changed x n f text T c new typ (goes_on raw read (refuses reason h e)) = absurd (cc)
  text-changed x n f text T c new typ (goes_on raw read (goes_on body is (refuses reason h e))) = absurd (cc)
  text-changed x n f text T c new typ (goes_on raw read (goes_on body is (goes_on t typed (refuses reason h e)))) = absurd (cc)
  text-changed x n f text T c new typ (goes_on raw read (goes_on body is (goes_on t typed (goes_on u normal h)))) = body-changed n f T u c new (record { typ = typ; term = (body, t, typed, normal) }) h

  definition-changed : (x : List ℕ) (n f : ℕ) (typ text : Span) (c : Change) → IsDefinitionChange P x n f typ text (Ok c) → IsChanged P c.next
  unfolding IsDefinitionChange IsNewDefinitionChange
  definition-changed x n f typ text c (holds h e) = absurd (cc)
  definition-changed x n f typ text c (passes new (refuses reason h e)) = absurd (cc)
  definition-changed x n f typ text c (passes new (goes_on T h k)) = text-changed x n f text T c ((λ taken. new (inl taken)), (λ taken. new (inr taken))) (typ, h) k

  said-done : (command : Command) (Is : Result Change Reason → Type 0) → ((c : Change) → Is (Ok c) → IsChanged P c.next) → (o : Outcome) → IsSaid P command Is (Ok o) → IsDone P command o
  unfolding IsSaid
  said-done command Is changed o (refuses reason h e) = absurd (cc)
  said-done command Is changed o (goes_on c h e) =
      let same : o ≡ saying P command c = given-outcome o (saying P command c) e in
      changes (declared_row P.theory command c.tail) (ap (λ (x : Outcome). x.note) same) (subst (λ (x : Outcome). IsChanged P x.next) (sym same) (changed c h))

  lemma-done : (base : List ℕ) (n : ℕ) (span : Span) (haves : List Have) (script : List Step) (o : Outcome) → IsLemmaOutcome P n span script (Ok o) → IsDone P (Lemma base span haves script) o
  unfolding IsLemmaOutcome
  lemma-done base n span haves script o (holds h e) = absurd (cc)
  lemma-done base n span haves script o (passes new (refuses reason h e)) = absurd (cc)
  lemma-done base n span haves script o (passes new (goes_on s h e)) =
      binds (record { base = base; span = span; haves = haves; script = script; number = n; stated = s; command_is = refl; new = new; states = h; is = given-outcome o (forking P n script s) e })

  outcome-done : (command : Command) (o : Outcome) → IsOutcome P command (Ok o) → IsDone P command o
  outcome-done (ClassOf x names) o (n, is, h) = said-done (ClassOf x names) (IsClassChange P n names) (class-changed n names) o h
  outcome-done (TypeDecl x params) o (n, is, h) = said-done (TypeDecl x params) (IsTypeChange P n params) (typ-changed n params) o h
  outcome-done (ArityOf con domains class) o h = said-done (ArityOf con domains class) (IsArityChange P con domains class) (arity-changed con domains class) o h
  outcome-done (Const x span) o (n, is, h) = said-done (Const x span) (IsConstChange P n span) (const-changed n span) o h
  outcome-done (Axiom x span) o (n, is, h) = said-done (Axiom x span) (IsAxiomChange P n span) (axiom-changed n span) o h
  outcome-done (Definition x typ text) o (n, f, is, also, h) = said-done (Definition x typ text) (IsDefinitionChange P x n f typ text) (definition-changed x n f typ text) o h
  outcome-done (Lemma x span haves script) o (n, is, h) = lemma-done x n span haves script o h

  answer-done : (command : Command) (o : Outcome) (answer : Result Outcome Reason) → IsOutcome P command answer → o ≡ outcome_of P command answer → IsDone P command o
  answer-done command o (Ok p) h e = subst (IsDone P command) (sym e) (outcome-done command p h)
  answer-done command o (Err reason) h e = is_refused (refused_row P.texts P.source P.theory command reason) e

  -- What a command did.
  pub declared-done : (command : Command) (o : Outcome) → IsDeclaredAs P command o → IsDone P command o
  declared-done command o h = answer-done command o h.answer h.is h.comes
