-- What each command declares over a content, or why it is refused. Its tests are in the order in which they stand.
use Rattle.std.specs.Prelude.{◌≡◌, ◌≢◌, ◌⊎◌, ℕ, List, [], ◌++◌, length, codes, Some, Result, Ok, Err}
use Rattle.pure_text.specs.Lists.{IsIn}
use Rattle.pure_definitions.specs.Names.{Label}
use Rattle.pure_definitions.specs.Types.Typ.{Typ}
use Rattle.pure_definitions.specs.Types.Order.{Arity, Algebra, IsCoregular}
use Rattle.pure_definitions.specs.Terms.Term.{Term, Const}
use Rattle.pure_definitions.specs.Terms.Subst.{typ_instance, inst_typ}
use Rattle.pure_definitions.specs.Declarations.Decl.{Decl, ClassDecl, ConDecl, ArityDecl, ConstDecl, AxiomDecl, PromiseDecl, classes_of, algebra_of}
use Rattle.pure_grammar.specs.Theories.TheoryText.{Span, Step, Command, Class, TypeDecl, Arity as ArityOf, Const as ConstOf, Axiom, Definition, Lemma}
use Rattle.pure_grammar.specs.Terms.RawTree.{RawTree}
use Rattle.pure_typ.specs.NameTexts.{HasText}
use Rattle.pure_logic.specs.Connectives.{eq}
use Rattle.pure_logic.specs.Content.{TheoryId, Content, schematic_typ_variable, definition}
use Rattle.pure_lookup.specs.Meaning.{Space, classes, constructors, constants, facts, IsDeclaredIn, full_text}
use Rattle.pure_order.specs.OrderTables.Arities.{with_arity, IsKnown}
use Rattle.pure_order.specs.OrderTables.Checks.{IsLeastInConflict}
use Rattle.pure_order.specs.OrderTables.Unknown.{HasArityFor}
use Rattle.pure_theory.specs.Stage.{with_declarations, with_decl}
use Rattle.pure_theory.specs.Definitions.{HasVariable, HasExtraTyp}
use Rattle.pure_print.specs.TypText.{typ_text}
use Rattle.pure_print.specs.TermText.{term_text}
use Rattle.pure_elab.specs.Vocabulary.{Vocabulary}
use Rattle.pure_elab.specs.Found.{vocabulary_of}
use Rattle.pure_statements.specs.declared.reason.Reason.{Reason}
use Rattle.pure_statements.specs.declared.reason.Reason.TheVariants.{Duplicate, UnknownClass, UnknownType, WrongCount, NotCoregular, TooLarge, NotDefinition, NotClosed, ExtraTypeVariable}
use Rattle.pure_statements.specs.declared.stated.Stated.{Stated}
use Rattle.pure_statements.specs.Chain.{Then, Unless, Gives, Found}
use Rattle.pure_statements.specs.Quoted.{IsReadTerm}
use Rattle.pure_statements.specs.Elaborated.{IsTypedTerm}
use Rattle.pure_statements.specs.Statement.{IsNormalised, IsLarge, IsStated, IsStatedTyp}
use Rattle.pure_statements.specs.Body.{body_of}
use Rattle.pure_statements.specs.Rows.{declared_row, of_type, colon}
use Rattle.pure_declare.specs.Notes.{Said, Forked, Outcome, Change}
use Rattle.pure_declare.specs.Lookups.{AreWrittenClasses, AreWrittenSorts}

-- what stands around a command: the texts of names, the source, the label, the text of the theory, and the content
pub record Place : Type 0 where
  pub texts : List (List ℕ)
  pub source : List ℕ
  pub label : Label
  pub theory : List ℕ
  pub content : Content

-- The text is that of the content's own theory.
pub record IsOwnText (texts : List (List ℕ)) (Q : Content) (theory : List ℕ) : Type 0 where
  pub own : TheoryId
  pub is_own : Q.own ≡ Some own
  pub text : HasText texts own.name theory

-- The name of what has this base in the theory.
abbrev pub IsNameOf : Place → (base : List ℕ) → ℕ → Type 0
IsNameOf P base n = HasText P.texts n (full_text P.theory base)

-- the vocabulary of the content
abbrev pub vocabulary : Place → Vocabulary
vocabulary P = vocabulary_of P.texts P.content

-- Something of the name space has the name.
abbrev pub IsTaken : Place → Space → ℕ → Type 0
IsTaken P space n = IsDeclaredIn space P.content.declarations n

-- the content with a declaration more, and what is said of it
abbrev pub declaring : Place → (tail : List ℕ) → Decl → Change
declaring P tail d = record { tail = tail; next = with_decl P.content d }

-- A class of a new name: the classes above it are found.
unfoldable pub IsNewClassChange : Place → (number : ℕ) → (above : List (List ℕ)) → Result Change Reason → Type 0
IsNewClassChange P n above =
    Then (AreWrittenClasses (vocabulary P) above) (λ cs.
    Gives (declaring P [] (ClassDecl (record { name = n; above = cs }))))

-- A class: nothing has its name, and the classes above it are found.
unfoldable pub IsClassChange : Place → (number : ℕ) → (above : List (List ℕ)) → Result Change Reason → Type 0
IsClassChange P n above = Unless (IsTaken P classes n) Duplicate (IsNewClassChange P n above)

-- A type constructor: nothing has its name.
unfoldable pub IsTypeChange : Place → (number params : ℕ) → Result Change Reason → Type 0
IsTypeChange P n params =
    Unless (IsTaken P constructors n) Duplicate
    (Gives (declaring P [] (ConDecl n params)))

-- With the arity more the algebra is coregular; or else the class is the least that is in conflict with it.
abbrev pub IsFitting : Algebra → Arity → Result (Unit {0}) Reason → Type 0
IsFitting A a (Ok fits) = IsCoregular (with_arity A a)
IsFitting A a (Err reason) = (d : ℕ) × IsLeastInConflict (with_arity A a) a d × (reason ≡ NotCoregular a.con a.class d)

-- The constructor takes another number of arguments than there are domains.
abbrev pub IsMiscounted : List Decl → Arity → Type 0
IsMiscounted ds a = (n : ℕ) × IsIn (ConDecl a.con n) ds × (n ≢ length a.domains)

-- An arity whose names are found: there are as many domains as the constructor takes arguments, it has no arity for the class, and the algebra stays coregular.
unfoldable pub IsFoundArityChange : Place → Arity → Result Change Reason → Type 0
IsFoundArityChange P a =
    Unless (IsMiscounted P.content.declarations a) WrongCount
    (Unless (HasArityFor (algebra_of P.content.declarations) a.con a.class) Duplicate
    (Then (IsFitting (algebra_of P.content.declarations) a) (λ fits.
    Gives (declaring P [] (ArityDecl a)))))

-- An arity whose constructor and domains are found: its class is found.
unfoldable pub IsClassArityChange : Place → (con : ℕ) → (domains : List (List ℕ)) → (class : List ℕ) → Result Change Reason → Type 0
IsClassArityChange P k sorts class = Then (Found ((vocabulary P).class_written class) UnknownClass) (λ c. IsFoundArityChange P (record { con = k; domains = sorts; class = c }))

-- An arity whose constructor is found: the classes of its domains are found.
unfoldable pub IsDomainsArityChange : Place → (con : ℕ) → (domains : List (List (List ℕ))) → (class : List ℕ) → Result Change Reason → Type 0
IsDomainsArityChange P k domains class = Then (AreWrittenSorts (vocabulary P) domains) (λ sorts. IsClassArityChange P k sorts class)

-- An arity: its constructor is found.
unfoldable pub IsArityChange : Place → (con : List ℕ) → (domains : List (List (List ℕ))) → (class : List ℕ) → Result Change Reason → Type 0
IsArityChange P con domains class = Then (Found ((vocabulary P).constructor_written con) UnknownType) (λ k. IsDomainsArityChange P k domains class)

-- what a constant of this type declares, with its type variables schematic
abbrev pub declaring_const : Place → (number : ℕ) → Typ → Change
declaring_const P n T =
    let U = typ_instance schematic_typ_variable T in
    declaring P (of_type ++ typ_text P.texts U) (ConstDecl n U)

-- A constant of a new name: its type is read and looked up.
unfoldable pub IsNewConstChange : Place → (number : ℕ) → Span → Result Change Reason → Type 0
IsNewConstChange P n span =
    Then (IsStatedTyp (vocabulary P) P.source span) (λ T.
    Gives (declaring_const P n T))

-- A constant: nothing has its name, and its type is read and looked up.
unfoldable pub IsConstChange : Place → (number : ℕ) → Span → Result Change Reason → Type 0
IsConstChange P n span = Unless (IsTaken P constants n) Duplicate (IsNewConstChange P n span)

-- what is said of a proposition
abbrev pub stating : Place → Term → List ℕ
stating P A = colon ++ term_text P.texts A

-- the change of an axiom that states this
abbrev pub declaring_axiom : Place → (number : ℕ) → (prop : Term) → Change
declaring_axiom P n A = declaring P (stating P A) (AxiomDecl n A)

-- An axiom: no fact has its name, and it is stated.
unfoldable pub IsAxiomChange : Place → (number : ℕ) → Span → Result Change Reason → Type 0
IsAxiomChange P n span =
    Unless (IsTaken P facts n) Duplicate
    (Then (IsStated (vocabulary P) P.source span) (λ s.
    Gives (declaring_axiom P n s.prop)))

-- the axiom of a definition: the constant equals the body, with type variables schematic
abbrev pub defining : (constant : ℕ) → Typ → Term → Term
defining c T body =
    let U = typ_instance schematic_typ_variable T in
    eq U (Const c U) (inst_typ schematic_typ_variable body)

-- what a definition declares: the constant, and then the axiom
abbrev pub declaring_definition : Place → (constant fact : ℕ) → Typ → Term → Change
declaring_definition P c f T body = record {
  tail = stating P (defining c T body);
  next = with_declarations P.content (P.content.declarations ++ definition c f T body);
}

-- A definition's body: its normal form has no variable, no type variable that the type lacks, and makes an axiom that isn't too large.
unfoldable pub IsBodyChange : Place → (constant fact : ℕ) → Typ → Term → Result Change Reason → Type 0
IsBodyChange P c f T body =
    Unless (HasVariable body) NotClosed
    (Unless (HasExtraTyp T body) ExtraTypeVariable
    (Unless (IsLarge (defining c T body)) TooLarge
    (Gives (declaring_definition P c f T body))))

-- A definition's body that is typed: it is brought to normal form.
unfoldable pub IsTermChange : Place → (constant fact : ℕ) → Typ → Term → Result Change Reason → Type 0
IsTermChange P c f T t = Then (IsNormalised t) (IsBodyChange P c f T)

-- A definition's body: it is typed at the type, while the constant isn't declared yet.
unfoldable pub IsTypedChange : Place → (constant fact : ℕ) → Typ → RawTree → Result Change Reason → Type 0
IsTypedChange P c f T body = Then (IsTypedTerm (vocabulary P) T body) (IsTermChange P c f T)

-- A definition's text that is read: it says that the constant of this name equals a term.
unfoldable pub IsTreeChange : Place → (name : List ℕ) → (constant fact : ℕ) → Typ → RawTree → Result Change Reason → Type 0
IsTreeChange P x c f T raw = Then (Found (body_of x raw) NotDefinition) (IsTypedChange P c f T)

-- A definition's text, whose type is known: it is read.
unfoldable pub IsTextChange : Place → (name : List ℕ) → (constant fact : ℕ) → Span → Typ → Result Change Reason → Type 0
IsTextChange P x c f text T = Then (IsReadTerm P.source text) (IsTreeChange P x c f T)

-- A definition of new names: its type is read and looked up, and then its text.
unfoldable pub IsNewDefinitionChange : Place → (name : List ℕ) → (constant fact : ℕ) → (typ text : Span) → Result Change Reason → Type 0
IsNewDefinitionChange P x c f typ text = Then (IsStatedTyp (vocabulary P) P.source typ) (λ T. IsTextChange P x c f text T)

-- A definition: nothing has the name of its constant or of its fact.
unfoldable pub IsDefinitionChange : Place → (name : List ℕ) → (constant fact : ℕ) → (typ text : Span) → Result Change Reason → Type 0
IsDefinitionChange P x c f typ text = Unless (IsTaken P constants c ⊎ IsTaken P facts f) Duplicate (IsNewDefinitionChange P x c f typ text)

-- Nothing has the name of the constant or of the fact.
unfoldable pub IsNewDefinition : Place → (constant fact : ℕ) → Type 0
IsNewDefinition P c f = (IsTaken P constants c ⊎ IsTaken P facts f) → ⊥

-- The constructor is declared, and so are the classes that the arity names.
pub record AreKnown (P : Place) (a : Arity) : Type 0 where
  pub con : (n : ℕ) × IsIn (ConDecl a.con n) P.content.declarations
  pub classes : IsKnown (classes_of P.content.declarations) a

-- what a lemma leaves: its fork, with its own name as the lemma's and the content before it; the next content has its promise
abbrev pub forking : Place → (number : ℕ) → List Step → Stated → Outcome
forking P n script s = record {
  note = Forked (record { label = P.label; name = n; lemma = n; content = P.content; fixed = s.fixed; prop = s.prop; script = script });
  next = with_decl P.content (PromiseDecl n P.label s.prop);
}

-- A lemma: no fact has its name, and it is stated. It is bound before its proof is run.
unfoldable pub IsLemmaOutcome : Place → (number : ℕ) → Span → List Step → Result Outcome Reason → Type 0
IsLemmaOutcome P n span script =
    Unless (IsTaken P facts n) Duplicate
    (Then (IsStated (vocabulary P) P.source span) (λ s.
    Gives (forking P n script s)))

-- what stands behind a constant's base in that of its definition's fact
unfoldable pub definition_end : List ℕ
definition_end = codes "_def"

-- the base of a definition's fact
abbrev pub fact_base : (name : List ℕ) → List ℕ
fact_base x = x ++ definition_end

-- the row of a command that declares, and the next content
abbrev pub saying : Place → Command → Change → Outcome
saying P command change = record { note = Said (declared_row P.theory command change.tail); next = change.next }

-- The command declares so, and leaves its row.
unfoldable pub IsSaid : Place → Command → (Result Change Reason → Type 0) → Result Outcome Reason → Type 0
IsSaid P command Is = Then Is (λ change. Gives (saying P command change))

-- What a command does, or why it is refused.
abbrev pub IsOutcome : Place → Command → Result Outcome Reason → Type 0
IsOutcome P (Class x above) answer = (n : ℕ) × IsNameOf P x n × IsSaid P (Class x above) (IsClassChange P n above) answer
IsOutcome P (TypeDecl x params) answer = (n : ℕ) × IsNameOf P x n × IsSaid P (TypeDecl x params) (IsTypeChange P n params) answer
IsOutcome P (ArityOf con domains class) answer = IsSaid P (ArityOf con domains class) (IsArityChange P con domains class) answer
IsOutcome P (ConstOf x span) answer = (n : ℕ) × IsNameOf P x n × IsSaid P (ConstOf x span) (IsConstChange P n span) answer
IsOutcome P (Axiom x span) answer = (n : ℕ) × IsNameOf P x n × IsSaid P (Axiom x span) (IsAxiomChange P n span) answer
IsOutcome P (Definition x typ text) answer = (n : ℕ) × (f : ℕ) × IsNameOf P x n × IsNameOf P (fact_base x) f × IsSaid P (Definition x typ text) (IsDefinitionChange P x n f typ text) answer
IsOutcome P (Lemma x span haves script) answer = (n : ℕ) × IsNameOf P x n × IsLemmaOutcome P n span script answer
