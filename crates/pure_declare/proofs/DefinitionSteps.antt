-- Definitions, step by step.
use Rattle.std.proofs.Common.{◌≡◌, ℕ, List, ◌++◌, refl, sym, ap, subst, inl, inr, ◌⊎◌, ◌↔◌, Bool, false, IsTrue}
use Rattle.std.specs.Prelude.{Option, Some, None, Result, Ok, Err, IsErrAnd, option_map}
use Rattle.pure_text.specs.Lists.{IsIn, AnyOf}
use Rattle.pure_text.proofs.ListLaws.{in-append_right}
use Rattle.pure_text.proofs.AnswerLaws.{test_fails}
use Rattle.pure_definitions.specs.Types.Typ.{Typ}
use Rattle.pure_definitions.specs.Terms.Term.{Term}
use Rattle.pure_definitions.specs.Terms.Subst.{typ_instance}
use Rattle.pure_definitions.specs.Declarations.Decl.{Decl, AxiomDecl}
use Rattle.pure_grammar.specs.Theories.TheoryText.{Span}
use Rattle.pure_grammar.specs.Terms.RawTree.{RawTree}
use Rattle.pure_logic.specs.Content.{Content, definition, schematic_typ_variable}
use Rattle.pure_lookup.specs.Meaning.{constants, facts}
use Rattle.pure_theory.specs.declared.fault.DeclFault.{DeclFault}
use Rattle.pure_theory.specs.declared.fault.DeclFault.TheVariants as fault
use Rattle.pure_theory.specs.Refusals.{HasNamesake}
use Rattle.pure_theory.specs.Stage.{with_declarations}
use Rattle.pure_theory.specs.Definitions.{HasVariable, HasExtraTyp, IsDefinitionRefusal}
use Rattle.pure_statements.specs.declared.reason.Reason.{Reason}
use Rattle.pure_statements.specs.declared.reason.Reason.TheVariants.{Duplicate, NotDefinition, NotClosed, ExtraTypeVariable, TooLarge}
use Rattle.pure_statements.specs.declared.reason.Failed.{Failed}
use Rattle.pure_statements.specs.declared.reason.Failed.TheVariants.{Refused, Memory}
use Rattle.pure_statements.specs.Body.{body_of}
use Rattle.pure_statements.specs.Chain.{Unless, Gives, Answers, FailsAs, Found, refuses, holds, passes}
use Rattle.pure_statements.specs.Quoted.{IsReadTerm}
use Rattle.pure_statements.specs.Elaborated.{IsTypedTerm}
use Rattle.pure_statements.specs.Statement.{IsNormalised, IsLarge, IsStatedTyp}
use Rattle.pure_statements.proofs.ChainLaws.{answers-failed, answers-memory, answers-next, answers-passes, fails-answers}
use Rattle.pure_declare.specs.Notes.{Change}
use Rattle.pure_declare.specs.Changes.{failed_declaration}
use Rattle.pure_declare.specs.Commands.{Place, vocabulary, IsTaken, IsNewDefinition, stating, defining, declaring_definition, IsBodyChange, IsTermChange, IsTypedChange, IsTreeChange, IsTextChange, IsNewDefinitionChange, IsDefinitionChange}
use Rattle.pure_declare.proofs.FaultLaws.{const-taken, axiom-taken}

module _ (P : Place) (c f : ℕ) (T : Typ) where
  module _ (body : Term) where
    new-names : IsNewDefinition P c f → AnyOf (HasNamesake P.content.declarations) (definition c f T body) → ⊥
    unfolding IsNewDefinition
    new-names new (inl h) = new (inl (const-taken P.content.declarations c (typ_instance schematic_typ_variable T) h.0 h.1 h.2))
    new-names new (inr (inl h)) = new (inr (axiom-taken P.content.declarations f (defining c T body) h.0 h.1 h.2))
    new-names new (inr (inr none)) = absurd none

    refused-here : IsNewDefinition P c f → (g : DeclFault) → IsDefinitionRefusal P.content.declarations (definition c f T body) T body g → FailsAs (IsBodyChange P c f T body) (failed_declaration g)
    unfolding IsBodyChange
    refused-here new fault.Duplicate h = absurd (new-names new h)
    refused-here new fault.NotClosed h = holds h.1 refl
    refused-here new fault.ExtraType h = passes h.1 (holds h.2 refl)
    refused-here new fault.Memory h = tt
    refused-here new (fault.UnknownClass k) h = absurd h
    refused-here new (fault.UnknownType k) h = absurd h
    refused-here new (fault.WrongCount k) h = absurd h
    refused-here new (fault.NotCoregular k d e) h = absurd h

    -- A refusal of the theory is one of the command.
    pub definition-refused : IsNewDefinition P c f → (R : Content) (g : DeclFault) (e : Failed) → R ≡ P.content → IsDefinitionRefusal R.declarations (definition c f T body) T body g → e ≡ failed_declaration g → FailsAs (IsBodyChange P c f T body) e
    definition-refused new R g e same h is =
        subst (λ (x : Failed). FailsAs (IsBodyChange P c f T body) x) (sym is)
        (refused-here new g (subst (λ (Q : Content). IsDefinitionRefusal Q.declarations (definition c f T body) T body g) same h))

    pub body-failed : (e : Failed) (r : Result Change Failed) → FailsAs (IsBodyChange P c f T body) e → IsErrAnd r (λ x. x ≡ e) → Answers (IsBodyChange P c f T body) r
    body-failed (Refused reason) (Ok a) h is = absurd is
    body-failed (Refused reason) (Err g) h is = subst (λ (x : Failed). Answers (IsBodyChange P c f T body) (Err x)) (sym is) h
    body-failed Memory r h is = answers-memory (IsBodyChange P c f T body) r is

    pub body-next : (Q : Content) (r : Result Change Failed) → ((¬ HasVariable body) × (¬ HasExtraTyp T body)) → Q ≡ with_declarations P.content (P.content.declarations ++ definition c f T body)
        → ((U : Typ) (b : Term) → Q ≡ with_declarations P.content (P.content.declarations ++ definition c f U b) → Answers (Unless (IsLarge (defining c U b)) TooLarge (Gives (declaring_definition P c f U b))) r)
        → Answers (IsBodyChange P c f T body) r
    unfolding IsBodyChange
    body-next Q r closed next h =
        answers-passes (HasVariable body) NotClosed (Unless (HasExtraTyp T body) ExtraTypeVariable (Unless (IsLarge (defining c T body)) TooLarge (Gives (declaring_definition P c f T body)))) r closed.0
        (answers-passes (HasExtraTyp T body) ExtraTypeVariable (Unless (IsLarge (defining c T body)) TooLarge (Gives (declaring_definition P c f T body))) r closed.1 (h T body next))

  module _ (t : Term) where
    pub term-failed : (e : Failed) (r : Result Change Failed) → Answers {A = Term} (IsNormalised t) (Err e) → IsErrAnd r (λ x. x ≡ e) → Answers (IsTermChange P c f T t) r
    unfolding IsTermChange
    term-failed e r h is = answers-failed (IsNormalised t) (IsBodyChange P c f T) e r (fails-answers (IsNormalised t) e h) is

    pub term-next : (u : Term) (r : Result Change Failed) → IsNormalised t (Ok u) → Answers (IsBodyChange P c f T u) r → Answers (IsTermChange P c f T t) r
    unfolding IsTermChange
    term-next u r h next = answers-next (IsNormalised t) (IsBodyChange P c f T) u r h next

  module _ (raw : RawTree) where
    pub typed-failed : (e : Failed) (r : Result Change Failed) → Answers {A = Term} (IsTypedTerm (vocabulary P) T raw) (Err e) → IsErrAnd r (λ x. x ≡ e) → Answers (IsTypedChange P c f T raw) r
    unfolding IsTypedChange
    typed-failed e r h is = answers-failed (IsTypedTerm (vocabulary P) T raw) (IsTermChange P c f T) e r (fails-answers (IsTypedTerm (vocabulary P) T raw) e h) is

    pub typed-next : (t : Term) (r : Result Change Failed) → IsTypedTerm (vocabulary P) T raw (Ok t) → Answers (IsTermChange P c f T t) r → Answers (IsTypedChange P c f T raw) r
    unfolding IsTypedChange
    typed-next t r h next = answers-next (IsTypedTerm (vocabulary P) T raw) (IsTermChange P c f T) t r h next

    module _ (x : List ℕ) where
      pub tree-none : {R : Type 0} (seen : R → RawTree) (o : Option R) → o ≡ None → option_map seen o ≡ body_of x raw → Answers (IsTreeChange P x c f T raw) (Err (Refused NotDefinition))
      unfolding IsTreeChange
      tree-none seen o none e =
          let nothing : body_of x raw ≡ None = rw none at (sym e) in
          refuses NotDefinition (subst (λ (b : Option RawTree). Found b NotDefinition (Err NotDefinition)) (sym nothing) refl) refl

      pub tree-next : {R : Type 0} (seen : R → RawTree) (o : Option R) (b : R) (r : Result Change Failed) → o ≡ Some b → option_map seen o ≡ body_of x raw → Answers (IsTypedChange P c f T (seen b)) r → Answers (IsTreeChange P x c f T raw) r
      unfolding IsTreeChange
      tree-next seen o b r some e next =
          let found : body_of x raw ≡ Some (seen b) = rw some at (sym e) in
          answers-next (Found (body_of x raw) NotDefinition) (IsTypedChange P c f T) (seen b) r (subst (λ (d : Option RawTree). Found d NotDefinition (Ok (seen b))) (sym found) refl) next

  module _ (x : List ℕ) (text : Span) where
    pub text-failed : (e : Failed) (r : Result Change Failed) → Answers {A = RawTree} (IsReadTerm P.source text) (Err e) → IsErrAnd r (λ g. g ≡ e) → Answers (IsTextChange P x c f text T) r
    unfolding IsTextChange
    text-failed e r h is = answers-failed (IsReadTerm P.source text) (IsTreeChange P x c f T) e r (fails-answers (IsReadTerm P.source text) e h) is

    pub text-next : (raw : RawTree) (r : Result Change Failed) → IsReadTerm P.source text (Ok raw) → Answers (IsTreeChange P x c f T raw) r → Answers (IsTextChange P x c f text T) r
    unfolding IsTextChange
    text-next raw r h next = answers-next (IsReadTerm P.source text) (IsTreeChange P x c f T) raw r h next

module _ (P : Place) (x : List ℕ) (c f : ℕ) (typ text : Span) where
  pub definition-failed : (e : Failed) (r : Result Change Failed) → Answers {A = Typ} (IsStatedTyp (vocabulary P) P.source typ) (Err e) → IsErrAnd r (λ g. g ≡ e) → Answers (IsNewDefinitionChange P x c f typ text) r
  unfolding IsNewDefinitionChange
  definition-failed e r h is =
      answers-failed (IsStatedTyp (vocabulary P) P.source typ) (λ T. IsTextChange P x c f text T) e r (fails-answers (IsStatedTyp (vocabulary P) P.source typ) e h) is

  pub definition-next : (T : Typ) (r : Result Change Failed) → IsStatedTyp (vocabulary P) P.source typ (Ok T) → Answers (IsTextChange P x c f text T) r → Answers (IsNewDefinitionChange P x c f typ text) r
  unfolding IsNewDefinitionChange
  definition-next T r h next = answers-next (IsStatedTyp (vocabulary P) P.source typ) (λ U. IsTextChange P x c f text U) T r h next

  pub pair-taken : IsTaken P constants c ⊎ IsTaken P facts f → Answers (IsDefinitionChange P x c f typ text) (Err (Refused Duplicate))
  unfolding IsDefinitionChange
  pair-taken taken = holds taken refl

  pub pair-next : (r : Result Change Failed) → (IsTaken P constants c ⊎ IsTaken P facts f → ⊥) → Answers (IsNewDefinitionChange P x c f typ text) r → Answers (IsDefinitionChange P x c f typ text) r
  unfolding IsDefinitionChange
  pair-next r new h = answers-passes (IsTaken P constants c ⊎ IsTaken P facts f) Duplicate (IsNewDefinitionChange P x c f typ text) r new h

pub pair-new : (P : Place) (c f : ℕ) (b : Bool) → IsTrue b ↔ (IsTaken P constants c ⊎ IsTaken P facts f) → b ≡ false → IsNewDefinition P c f
unfolding IsNewDefinition
pair-new P c f b h fails = test_fails (IsTaken P constants c ⊎ IsTaken P facts f) b h fails

-- What is said of an axiom that is declared.
module _ (P : Place) (fact : ℕ) (ds : List Decl) where
  pub axiom-large : (A B : Term) → IsIn (AxiomDecl fact B) ds → ((C : Term) → IsIn (AxiomDecl fact C) ds ↔ (C ≡ A)) → IsLarge A → Answers {A = List ℕ} (Unless (IsLarge B) TooLarge (Gives (stating P B))) (Err (Refused TooLarge))
  axiom-large A B m one large = holds (subst IsLarge (sym ((one B).0 m)) large) refl

  pub axiom-small : (A B : Term) (t : List ℕ) → IsIn (AxiomDecl fact B) ds → ((C : Term) → IsIn (AxiomDecl fact C) ds ↔ (C ≡ A)) → (IsLarge A → ⊥) → t ≡ stating P A → Unless (IsLarge B) TooLarge (Gives (stating P B)) (Ok t)
  axiom-small A B t m one small e =
      let same : B ≡ A = (one B).0 m in
      passes (λ large. small (subst IsLarge same large)) (subst (λ (C : Term). Gives (stating P C) (Ok t)) (sym same) (ap (λ (u : List ℕ). Ok u) e))

  pub axiom-wanting : (A B : Term) (r : Result (List ℕ) Failed) → IsErrAnd r (λ e. e ≡ Memory) → Answers (Unless (IsLarge B) TooLarge (Gives (stating P B))) r
  axiom-wanting A B r is = answers-memory (Unless (IsLarge B) TooLarge (Gives (stating P B))) r is

module _ (P : Place) (c f : ℕ) (Q : Content) (T : Typ) (b : Term) (next : Q ≡ with_declarations P.content (P.content.declarations ++ definition c f T b)) where
  -- The axiom of a definition is declared.
  pub axiom-declared : IsIn (AxiomDecl f (defining c T b)) Q.declarations
  axiom-declared = subst (λ (S : Content). IsIn (AxiomDecl f (defining c T b)) S.declarations) (sym next)
      (in-append_right (AxiomDecl f (defining c T b)) P.content.declarations (definition c f T b) (inr (inl refl)))

  abbrev erring : Reason → Result Change Reason
  erring reason = Err reason

  abbrev Says : Result (List ℕ) Reason → Type 0
  Says = Unless (IsLarge (defining c T b)) TooLarge (Gives (stating P (defining c T b)))

  abbrev Declares : Result Change Reason → Type 0
  Declares = Unless (IsLarge (defining c T b)) TooLarge (Gives (declaring_definition P c f T b))

  as-change : (t : List ℕ) (d : Change) → Says (Ok t) → d ≡ record { tail = t; next = Q } → Declares (Ok d)
  as-change t d (holds large e) is = absurd (cc)
  as-change t d (passes small e) is = passes small (said t d e is)
    where
      said : (u : List ℕ) (d : Change) → Gives (stating P (defining c T b)) (Ok u) → d ≡ record { tail = u; next = Q } → Gives (declaring_definition P c f T b) (Ok d)
      said u d e is =
          let tail : u ≡ stating P (defining c T b) = cc in
          ap (λ (x : Change). Ok x) (subst (λ (S : Content). d ≡ record { tail = stating P (defining c T b); next = S }) next (subst (λ (v : List ℕ). d ≡ record { tail = v; next = Q }) tail is))

  as-failure : (e : Failed) → Answers Says (Err e) → Answers Declares (Err e)
  as-failure (Refused reason) (holds large e) = let same : reason ≡ TooLarge = cc in holds large (ap erring same)
  as-failure (Refused reason) (passes small e) = absurd (cc)
  as-failure Memory h = tt

  pub made-change : (t : List ℕ) (d : Change) → ((B : Term) → IsIn (AxiomDecl f B) Q.declarations → Answers (Unless (IsLarge B) TooLarge (Gives (stating P B))) (Ok t)) → d ≡ record { tail = t; next = Q } → Answers Declares (Ok d)
  made-change t d h is = as-change t d (h (defining c T b) axiom-declared) is

  pub failed-change : (e : Failed) (r : Result Change Failed) → ((B : Term) → IsIn (AxiomDecl f B) Q.declarations → Answers {A = List ℕ} (Unless (IsLarge B) TooLarge (Gives (stating P B))) (Err e)) → IsErrAnd r (λ x. x ≡ e) → Answers Declares r
  failed-change e (Ok d) h is = absurd is
  failed-change e (Err g) h is = subst (λ (x : Failed). Answers Declares (Err x)) (sym is) (as-failure e (h (defining c T b) axiom-declared))
