-- Classes, type constructors, constants and axioms, step by step.
use Rattle.std.proofs.Common.{◌≡◌, ℕ, List, [], refl, ap}
use Rattle.std.specs.Prelude.{Result, Ok, Err, IsErrAnd}
use Rattle.pure_definitions.specs.Types.Typ.{Typ}
use Rattle.pure_definitions.specs.Terms.Subst.{typ_instance}
use Rattle.pure_definitions.specs.Declarations.Decl.{ClassDecl, ConDecl}
use Rattle.pure_definitions.specs.Declarations.Certified.{IsCertifiedTyp}
use Rattle.pure_grammar.specs.Theories.TheoryText.{Span}
use Rattle.pure_logic.specs.Content.{Content, IsSchematicTyp, schematic_typ_variable}
use Rattle.pure_lookup.specs.Meaning.{classes, constructors, constants, facts}
use Rattle.pure_statements.specs.declared.reason.Reason.{Reason}
use Rattle.pure_statements.specs.declared.reason.Reason.TheVariants.{Duplicate}
use Rattle.pure_statements.specs.declared.reason.Failed.{Failed}
use Rattle.pure_statements.specs.declared.reason.Failed.TheVariants.{Refused, Memory}
use Rattle.pure_statements.specs.declared.stated.Stated.{Stated}
use Rattle.pure_statements.specs.Chain.{Then, Gives, Answers, FailsAs, goes_on, holds, passes}
use Rattle.pure_statements.specs.Statement.{IsStated, IsStatedTyp}
use Rattle.pure_statements.proofs.ChainLaws.{answers-failed, answers-memory, answers-passes, fails-answers}
use Rattle.pure_statements.proofs.SchematicLaws.{certified-schematic, schematic-typ}
use Rattle.pure_declare.specs.Notes.{Change}
use Rattle.pure_declare.specs.Commands.{Place, vocabulary, IsTaken, declaring, declaring_const, declaring_axiom, IsNewClassChange, IsClassChange, IsTypeChange, IsNewConstChange, IsConstChange, IsAxiomChange}
use Rattle.pure_declare.specs.Lookups.{AreWritten, AreWrittenClasses}

-- an answer that gives this
gives : (c d : Change) → c ≡ d → Gives d (Ok c)
gives c d e = ap (λ (x : Change). Ok x) e

module _ (P : Place) (n : ℕ) where
  module _ (above : List (List ℕ)) where
    pub class-duplicate : IsTaken P classes n → Answers (IsClassChange P n above) (Err (Refused Duplicate))
    unfolding IsClassChange
    class-duplicate taken = holds taken refl

    pub class-next : (r : Result Change Failed) → (IsTaken P classes n → ⊥) → Answers (IsNewClassChange P n above) r → Answers (IsClassChange P n above) r
    unfolding IsClassChange
    class-next r new h = answers-passes (IsTaken P classes n) Duplicate (IsNewClassChange P n above) r new h

    pub class-failed : (f : Failed) (r : Result Change Failed) → FailsAs (AreWrittenClasses (vocabulary P) above) f → IsErrAnd r (λ e. e ≡ f) → Answers (IsNewClassChange P n above) r
    unfolding IsNewClassChange
    class-failed f r h e = answers-failed (AreWrittenClasses (vocabulary P) above) (λ cs. Gives (declaring P [] (ClassDecl (record { name = n; above = cs })))) f r h e

    pub class-memory : (r : Result Change Failed) → IsErrAnd r (λ e. e ≡ Memory) → Answers (IsNewClassChange P n above) r
    class-memory r e = answers-memory (IsNewClassChange P n above) r e

    pub class-made : (cs ds : List ℕ) (c : Change) → AreWritten (vocabulary P) above cs → ds ≡ cs → c ≡ declaring P [] (ClassDecl (record { name = n; above = ds })) → IsNewClassChange P n above (Ok c)
    unfolding IsNewClassChange
    class-made cs ds c h same e = goes_on cs h (gives c _ (rw (← same) e))

  module _ (params : ℕ) where
    pub typ-duplicate : IsTaken P constructors n → Answers (IsTypeChange P n params) (Err (Refused Duplicate))
    unfolding IsTypeChange
    typ-duplicate taken = holds taken refl

    pub typ-memory : (r : Result Change Failed) → IsErrAnd r (λ e. e ≡ Memory) → Answers (IsTypeChange P n params) r
    typ-memory r e = answers-memory (IsTypeChange P n params) r e

    pub typ-made : (c : Change) → (IsTaken P constructors n → ⊥) → c ≡ declaring P [] (ConDecl n params) → IsTypeChange P n params (Ok c)
    unfolding IsTypeChange
    typ-made c new e = passes new (gives c (declaring P [] (ConDecl n params)) e)

  module _ (span : Span) where
    pub const-duplicate : IsTaken P constants n → Answers (IsConstChange P n span) (Err (Refused Duplicate))
    unfolding IsConstChange
    const-duplicate taken = holds taken refl

    pub const-next : (r : Result Change Failed) → (IsTaken P constants n → ⊥) → Answers (IsNewConstChange P n span) r → Answers (IsConstChange P n span) r
    unfolding IsConstChange
    const-next r new h = answers-passes (IsTaken P constants n) Duplicate (IsNewConstChange P n span) r new h

    pub const-failed : (f : Failed) (r : Result Change Failed) → Answers {A = Typ} (IsStatedTyp (vocabulary P) P.source span) (Err f) → IsErrAnd r (λ e. e ≡ f) → Answers (IsNewConstChange P n span) r
    unfolding IsNewConstChange
    const-failed f r h e =
        answers-failed (IsStatedTyp (vocabulary P) P.source span) (λ T. Gives (declaring_const P n T)) f r (fails-answers (IsStatedTyp (vocabulary P) P.source span) f h) e

    pub const-memory : (r : Result Change Failed) → IsErrAnd r (λ e. e ≡ Memory) → Answers (IsNewConstChange P n span) r
    const-memory r e = answers-memory (IsNewConstChange P n span) r e

    pub const-made : (T : Typ) (c : Change) → IsStatedTyp (vocabulary P) P.source span (Ok T) → c ≡ declaring_const P n T → IsNewConstChange P n span (Ok c)
    unfolding IsNewConstChange
    const-made T c h e = goes_on T h (gives c (declaring_const P n T) e)

    pub axiom-duplicate : IsTaken P facts n → Answers (IsAxiomChange P n span) (Err (Refused Duplicate))
    unfolding IsAxiomChange
    axiom-duplicate taken = holds taken refl

    -- what an axiom of a new name does
    abbrev pub NewAxiom : Result Change Reason → Type 0
    NewAxiom = Then (IsStated (vocabulary P) P.source span) (λ s. Gives (declaring_axiom P n s.prop))

    pub axiom-next : (r : Result Change Failed) → (IsTaken P facts n → ⊥) → Answers NewAxiom r → Answers (IsAxiomChange P n span) r
    unfolding IsAxiomChange
    axiom-next r new h = answers-passes (IsTaken P facts n) Duplicate NewAxiom r new h

    pub axiom-failed : (f : Failed) (r : Result Change Failed) → Answers {A = Stated} (IsStated (vocabulary P) P.source span) (Err f) → IsErrAnd r (λ e. e ≡ f) → Answers NewAxiom r
    axiom-failed f r h e = answers-failed (IsStated (vocabulary P) P.source span) (λ s. Gives (declaring_axiom P n s.prop)) f r (fails-answers (IsStated (vocabulary P) P.source span) f h) e

    pub axiom-memory : (r : Result Change Failed) → IsErrAnd r (λ e. e ≡ Memory) → Answers NewAxiom r
    axiom-memory r e = answers-memory NewAxiom r e

    pub axiom-made : (s : Stated) (c : Change) → IsStated (vocabulary P) P.source span (Ok s) → c ≡ declaring_axiom P n s.prop → NewAxiom (Ok c)
    axiom-made s c h e = goes_on s h (gives c (declaring_axiom P n s.prop) e)

-- A type with its type variables made schematic is certified and schematic.
pub made-certified : (Q : Content) (T U : Typ) → U ≡ typ_instance schematic_typ_variable T → IsCertifiedTyp Q.declarations T → IsCertifiedTyp Q.declarations U
made-certified Q T U same h = rw same (certified-schematic Q T h)

pub made-schematic : (T U : Typ) → U ≡ typ_instance schematic_typ_variable T → IsSchematicTyp U
made-schematic T U same = rw same (schematic-typ T)
