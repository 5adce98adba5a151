-- Texts over the vocabulary of a place.
use Rattle.std.proofs.Common.{◌≡◌, ℕ, List, [], ◌∷◌, sym, subst}
use Rattle.std.specs.Prelude.{Result, Ok, Err, IfOk}
use Rattle.pure_text.specs.Lists.{IsIn, Each}
use Rattle.pure_text.proofs.ListLaws.{each_at}
use Rattle.pure_definitions.specs.Types.Typ.{Typ}
use Rattle.pure_definitions.specs.Terms.Term.{Term}
use Rattle.pure_definitions.specs.Declarations.Decl.{Decl, ArityDecl, ConstDecl, ClassDecl, IsDeclaredClass}
use Rattle.pure_definitions.specs.Declarations.Certified.{IsCertifiedTyp, IsCertifiedSort}
use Rattle.pure_grammar.specs.Theories.TheoryText.{Span}
use Rattle.pure_logic.specs.Content.{Content, IsContent, IsCertifiedOf, IsStatement}
use Rattle.pure_lookup.specs.Laws.{IsInSession}
use Rattle.pure_theory.specs.Stage.{IsSound, IsCertifiedDecl}
use Rattle.pure_elab.specs.Sound.{IsSoundVocabulary, AreCertifiedDeclarations}
use Rattle.pure_elab.specs.Found.{vocabulary_of}
use Rattle.pure_elab.proofs.FoundLaws.{content_has_vocabulary}
use Rattle.pure_elab.proofs.VocabularyLaws.{vocabulary_is_sound}
use Rattle.pure_statements.specs.declared.reason.Failed.{Failed}
use Rattle.pure_statements.specs.declared.stated.Stated.{Stated}
use Rattle.pure_statements.specs.Chain.{Answers}
use Rattle.pure_statements.specs.Statement.{IsStated, IsStatedTyp}
use Rattle.pure_declare.specs.Named.{Named}
use Rattle.pure_declare.specs.Commands.{Place, vocabulary}

certified-typs : (Q : Content) → IsSound Q → (c : ℕ) (T : Typ) → IsIn (ConstDecl c T) Q.declarations → IsCertifiedTyp Q.declarations T
certified-typs Q s c T m = each_at (IsCertifiedDecl Q.declarations) Q.declarations s.certified (ConstDecl c T) m

sorts-declared : (ds : List Decl) (ss : List (List ℕ)) → Each (IsCertifiedSort ds) ss → Each (Each (IsDeclaredClass ds)) ss
sorts-declared ds [] h = tt
sorts-declared ds (s ∷ ss) h = (h.0.1, sorts-declared ds ss h.1)

pub certified-declarations : (Q : Content) → IsSound Q → AreCertifiedDeclarations Q.declarations
certified-declarations Q s = record {
  constants = certified-typs Q s;
  inclusions = λ k m. each_at (IsCertifiedDecl Q.declarations) Q.declarations s.certified (ClassDecl k) m;
  classes = λ a m. (each_at (IsCertifiedDecl Q.declarations) Q.declarations s.certified (ArityDecl a) m).class;
  domains = λ a m. sorts-declared Q.declarations a.domains (each_at (IsCertifiedDecl Q.declarations) Q.declarations s.certified (ArityDecl a) m).domains;
}

-- The vocabulary of a sound content is sound.
pub sound-vocabulary : (texts : List (List ℕ)) (Q : Content) → IsInSession texts Q → IsSound Q → IsSoundVocabulary Q.declarations (vocabulary_of texts Q)
sound-vocabulary texts Q session s = vocabulary_is_sound texts Q (vocabulary_of texts Q) (content_has_vocabulary texts Q session s.content) s.above_pure (certified-declarations Q s)

module _ (P : Place) (n : Named) (at_place : n ≡ record { texts = P.texts; content = P.content }) where
  pub stated-at : (s : List ℕ) (span : Span) (r : Result Stated Failed) → s ≡ P.source → Answers (IsStated (vocabulary_of n.texts n.content) s span) r → Answers (IsStated (vocabulary P) P.source span) r
  stated-at s span r source h =
      subst (λ (m : Named). Answers (IsStated (vocabulary_of m.texts m.content) P.source span) r) at_place
      (subst (λ (x : List ℕ). Answers (IsStated (vocabulary_of n.texts n.content) x span) r) source h)

  pub typ-at : (s : List ℕ) (span : Span) (r : Result Typ Failed) → s ≡ P.source → Answers (IsStatedTyp (vocabulary_of n.texts n.content) s span) r → Answers (IsStatedTyp (vocabulary P) P.source span) r
  typ-at s span r source h =
      subst (λ (m : Named). Answers (IsStatedTyp (vocabulary_of m.texts m.content) P.source span) r) at_place
      (subst (λ (x : List ℕ). Answers (IsStatedTyp (vocabulary_of n.texts n.content) x span) r) source h)

  module _ (session : IsInSession P.texts P.content) (sound : IsSound P.content) where
    sound-at : IsSoundVocabulary P.content.declarations (vocabulary_of n.texts n.content)
    sound-at = subst (λ (m : Named). IsSoundVocabulary P.content.declarations (vocabulary_of m.texts m.content)) (sym at_place) (sound-vocabulary P.texts P.content session sound)

    pub statement-at : (r : Result Stated Failed) → IfOk r (λ s. (Q : Content) → IsContent Q → IsSoundVocabulary Q.declarations (vocabulary_of n.texts n.content) → IsStatement Q s.prop) → IfOk r (λ s. IsStatement P.content s.prop)
    statement-at (Ok s) h = h P.content sound.content sound-at
    statement-at (Err f) h = tt

    pub certified_typ-at : (r : Result Typ Failed) → IfOk r (λ t. (Q : Content) → IsSoundVocabulary Q.declarations (vocabulary_of n.texts n.content) → IsCertifiedTyp Q.declarations t) → IfOk r (IsCertifiedTyp P.content.declarations)
    certified_typ-at (Ok t) h = h P.content sound-at
    certified_typ-at (Err f) h = tt

    pub certified_term-at : (T : Typ) (r : Result Term Failed) → IsCertifiedTyp P.content.declarations T
        → IfOk r (λ t. (Q : Content) → IsSoundVocabulary Q.declarations (vocabulary_of n.texts n.content) → IsCertifiedTyp Q.declarations T → IsCertifiedOf Q t T) → IfOk r (λ t. IsCertifiedOf P.content t T)
    certified_term-at T (Ok t) certified h = h P.content sound-at certified
    certified_term-at T (Err f) certified h = tt
