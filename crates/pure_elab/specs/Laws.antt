-- Laws of elaboration: one answer, and what the answers mean apart from the procedure.
use Rattle.std.specs.Prelude.{◌≡◌, ◌≢◌, ◌⊎◌, ℕ, List, [], map, Result, Ok, Err}
use Rattle.pure_text.specs.Lists.{Each}
use Rattle.pure_definitions.specs.Types.Typ.{Typ}
use Rattle.pure_definitions.specs.Terms.Term.{Term, IsWithin}
use Rattle.pure_definitions.specs.Terms.Typing.{HasType}
use Rattle.pure_definitions.specs.Terms.Subst.{inst_typ, typ_instance}
use Rattle.pure_order.specs.OrderTables.Classes.{IsAntisymmetric}
use Rattle.pure_tunify.specs.Unifiers.{Equates}
use Rattle.pure_tunify.specs.ProcedureLaws.{IsBeyond}
use Rattle.pure_grammar.specs.Terms.RawTree.{RawTypTree, RawTree}
use Rattle.pure_elab.specs.declared.fault.FaultAt.{FaultAt}
use Rattle.pure_elab.specs.declared.fault.ElabFault.{ElabFault}
use Rattle.pure_elab.specs.declared.fault.ElabFault.TheVariants.{IllTyped, Big, Memory}
use Rattle.pure_definitions.specs.Declarations.Certified.{IsCertifiedTyp}
use Rattle.pure_logic.specs.Content.{Content, IsContent, IsBelow, IsCertifiedOf}
use Rattle.pure_logic.specs.PureContent.{pure_content}
use Rattle.pure_lookup.specs.Laws.{IsInSession}
use Rattle.pure_elab.specs.Sound.{IsSoundVocabulary, AreCertifiedDeclarations}
use Rattle.pure_elab.specs.Found.{vocabulary_of}
use Rattle.pure_elab.specs.Vocabulary.{Vocabulary, IsVocabulary}
use Rattle.pure_elab.specs.Faults.{IsEarliest}
use Rattle.pure_elab.specs.Numbered.{with_fixed}
use Rattle.pure_elab.specs.Drafts.{Binder, Draft, Constraint, draft, pair_of}
use Rattle.pure_elab.specs.Typings.{fresh_index, IsMostGeneralTyping, IsFirstFailure}
use Rattle.pure_elab.specs.Answers.{IsFixedTyp, IsDraftOf, IsElaborated, IsElabFault, IsElaboratedTyp, IsElabTypFault}

-- the answer to a text at a type
abbrev pub IsElabAnswer : Vocabulary → RawTree → Typ → Result Term ElabFault → Type 0
IsElabAnswer V raw T (Ok t) = IsElaborated V raw T t
IsElabAnswer V raw T (Err fault) = IsElabFault V raw T fault

-- the answer to the text of a type
abbrev pub IsElabTypAnswer : Vocabulary → RawTypTree → Result Typ ElabFault → Type 0
IsElabTypAnswer V raw (Ok T) = IsElaboratedTyp V raw T
IsElabTypAnswer V raw (Err fault) = IsElabTypFault V raw fault

-- One fault of names decides at most.
abbrev pub OneNameFault : Type 0
OneNameFault = (faults : List FaultAt) (f g : FaultAt) → IsEarliest faults f → IsEarliest faults g → f ≡ g

-- A text has one answer at most, beside want of memory.
abbrev pub OneElabAnswer : Type 0
OneElabAnswer = (V : Vocabulary) → IsAntisymmetric V.algebra → (raw : RawTree) (T : Typ) (a b : Result Term ElabFault) → IsElabAnswer V raw T a → IsElabAnswer V raw T b → a ≢ Err Memory → b ≢ Err Memory → a ≡ b

abbrev pub OneElabTypAnswer : Type 0
OneElabTypAnswer = (V : Vocabulary) → (raw : RawTypTree) (a b : Result Typ ElabFault) → IsElabTypAnswer V raw a → IsElabTypAnswer V raw b → a ≢ Err Memory → b ≢ Err Memory → a ≡ b

-- Under each solution of its constraints a draft has its type, under binders of their types.
abbrev pub DraftIsTyped : Type 0
DraftIsTyped = (V : Vocabulary) (sorts : ℕ → List ℕ) (binders : List Binder) (raw : RawTree) (next : ℕ) (typs : Typ → Typ)
    → let d = draft V sorts binders raw next in
    Each (λ c. Equates typs (pair_of c)) d.constraints → HasType (map (λ b. typ_instance typs b.typ) binders) (inst_typ typs d.term) (typ_instance typs d.typ)

-- The answer is the text's draft under a most general typing, with the unknowns that are left made fixed, and it has the type that it has to have.
pub record IsMostGeneralTerm (V : Vocabulary) (raw : RawTree) (T : Typ) (t : Term) : Type 0 where
  pub draft : Draft
  pub of_text : IsDraftOf V raw T draft
  pub typing : Typ → Typ
  pub general : IsMostGeneralTyping V.algebra draft.constraints typing
  pub is : t ≡ with_fixed V.fresh (inst_typ typing draft.term)
  pub typed : HasType [] t T

abbrev pub AnswerIsMostGeneral : Type 0
AnswerIsMostGeneral = (V : Vocabulary) (raw : RawTree) (T : Typ) (t : Term) → IsFixedTyp T → IsElaborated V raw T t → IsMostGeneralTerm V raw T t

-- Typing fails at the first constraint such that it and those before have no common solution.
pub record HasFirstFailureAt (V : Vocabulary) (raw : RawTree) (T : Typ) (at : ℕ) : Type 0 where
  pub draft : Draft
  pub of_text : IsDraftOf V raw T draft
  pub constraint : Constraint
  pub first : IsFirstFailure V.algebra draft.constraints constraint
  pub place : at ≡ constraint.at

abbrev pub IllTypedAtFirstFailure : Type 0
IllTypedAtFirstFailure = (V : Vocabulary) (raw : RawTree) (T : Typ) (at : ℕ) → IsFixedTyp T → IsElabFault V raw T (IllTyped at) → HasFirstFailureAt V raw T at

-- The most general typing of all constraints makes a term that isn't within the limits.
pub record IsTermBeyond (V : Vocabulary) (d : Draft) : Type 0 where
  pub typing : Typ → Typ
  pub general : IsMostGeneralTyping V.algebra d.constraints typing
  pub beyond : ¬ IsWithin (inst_typ typing d.term)

-- The text is too large: the term under a most general typing is, or at some constraint the most general typing of it and those before passes the limits of type unification, where those before have one within them.
pub record IsBeyondLimits (V : Vocabulary) (raw : RawTree) (T : Typ) : Type 0 where
  pub draft : Draft
  pub of_text : IsDraftOf V raw T draft
  pub reason : IsTermBeyond V draft ⊎ ((k : ℕ) × IsBeyond V.algebra fresh_index 0 (map pair_of draft.constraints) k)

abbrev pub BigIsBeyondLimits : Type 0
BigIsBeyondLimits = (V : Vocabulary) (raw : RawTree) (T : Typ) → IsFixedTyp T → IsElabFault V raw T Big → IsBeyondLimits V raw T

-- Over a sound vocabulary the answer is certified, of the type that it has to have.
abbrev pub AnswerIsCertified : Type 0
AnswerIsCertified = (Q : Content) (V : Vocabulary) → IsSoundVocabulary Q.declarations V → (raw : RawTree) (T : Typ) (t : Term) → IsFixedTyp T → IsCertifiedTyp Q.declarations T → IsElaborated V raw T t → IsCertifiedOf Q t T

-- The vocabulary of a content above Pure's whose declarations are certified is sound.
abbrev pub VocabularyIsSound : Type 0
VocabularyIsSound = (texts : List (List ℕ)) (Q : Content) (V : Vocabulary) → IsVocabulary texts Q V → IsBelow pure_content Q → AreCertifiedDeclarations Q.declarations → IsSoundVocabulary Q.declarations V

-- In a session each content has a vocabulary, the one that is computed from its declarations and the texts of names.
abbrev pub ContentHasVocabulary : Type 0
ContentHasVocabulary = (texts : List (List ℕ)) (Q : Content) → IsInSession texts Q → IsContent Q → IsVocabulary texts Q (vocabulary_of texts Q)
