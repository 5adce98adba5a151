-- Laws of reduction: a term is equated with what it reduces to, with its normal forms and with its long form.
use Rattle.std.specs.Prelude.{◌≡◌, List, [], Some}
use Rattle.pure_text.specs.Lists.{Each}
use Rattle.pure_definitions.specs.Types.Typ.{Typ}
use Rattle.pure_definitions.specs.Terms.Term.{Term}
use Rattle.pure_definitions.specs.Terms.Typing.{HasType}
use Rattle.pure_definitions.specs.Declarations.Decl.{Decl}
use Rattle.pure_definitions.specs.Declarations.Certified.{IsCertifiedTyp, HasCertifiedParts}
use Rattle.pure_definitions.specs.Reduction.Beta.{beta_step, IsBetaSequence, IsBetaAnswer, NormalForm}
use Rattle.pure_definitions.specs.Reduction.Eta.{EtaStep, EtaReduces, IsEtaNormalForm, IsLongForm}
use Rattle.pure_logic.specs.Content.{Content, IsBelow}
use Rattle.pure_logic.specs.PureContent.{pure_content}
use Rattle.pure_logic.specs.Derivable.{Pair}
use Rattle.pure_equation_laws.specs.Equated.{IsTypedUnder, AreEquated}

-- Modulo any pairs, a typed term with certified parts is equated with each term to which it is related.
abbrev pub RelatedAreEquated : (Term → Term → Type 0) → Type 0
RelatedAreEquated R = (ds : List Decl) (pairs : List Pair) (bs : List Typ) (T : Typ) (t u : Term) → IsTypedUnder ds bs t T → R t u → AreEquated ds pairs bs T t u

-- A beta step in normal order; a sequence of them; and the beta normal form.
abbrev pub BetaStepIsEquated : Type 0
BetaStepIsEquated = RelatedAreEquated (λ t u. beta_step t ≡ Some u)

abbrev pub BetaSequenceIsEquated : Type 0
BetaSequenceIsEquated = (us : List Term) → RelatedAreEquated (λ t u. IsBetaSequence t us u)

abbrev pub BetaNormalFormIsEquated : Type 0
BetaNormalFormIsEquated = RelatedAreEquated (λ t u. IsBetaAnswer t (NormalForm u))

-- An eta step, wherever it is taken; any number of them; and the eta-normal form.
abbrev pub EtaStepIsEquated : Type 0
EtaStepIsEquated = RelatedAreEquated EtaStep

abbrev pub EtaReductIsEquated : Type 0
EtaReductIsEquated = RelatedAreEquated EtaReduces

abbrev pub EtaNormalFormIsEquated : Type 0
EtaNormalFormIsEquated = RelatedAreEquated IsEtaNormalForm

-- Over a content above Pure's, read backwards: a term of the type that reduces by eta steps to one with certified parts is equated with it, since the types of its further binders are parts of the types of functions in the reduct.
abbrev pub EtaExpansionIsEquated : Type 0
EtaExpansionIsEquated = (Q : Content) → IsBelow pure_content Q → (pairs : List Pair) (bs : List Typ) (T : Typ) (t u : Term) → Each (IsCertifiedTyp Q.declarations) bs
    → HasCertifiedParts Q.declarations t → HasType bs u T → EtaReduces u t → AreEquated Q.declarations pairs bs T t u

-- So the long form of a certified term is equated with it.
abbrev pub LongFormIsEquated : Type 0
LongFormIsEquated = (Q : Content) → IsBelow pure_content Q → (pairs : List Pair) (T : Typ) (t u : Term) → IsTypedUnder Q.declarations [] t T → IsLongForm t u → AreEquated Q.declarations pairs [] T t u
