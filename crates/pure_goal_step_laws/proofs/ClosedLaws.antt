-- What is a proposition behind a prefix is certified below abstractions over its parameters; and rules lifted over a prefix are propositions behind it.
use Rattle.std.proofs.Common.{◌≡◌, List, [], ◌∷◌, ◌++◌, map, refl, sym, subst}
use Rattle.pure_text.specs.Lists.{Each}
use Rattle.pure_definitions.specs.Names.{Label}
use Rattle.pure_definitions.specs.Types.Typ.{Typ, arrow, prop}
use Rattle.pure_definitions.specs.Terms.Term.{Term}
use Rattle.pure_definitions.specs.Terms.Typing.{HasType}
use Rattle.pure_definitions.specs.Declarations.Decl.{Decl}
use Rattle.pure_definitions.specs.Declarations.Certified.{HasCertifiedParts}
use Rattle.pure_logic.specs.Connectives.{all_typ, imp_typ, chain}
use Rattle.pure_logic.specs.Content.{Content, IsContent, IsBelow, IsProposition}
use Rattle.pure_logic.specs.PureContent.{pure_content}
use Rattle.pure_logic.specs.Proves.{Proves}
use Rattle.pure_logic.proofs.ProvesLaws.{proved_is_proposition}
use Rattle.pure_equation_laws.specs.Equated.{IsTypedUnder}
use Rattle.pure_goal_laws.specs.Prefix.{Item, Parameter, Hypothesis, behind, parameters, below_parameters}
use Rattle.pure_goal_laws.specs.Lifting.{function_typ, lifted_behind}
use Rattle.pure_goal_laws.proofs.PrefixLaws.{behind-append, premise_behind, conclusion_behind}
use Rattle.pure_goal_laws.proofs.LiftingLaws.{lifted_rule}

module _ (ds : List Decl) where
  closed-parts : (ps : List Item) (X : Term) → HasCertifiedParts ds (behind ps X) → HasCertifiedParts ds (below_parameters ps X)
  closed-parts [] X h = h
  closed-parts (Parameter T ∷ ps) X h = (h.1.0, closed-parts ps X h.1.1)
  closed-parts (Hypothesis A ∷ ps) X h = closed-parts ps X h.1

closed-typed : (bs : List Typ) (ps : List Item) (X : Term) → HasType bs (behind ps X) prop → HasType bs (below_parameters ps X) (function_typ (parameters ps) prop)
closed-typed bs [] X h = h
closed-typed bs (Parameter T ∷ ps) X h =
    let connective : all_typ T ≡ arrow h.0 prop = h.1 in
    let body : arrow T h.2.0 ≡ h.0 = h.2.2 in
    let domain : arrow T prop ≡ h.0 = cc in
    let same : h.2.0 ≡ prop = cc in
    (function_typ (parameters ps) prop, closed-typed (T ∷ bs) ps X (subst (λ (U : Typ). HasType (T ∷ bs) (behind ps X) U) same h.2.1), refl)
closed-typed bs (Hypothesis A ∷ ps) X h =
    let connective : imp_typ ≡ arrow h.1.0 (arrow h.0 prop) = h.1.1 in
    let same : h.0 ≡ prop = cc in
    closed-typed bs ps X (subst (λ (U : Typ). HasType bs (behind ps X) U) same h.2)

pub closed_typed : (Q : Content) (ps : List Item) (X : Term) → IsProposition Q (behind ps X) → (T : Typ) × IsTypedUnder Q.declarations [] (below_parameters ps X) T
closed_typed Q ps X h = (function_typ (parameters ps) prop, record { parts = closed-parts Q.declarations ps X h.certified.parts; typed = closed-typed [] ps X h.typed })

module _ (Q : Content) (q : IsContent Q) (above : IsBelow pure_content Q) where
  end-proposition : (As : List Term) (G : Term) → IsProposition Q (chain As G) → IsProposition Q G
  end-proposition [] G h = h
  end-proposition (A ∷ As) G h = end-proposition As G (conclusion_behind Q [] A (chain As G) h)

  chain-propositions : (As : List Term) (G : Term) → IsProposition Q (chain As G) → Each (IsProposition Q) As
  chain-propositions [] G h = tt
  chain-propositions (A ∷ As) G h = (premise_behind Q [] A (chain As G) h, chain-propositions As G (conclusion_behind Q [] A (chain As G) h))

  -- A rule lifted over the prefix of a proposition.
  pub record IsLiftedRule (ps : List Item) (As : List Term) (B : Term) : Type 0 where
    pub premises : Each (IsProposition Q) (map (λ A. behind ps (lifted_behind ps A)) As)
    pub conclusion : IsProposition Q (behind ps (lifted_behind ps B))

  pub lifted_propositions : (rests : List Label) (ps : List Item) (D : Term) (As : List Term) (B : Term) → IsProposition Q (behind ps D) → Proves Q [] rests (chain As B) → IsLiftedRule ps As B
  lifted_propositions rests ps D As B h r =
      let premises : List Term = map (λ A. behind ps (lifted_behind ps A)) As in
      let conclusion : Term = behind ps (lifted_behind ps B) in
      let whole = proved_is_proposition Q q above [] rests (chain premises conclusion) (lifted_rule Q q above [] rests ps D As B h r) in
      record { premises = chain-propositions premises conclusion whole; conclusion = end-proposition premises conclusion whole }

  -- A hypothesis left out of the prefix.
  pub without_hypothesis : (before : List Item) (H : Term) (after : List Item) (C : Term) → IsProposition Q (behind (before ++ Hypothesis H ∷ after) C) → IsProposition Q (behind (before ++ after) C)
  without_hypothesis before H after C h =
      subst (IsProposition Q) (sym (behind-append before after C)) (conclusion_behind Q before H (behind after C) (subst (IsProposition Q) (behind-append before (Hypothesis H ∷ after) C) h))
