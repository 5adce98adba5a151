-- Where `?P` is derivable alone, every proposition is.
use Rattle.std.proofs.Common.{◌↔◌, []}
use Rattle.pure_definitions.specs.Types.Typ.{prop}
use Rattle.pure_definitions.specs.Terms.Term.{Term}
use Rattle.pure_term_laws.specs.LawsMaps.{sent}
use Rattle.pure_logic.specs.Content.{Content, IsContent, IsBelow, IsProposition}
use Rattle.pure_logic.specs.PureContent.{pure_content, proposition_variable}
use Rattle.pure_logic.specs.Derivable.{IsDerivableAlone}
use Rattle.pure_logic.specs.Laws.Derivable.{IsConsistent}
use Rattle.pure_logic.proofs.ChainLaws.{variable_is_proposition}
use Rattle.pure_logic.proofs.AboveLaws.{certified_of-above}
use Rattle.pure_logic.proofs.MapLaws.{identity_respects, sent-respects}
use Rattle.pure_logic.proofs.SubstitutionLaws.{instance_is_derivable}

everything_follows : (Q : Content) → IsContent Q → IsDerivableAlone Q (proposition_variable 0) → (A : Term) → IsProposition Q A → IsDerivableAlone Q A
everything_follows Q q h A proposition =
    instance_is_derivable Q q (λ T. T) (sent (proposition_variable 0) A (λ t. t)) (sent-respects Q (λ T. T) (λ t. t) (proposition_variable 0) A (identity_respects Q) proposition)
    (record { hyps = []; pairs = []; prop = proposition_variable 0; rests = [] }) h

pub consistent_exactly : (Q : Content) → IsContent Q → IsBelow pure_content Q → IsConsistent Q ↔ ((A : Term) × IsProposition Q A × ¬ IsDerivableAlone Q A)
consistent_exactly Q q above = (
  λ consistent. (proposition_variable 0, certified_of-above pure_content Q above (proposition_variable 0) prop (variable_is_proposition 0), consistent),
  λ some h. some.2 (everything_follows Q q h some.0 some.1),
)
