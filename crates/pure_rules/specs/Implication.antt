-- Assumption and implication: what they give, and when they are refused. In the figures H and K are hypotheses.
use Rattle.std.specs.Prelude.{◌≡◌, ◌≢◌, [], ◌∷◌}
use Rattle.pure_definitions.specs.Types.Typ.{prop}
use Rattle.pure_definitions.specs.Terms.Term.{Term}
use Rattle.pure_definitions.specs.Terms.Typing.{HasType}
use Rattle.pure_logic.specs.Connectives.{imp}
use Rattle.pure_logic.specs.Derivable.{Theorem}
use Rattle.pure_logic.specs.Tree.{without}
use Rattle.pure_theorem.specs.Answer.{IsJoined}
use Rattle.pure_theorem.specs.Shapes.{IsNoImplication}
use Rattle.pure_theorem.specs.declared.fault.RuleFault.{RuleFault}
use Rattle.pure_theorem.specs.declared.fault.RuleFault.TheVariants.{NotProp, NotImplies, PremiseDiffers}

-- ------- A of type prop
--  A |- A
abbrev pub GivesAssume : Term → Theorem → Type 0
GivesAssume A th = HasType [] A prop × (th ≡ record { hyps = A ∷ []; pairs = []; prop = A; rests = [] })

-- The term isn't of type prop.
abbrev pub RefusesNoProposition : Term → RuleFault → Type 0
RefusesNoProposition A NotProp = ¬ HasType [] A prop
RefusesNoProposition A _ = ⊥

--       H |- B
-- ------------------ A of type prop
--  H - A |- A ==> B
abbrev pub GivesImpliesIntro : Term → Theorem → Theorem → Type 0
GivesImpliesIntro A th new = HasType [] A prop × (new ≡ record th { hyps = without A th.hyps; prop = imp A th.prop })

--  H |- A ==> B    K |- A
-- ------------------------
--       H, K |- B
abbrev pub GivesImpliesElim : (implication premise th : Theorem) → Type 0
GivesImpliesElim implication premise th = (B : Term) × (implication.prop ≡ imp premise.prop B) × IsJoined implication premise B th

-- The first theorem has no implication; or it has one of another premise than the second's proposition.
abbrev pub RefusesImpliesElim : (implication premise : Theorem) → RuleFault → Type 0
RefusesImpliesElim implication premise NotImplies = IsNoImplication implication.prop
RefusesImpliesElim implication premise PremiseDiffers = (A B : Term) × (implication.prop ≡ imp A B) × (A ≢ premise.prop)
RefusesImpliesElim implication premise _ = ⊥
