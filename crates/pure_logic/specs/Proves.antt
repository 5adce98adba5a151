-- One judgement for laws: a proposition is proved from hypotheses, resting on promises; and a theorem with pairs as one whose equations stand among the hypotheses.
use Rattle.std.specs.Prelude.{◌≡◌, List, [], ◌++◌}
use Rattle.pure_text.specs.Lists.{IsIn, Each, EachTwo}
use Rattle.pure_definitions.specs.Names.{Label}
use Rattle.pure_definitions.specs.Types.Typ.{Typ}
use Rattle.pure_definitions.specs.Terms.Term.{Term}
use Rattle.pure_definitions.specs.Terms.Typing.{HasType}
use Rattle.pure_logic.specs.Connectives.{eq}
use Rattle.pure_logic.specs.Content.{Content, IsProposition}
use Rattle.pure_logic.specs.Tree.{Tree, hyps_of, rests_of}
use Rattle.pure_logic.specs.Concludes.{Concludes}
use Rattle.pure_logic.specs.Derivable.{Pair, Theorem}

-- The proposition is proved from the hypotheses, resting on the promises: a tree concludes it from some of them, and rests on some of these.
pub record Proves (Q : Content) (hyps : List Term) (rests : List Label) (A : Term) : Type 0 where
  pub tree : Tree
  pub concludes : Concludes Q tree A
  pub from : Each (λ B. IsIn B hyps) (hyps_of tree)
  pub rest_on : Each (λ l. IsIn l rests) (rests_of tree)

-- The term is the equation of the pair, at the type of its left side.
abbrev pub IsEquation : Pair → Term → Type 0
IsEquation p e = (T : Typ) × HasType [] p.left T × (e ≡ eq T p.left p.right)

-- The theorem is proved: its proposition is, from the equations of its pairs and its hypotheses. The equations are propositions of the content.
pub record IsProved (Q : Content) (th : Theorem) : Type 0 where
  pub equations : List Term
  pub are_equations : EachTwo IsEquation th.pairs equations
  pub propositions : Each (IsProposition Q) equations
  pub proves : Proves Q (equations ++ th.hyps) th.rests th.prop
