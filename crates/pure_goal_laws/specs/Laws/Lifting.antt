-- Laws of rules: stripped of their front, and lifted over a prefix.
use Rattle.std.specs.Prelude.{List, [], map}
use Rattle.pure_definitions.specs.Names.{Label}
use Rattle.pure_definitions.specs.Terms.Term.{Term}
use Rattle.pure_logic.specs.Connectives.{chain}
use Rattle.pure_logic.specs.Content.{IsProposition}
use Rattle.pure_logic.specs.Proves.{Proves}
use Rattle.pure_goal_laws.specs.Laws.Scope.{Above}
use Rattle.pure_goal_laws.specs.Prefix.{Item, behind}
use Rattle.pure_goal_laws.specs.Lifting.{IsStripped, lifted_behind}

-- What is proved is proved as a rule with its front stripped.
abbrev pub StrippedRule : Type 0
StrippedRule = Above (λ Q. (hyps : List Term) (rests : List Label) (A : Term) (As : List Term) (B : Term) → IsStripped A As B
    → Proves Q hyps rests A → Proves Q hyps rests (chain As B))

-- A rule that is proved from no hypotheses may be lifted over the prefix of a proposition: from its premises, lifted and behind the prefix, its conclusion, lifted and behind the prefix.
abbrev pub LiftedRule : Type 0
LiftedRule = Above (λ Q. (hyps : List Term) (rests : List Label) (ps : List Item) (D : Term) (As : List Term) (B : Term) → IsProposition Q (behind ps D)
    → Proves Q [] rests (chain As B) → Proves Q hyps rests (chain (map (λ A. behind ps (lifted_behind ps A)) As) (behind ps (lifted_behind ps B))))
