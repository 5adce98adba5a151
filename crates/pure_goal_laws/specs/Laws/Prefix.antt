-- Laws of what is proved behind a prefix.
use Rattle.std.specs.Prelude.{List, map}
use Rattle.pure_text.specs.Lists.{IsIn}
use Rattle.pure_definitions.specs.Types.Typ.{Typ}
use Rattle.pure_definitions.specs.Terms.Term.{Term}
use Rattle.pure_logic.specs.Connectives.{imp, eq, chain}
use Rattle.pure_logic.specs.Content.{IsProposition}
use Rattle.pure_logic.specs.Laws.Equality.{Everywhere}
use Rattle.pure_goal_laws.specs.Prefix.{Item, behind, below_parameters, hypotheses}

-- Implication distributes over a prefix.
abbrev pub ImplicationBehind : Type 0
ImplicationBehind = Everywhere (λ Q Proved. (ps : List Item) (A B : Term) → Proved (behind ps (imp A B)) → Proved (behind ps A) → Proved (behind ps B))

-- So from what a prefix has in front of a chain there is a chain of its premises and its conclusion, each behind the prefix.
abbrev pub ChainBehind : Type 0
ChainBehind = Everywhere (λ Q Proved. (ps : List Item) (As : List Term) (B : Term) → Proved (behind ps (chain As B)) → Proved (chain (map (behind ps) As) (behind ps B)))

-- A hypothesis of a prefix is proved behind it.
abbrev pub HypothesisBehind : Type 0
HypothesisBehind = Everywhere (λ Q Proved. (ps : List Item) (A C : Term) → IsProposition Q (behind ps C) → IsIn A (hypotheses ps) → Proved (behind ps A))

-- What is proved behind a prefix is proved there from a further hypothesis.
abbrev pub FurtherHypothesisBehind : Type 0
FurtherHypothesisBehind = Everywhere (λ Q Proved. (ps : List Item) (A B : Term) → IsProposition Q (behind ps (imp A B)) → Proved (behind ps B) → Proved (behind ps (imp A B)))

-- Of terms that are equal below abstractions over the parameters of a prefix, the one is proved behind it where the other is.
abbrev pub EqualBehind : Type 0
EqualBehind = Everywhere (λ Q Proved. (ps : List Item) (T : Typ) (A B : Term) → Proved (eq T (below_parameters ps A) (below_parameters ps B)) → Proved (behind ps A) → Proved (behind ps B))
