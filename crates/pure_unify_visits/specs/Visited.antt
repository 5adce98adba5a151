-- What a visit of a node answers.
use Rattle.std.specs.Prelude.{ℕ, Result, Ok, Err}
use Rattle.pure_text.specs.Lists.{Each}
use Rattle.pure_definitions.specs.Types.Order.{Algebra}
use Rattle.pure_norm.specs.declared.fault.NormFault.{NormFault}
use Rattle.pure_norm.specs.declared.fault.NormFault.TheVariants.{Steps, Big, Memory}
use Rattle.pure_unify_definitions.specs.LongSides as sides
use Rattle.pure_unify_definitions.specs.Node as node
use Rattle.pure_unify_definitions.specs.Simplification as rules
use Rattle.pure_unify_definitions.specs.Simplification.{Halted, Simplifies, Visits}
use Rattle.pure_unify_steps.specs.Held.{IsNode}
use Rattle.pure_unify_nodes.specs.Long.{IsLongPair}
use Rattle.pure_unify_visits.specs.declared.scan.Visited.{Visited}
use Rattle.pure_unify_visits.specs.declared.scan.Visited.TheVariants.{Simple, Failed}

-- What simplification of the node comes to: a simple node, which is held; or it fails; or it stops the search; or memory was wanted.
abbrev pub IsSimplified : Algebra → (maxidx : ℕ) → node.Node → Result Visited NormFault → Type 0
IsSimplified A maxidx n (Ok (Simple held)) = (m : node.Node) × IsNode held m × Simplifies A maxidx n (rules.Simple m)
IsSimplified A maxidx n (Ok Failed) = Simplifies A maxidx n rules.Failed
IsSimplified A maxidx n (Err Big) = Simplifies A maxidx n (Halted sides.Big)
IsSimplified A maxidx n (Err Steps) = Simplifies A maxidx n (Halted sides.Steps)
IsSimplified A maxidx n (Err Memory) = Unit {0}

-- The same of a visit of the node.
abbrev pub IsVisitAnswer : Algebra → (maxidx : ℕ) → node.Node → Result Visited NormFault → Type 0
IsVisitAnswer A maxidx n (Ok (Simple held)) = (m : node.Node) × IsNode held m × Visits A maxidx n (rules.Simple m)
IsVisitAnswer A maxidx n (Ok Failed) = Visits A maxidx n rules.Failed
IsVisitAnswer A maxidx n (Err Big) = Visits A maxidx n (Halted sides.Big)
IsVisitAnswer A maxidx n (Err Steps) = Visits A maxidx n (Halted sides.Steps)
IsVisitAnswer A maxidx n (Err Memory) = Unit {0}

-- The sides of a simple node are in long form.
abbrev pub IsLongVisit : Visited → Type 0
IsLongVisit (Simple held) = Each IsLongPair held.pairs.items
IsLongVisit Failed = Unit {0}
