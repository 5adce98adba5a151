-- Attempts as the program holds them.
use Rattle.std.specs.Prelude.{List}
use Rattle.pure_definitions.specs.Terms.Term.{Term}
use Rattle.pure_goal_laws.specs.Prefix.{Item, behind}
use Rattle.pure_goal_laws.specs.Lifting.{lifted_behind}
use Rattle.pure_goal_steps.specs.Follows as follows
use Rattle.pure_goal_rules.specs.declared.attempt.Attempt.{Attempt}

-- the attempt that the program's one is
abbrev pub seen_attempt : Attempt → follows.Attempt
seen_attempt a = record { matched = a.matched.items; premises = a.premises.items }

-- the premise of a rule, lifted over the whole prefix, behind the items before a place in it and those after it
abbrev pub premise_at : (whole before after : List Item) → Term → Term
premise_at whole before after A = behind before (behind after (lifted_behind whole A))
