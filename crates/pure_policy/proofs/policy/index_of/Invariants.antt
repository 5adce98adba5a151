use Rattle.std.proofs.Common.{◌≡◌, ◌+◌, drop}
use Rattle.std.specs.List.{position_from}
use Rattle.pure_graph.specs.Order.{Loaded}
use Rattle.pure_grammar.specs.Theories.Lexeme.{same}
use Rattle.pure_session.specs.Waiting.{all_loaded}
use Rattle.pure_policy.specs.Policy.{index_of}
use Rattle.pure_policy.proofs.policy.index_of.Given as goal

abbrev pub invariant-loop-theory : goal.invariant-loop-theory
invariant-loop-theory l = position_from (λ (t : Loaded). same l.name t.name) (l.index + 1) (all_loaded (drop l.theory-index l.theories)) ≡ index_of (all_loaded l.theories) l.name
