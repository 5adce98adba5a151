use Rattle.std.proofs.Common.{List}
use Rattle.pure_unify_definitions.specs.Node as nodes
use Rattle.pure_unify_definitions.specs.Search as answers
use Rattle.pure_unify.specs.Frames.{HoldNodes, CanGoOn}
use Rattle.pure_unify.proofs.call.run.Given as goal

abbrev pub invariant-loop : goal.invariant-loop
invariant-loop g l = record {
  go : CanGoOn l.search;
  onward : (ns : List nodes.Node) → HoldNodes l.initial.search.frames.items ns → (ms : List nodes.Node) × HoldNodes l.search.frames.items ms
      × ((answer : answers.Answer) → answers.Searches l.order l.maxidx l.search.visited l.search.cut ms answer → answers.Searches l.order l.maxidx l.initial.search.visited l.initial.search.cut ns answer);
}
