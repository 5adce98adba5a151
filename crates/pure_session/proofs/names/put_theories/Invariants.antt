use Rattle.std.proofs.Common.{take}
use Rattle.pure_text.specs.Lists.{AnyOf}
use Rattle.pure_graph.specs.SessionNames.{IsGiven}
use Rattle.pure_session.specs.NameSets.{Gains}
use Rattle.pure_session.specs.Waiting.{seen_loaded}
use Rattle.pure_session.proofs.names.put_theories.Given as goal

abbrev pub invariant-loop-loaded : goal.invariant-loop-loaded
invariant-loop-loaded l = Gains l.initial.texts l.texts (λ t. AnyOf (λ loaded. IsGiven (seen_loaded loaded) t) (take l.loaded-index l.theories))
