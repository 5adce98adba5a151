use Rattle.std.proofs.Common.{true, take}
use Rattle.pure_text.specs.Lists.{AnyOf}
use Rattle.pure_graph.specs.SessionNames.{Gives}
use Rattle.pure_session.specs.NameSets.{Gains}
use Rattle.pure_session.proofs.texts.put_spellings.Given as goal

abbrev pub invariant-loop-token : goal.invariant-loop-token
invariant-loop-token l = Gains l.initial.texts l.texts (λ t. AnyOf (λ token. Gives l.source true token t) (take l.token-index l.tokens))
