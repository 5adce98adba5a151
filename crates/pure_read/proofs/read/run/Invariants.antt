use Rattle.std.proofs.Common.{◌≡◌}
use Rattle.std.specs.Prelude.{Some}
use Rattle.pure_grammar.specs.Terms.InnerReader.{run}
use Rattle.pure_read.specs.States.{seen_state}
use Rattle.pure_read.proofs.Reading.{lexed}
use Rattle.pure_read.proofs.read.run.Given as goal

abbrev pub invariant-loop-token : goal.invariant-loop-token
invariant-loop-token l = run (seen_state l.fn.start) (lexed l.source l.token-index l.tokens) ≡ Some (seen_state l.state)
