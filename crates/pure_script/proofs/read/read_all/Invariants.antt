use Rattle.std.proofs.Common.{◌≡◌, drop}
use Rattle.pure_grammar.specs.Theories.Lexeme.{lexemes}
use Rattle.pure_grammar.specs.Theories.Reader.{AtStart, run}
use Rattle.pure_script.specs.States.{seen_state}
use Rattle.pure_script.proofs.read.read_all.Given as goal

abbrev pub invariant-loop-token : goal.invariant-loop-token
invariant-loop-token l = run AtStart (lexemes l.source l.tokens) ≡ run (seen_state l.state) (lexemes l.source (drop l.token-index l.tokens))
