use Rattle.std.proofs.Common.{arith, rules}
use Rattle.pure_grammar.specs.Tokens.Bytes.{is_name_byte}
use Rattle.pure_lex.proofs.Runs.{run, run_all}
use Rattle.pure_lex.proofs.bytes.name_length.Goals as goal

pub returns-then-not-is_name_byte : goal.returns-then-not-is_name_byte
returns-then-not-is_name_byte c = run is_name_byte _ _ (omega arith) c.loop-i.invariant (λ _. search rules)

pub returns : goal.returns
returns c = run_all is_name_byte _ _ c.loop-i-test.false c.loop-i.invariant
