use Rattle.std.proofs.Common.{arith, rules}
use Rattle.pure_grammar.specs.Tokens.Token.{is_quotable}
use Rattle.pure_lex.proofs.Runs.{run, run_all}
use Rattle.pure_lex.proofs.bytes.quotable_length.Goals as goal

pub returns-then-not-is_quotable : goal.returns-then-not-is_quotable
returns-then-not-is_quotable c = run is_quotable _ _ (omega arith) c.loop-i.invariant (λ _. search rules)

pub returns : goal.returns
returns c = run_all is_quotable _ _ c.loop-i-test.false c.loop-i.invariant
