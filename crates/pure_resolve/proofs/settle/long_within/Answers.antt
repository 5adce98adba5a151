use Rattle.pure_text.proofs.AnswerLaws.{test_fails}
use Rattle.pure_definitions.specs.Terms.Term.{IsWithin}
use Rattle.pure_resolve.proofs.SettleLaws.{beyond_large}
use Rattle.pure_resolve.proofs.settle.long_within.Goals as goal

pub returns-then-not-is_within : goal.returns-then-not-is_within
returns-then-not-is_within c = beyond_large c.args.t (test_fails (IsWithin c.args.t) c.is_within.result c.is_within.ensures c.if-not-is_within.true)
