use Rattle.pure_text.proofs.AnswerLaws.{test_fails}
use Rattle.pure_script.specs.Seen.{span}
use Rattle.pure_lookup.specs.Meaning.{constants}
use Rattle.pure_declare.specs.Commands.{IsTaken}
use Rattle.pure_declare.proofs.SimpleLaws.{const-duplicate, const-next}
use Rattle.pure_declare.proofs.simple.const_change.Goals as goal

pub returns-then-is_const_taken : goal.returns-then-is_const_taken
returns-then-is_const_taken c = const-duplicate c.args.place.now c.args.name (span c.args.at) (c.is_const_taken.ensures.0 c.if-is_const_taken.true)

pub returns : goal.returns
returns c = const-next c.args.place.now c.args.name (span c.args.at) c.new_const.result (test_fails (IsTaken c.args.place.now constants c.args.name) c.is_const_taken.result c.is_const_taken.ensures c.if-is_const_taken.false) c.new_const.ensures
