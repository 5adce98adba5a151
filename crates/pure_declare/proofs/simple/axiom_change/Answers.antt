use Rattle.pure_text.proofs.AnswerLaws.{test_fails}
use Rattle.pure_script.specs.Seen.{span}
use Rattle.pure_lookup.specs.Meaning.{facts}
use Rattle.pure_declare.specs.Commands.{IsTaken}
use Rattle.pure_declare.proofs.SimpleLaws.{axiom-duplicate, axiom-next}
use Rattle.pure_declare.proofs.simple.axiom_change.Goals as goal

pub returns-then-is_fact_taken : goal.returns-then-is_fact_taken
returns-then-is_fact_taken c = axiom-duplicate c.args.place.now c.args.name (span c.args.at) (c.is_fact_taken.ensures.0 c.if-is_fact_taken.true)

pub returns : goal.returns
returns c = axiom-next c.args.place.now c.args.name (span c.args.at) c.new_axiom.result (test_fails (IsTaken c.args.place.now facts c.args.name) c.is_fact_taken.result c.is_fact_taken.ensures c.if-is_fact_taken.false) c.new_axiom.ensures
