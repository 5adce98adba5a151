use Rattle.pure_script.specs.Seen.{span}
use Rattle.pure_declare.proofs.SimpleLaws.{axiom-failed, axiom-made}
use Rattle.pure_declare.proofs.simple.new_axiom.Goals as goal

pub returns-in_err-stated : goal.returns-in_err-stated
returns-in_err-stated c = axiom-failed c.args.place.now c.args.name (span c.args.at) c.in_err-stated.field-0.0 c.from_residual.result c.in_err-stated.ensures.answer c.from_residual.ensures.1

pub returns : goal.returns
returns c = axiom-made c.args.place.now c.args.name (span c.args.at) c.in_ok-stated.stated c.in_ok-change.change c.in_ok-stated.ensures.answer c.in_ok-change.ensures
