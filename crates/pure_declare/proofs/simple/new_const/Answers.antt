use Rattle.pure_script.specs.Seen.{span}
use Rattle.pure_declare.proofs.SimpleLaws.{const-failed, const-made}
use Rattle.pure_declare.proofs.simple.new_const.Goals as goal

pub returns-in_err-typ : goal.returns-in_err-typ
returns-in_err-typ c = const-failed c.args.place.now c.args.name (span c.args.at) c.in_err-typ.field-0.0 c.from_residual.result c.in_err-typ.ensures.answer c.from_residual.ensures.1

pub returns : goal.returns
returns c = const-made c.args.place.now c.args.name (span c.args.at) c.in_ok-typ.typ c.in_ok-change.change c.in_ok-typ.ensures.answer c.in_ok-change.ensures
