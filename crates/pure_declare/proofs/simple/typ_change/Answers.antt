use Rattle.pure_text.proofs.AnswerLaws.{test_fails}
use Rattle.pure_lookup.specs.Meaning.{constructors}
use Rattle.pure_declare.specs.Commands.{IsTaken}
use Rattle.pure_declare.proofs.SimpleLaws.{typ-duplicate, typ-memory, typ-made}
use Rattle.pure_declare.proofs.simple.typ_change.Goals as goal

pub returns-then-is_typ_taken : goal.returns-then-is_typ_taken
returns-then-is_typ_taken c = typ-duplicate c.args.place.now c.args.name c.args.params (c.is_typ_taken.ensures.0 c.if-is_typ_taken.true)

pub returns-in_err-change : goal.returns-in_err-change
returns-in_err-change c = typ-memory c.args.place.now c.args.name c.args.params c.from_residual.result c.from_residual.ensures.1

pub returns : goal.returns
returns c = typ-made c.args.place.now c.args.name c.args.params c.in_ok-change.change (test_fails (IsTaken c.args.place.now constructors c.args.name) c.is_typ_taken.result c.is_typ_taken.ensures c.if-is_typ_taken.false) c.in_ok-change.ensures
