use Rattle.pure_declare.proofs.KnownLaws.{classes-known}
use Rattle.pure_declare.proofs.SimpleLaws.{class-failed, class-memory, class-made}
use Rattle.pure_declare.proofs.simple.new_class.Goals as goal

pub returns-in_err-found : goal.returns-in_err-found
returns-in_err-found c = class-failed c.args.place.now c.args.name c.args.above.now c.in_err-found.field-0.0 c.from_residual.result c.in_err-found.ensures.failed c.from_residual.ensures.1

pub class_made-requires-clause-known : goal.class_made-requires-clause-known
class_made-requires-clause-known c =
    rw (c.as_slice.ensures.value) (classes-known c.args.place.now.texts c.args.place.now.content c.is_in_session.ensures c.theory.ensures.sound.content c.args.above.now c.in_ok-found.found.items c.in_ok-found.ensures.ok)

pub returns-in_err-change : goal.returns-in_err-change
returns-in_err-change c = class-memory c.args.place.now c.args.name c.args.above.now c.from_residual-in_err-change.result c.from_residual-in_err-change.ensures.1

pub returns : goal.returns
returns c = class-made c.args.place.now c.args.name c.args.above.now c.in_ok-found.found.items c.as_slice.result.now c.in_ok-change.change c.in_ok-found.ensures.ok c.as_slice.ensures.value c.in_ok-change.ensures
