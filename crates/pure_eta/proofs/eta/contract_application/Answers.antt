use Rattle.std.proofs.Common.{sym, ◌∙◌}
use Rattle.pure_eta.proofs.BareLaws.{contracted-bare}
use Rattle.pure_eta.proofs.eta.contract_application.Goals as goal

pub returns-then-function-free : goal.returns-then-function-free
returns-then-function-free c = record {
  form = contracted-bare c.args.typ.now c.args.function.term.value c.args.argument.value c.args.function.gone c.free_of-free.result (sym c.deref.ensures ∙ c.is_bound_0.ensures.0 c.if-is_bound_0.true) c.if-function-free.true c.free_of-free.ensures;
  lacks = c.free_of-free.ensures;
}
