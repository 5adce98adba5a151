use Rattle.std.proofs.Common.{sym, ◌∙◌, true≢false}
use Rattle.pure_unify_steps.proofs.direct.is_set_to.Goals as goal

pub returns : goal.returns
returns c = record {
  variable = sym c.is_schematic.ensures ∙ c.if-not-is_schematic.false;
  typ = rw c.if-not-have_one_typ.false at c.have_one_typ.ensures;
  absent = (λ o. true≢false (sym (c.occurs.ensures.1 o) ∙ c.if-occurs.false));
  contracted = sym c.is_contracted.ensures ∙ c.if-not-is_contracted.false;
}
