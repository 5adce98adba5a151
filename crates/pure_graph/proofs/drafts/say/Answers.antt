use Rattle.std.proofs.Common.{refl, sym, subst}
use Rattle.pure_graph.specs.Drafts.{IsKnownOf}
use Rattle.pure_graph.proofs.drafts.say.Goals as goal

pub returns : goal.returns
returns c = record {
  theory = refl;
  known = λ told place known. c.said.ensures told place (subst (IsKnownOf told place c.args.draft.now.theory) (sym c.replace-known.ensures.value) known);
}
