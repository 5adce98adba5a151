use Rattle.std.proofs.Common.{sym, subst}
use Rattle.pure_find.specs.Findings.{IsTidyProposition}
use Rattle.pure_find.proofs.BuiltLaws.{built-tidy}
use Rattle.pure_find.proofs.FindingLaws.{same-fact}
use Rattle.pure_find.proofs.facts.add_built.Goals as goal

pub add_fact-requires-clause-prop : goal.add_fact-requires-clause-prop
add_fact-requires-clause-prop c = subst IsTidyProposition (sym c.in_ok-prop.ensures) (built-tidy c.args.which)

pub returns : goal.returns
returns c = same-fact c.args.long.now c.args.name.now _ _ c.in_ok-prop.ensures _ _ _ c.add_fact.ensures
