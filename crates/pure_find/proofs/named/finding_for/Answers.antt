use Rattle.std.proofs.Common.{sym, subst}
use Rattle.pure_theory_run.specs.Declare.Tidy.{IsTidy}
use Rattle.pure_find.specs.Findings.{IsTidyProposition}
use Rattle.pure_find.proofs.NamedLaws.{states-tidy, tidy-statement, finding-for}
use Rattle.pure_find.proofs.named.finding_for.Goals as goal

pub long_of-requires : goal.long_of-requires
long_of-requires c = subst IsTidyProposition (sym c.in_ok-statement.ensures) (tidy-statement c.args.names.now c.args.duty.now c.requires)

pub facts_found-requires-clause-tidy : goal.facts_found-requires-clause-tidy
facts_found-requires-clause-tidy c = states-tidy c.theory_of-theory.result.now c.content_is_sound.ensures.content (subst IsTidy (sym c.theory_of-theory.ensures) c.requires.tidy)

pub returns : goal.returns
returns c =
    finding-for c.args.names.now c.args.duty.now.fixed c.in_ok-statement.statement c.in_ok-statement.ensures c.in_ok-long.long c.in_ok-long.ensures.found c.theory_of-theory.result.now c.args.duty.now.content c.theory_of-theory.ensures
    c.facts_found.result c.facts_found.ensures
