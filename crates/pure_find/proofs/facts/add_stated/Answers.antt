use Rattle.std.proofs.Common.{refl, sym, subst}
use Rattle.pure_find.specs.Findings.{IsTidyProposition}
use Rattle.pure_find.proofs.FactLaws.{stated-goes_on}
use Rattle.pure_find.proofs.facts.add_stated.Goals as goal

pub add_fact-requires-clause-prop : goal.add_fact-requires-clause-prop
add_fact-requires-clause-prop c = subst IsTidyProposition (sym c.prop.ensures) (c.requires.tidy c.args.name c.in-Some.statement.now ((c.in-Some.ensures c.in-Some.statement.now).1 refl))

pub returns : goal.returns
returns c =
    stated-goes_on c.args.names.now c.args.theory.now c.args.long.now c.args.name c.requires.written c.in-Some.statement.now c.in-Some.ensures _ c.text_of.ensures _ c.prop.ensures _ _ _ c.add_fact.ensures
