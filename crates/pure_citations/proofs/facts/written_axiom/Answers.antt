use Rattle.std.proofs.Common.{ap}
use Rattle.std.specs.Prelude.{option_map}
use Rattle.pure_table.specs.Theory.FactView.{seen_fact}
use Rattle.pure_citations.proofs.NamedLaws.{written-some, written-none}
use Rattle.pure_citations.proofs.facts.written_axiom.Goals as goal

pub returns-in-Some : goal.returns-in-Some
returns-in-Some c = written-some c.args.names.now c.args.theory.now c.args.lemma c.args.written.now c.requires.session c.requires.content _ _ c.in_ok-fact.ensures (ap (option_map seen_fact) c.in-Some.is) _ c.axiom_of-name.ensures

pub returns-in-None : goal.returns-in-None
returns-in-None c = written-none c.args.names.now c.args.theory.now c.args.lemma c.args.written.now c.requires.session c.requires.content _ c.in_ok-fact.ensures (ap (option_map seen_fact) c.in-None.is)
