use Rattle.pure_theory.specs.FactView.{built_place}
use Rattle.pure_theory.proofs.FactLookupLaws.{found_nothing, found_built}
use Rattle.pure_theory.proofs.theory.Theory.find_fact.Goals as goal

pub returns-in-None : goal.returns-in-None
returns-in-None c = found_nothing c.args.names.now c.args.self.now c.args.written.now c.in_default.ensures c.in-None.ensures

pub returns-in-Some-built_of : goal.returns-in-Some-built_of
returns-in-Some-built_of c = found_built c.args.names.now c.args.self.now c.args.written.now c.in_default.ensures (built_place c.in-Some-built_of.which) c.in-Some-built_of.ensures
