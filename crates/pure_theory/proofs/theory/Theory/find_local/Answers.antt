use Rattle.std.specs.Option.{option_map}
use Rattle.pure_lookup.specs.LookUps.{local}
use Rattle.pure_theory.specs.FactView.{seen_fact}
use Rattle.pure_theory.proofs.LocalLaws.{found_elsewhere}
use Rattle.pure_theory.proofs.theory.Theory.find_local.Goals as goal

pub returns-in_default : goal.returns-in_default
returns-in_default c = found_elsewhere c.args.names.now c.args.self.now c.args.lemma c.args.written.now (option_map seen_fact) c.find_fact.result (rw c.names.ensures at c.in_default.ensures) c.find_fact.ensures

pub returns : goal.returns
returns c =
    let here = rw c.names.ensures at c.in-Some.ensures in
    rw c.in_ok-prop.ensures (local here)
