use Rattle.std.proofs.Common.{ℕ, ap}
use Rattle.std.specs.declared.alloc.Global.{Global}
use Rattle.std.specs.declared.vec.Vec.{Vec}
use Rattle.pure_theory_tables.proofs.LabelLaws.{new_put, kept_put, new_crowded, kept_crowded}
use Rattle.pure_theory_tables.proofs.labels.Labels.with.Goals as goal

pub returns-in_ok-rest-in-None-clause-new : goal.returns-in_ok-rest-in-None-clause-new
returns-in_ok-rest-in-None-clause-new c = new_put c.args.self.now.by_key _ _ c.key_of-key.result _ c.args.name c.args.label c.key_of-key.ensures c.in_ok-name-in-None.ensures.ok c.in_ok-by_key-in-None.ensures

pub returns-in_ok-rest-in-None-clause-kept : goal.returns-in_ok-rest-in-None-clause-kept
returns-in_ok-rest-in-None-clause-kept c = kept_put c.args.self.now.by_key _ _ _ c.key_of-key.result _ c.in-None.ensures c.in_ok-by_key-in-None.ensures (ap (λ (v : Vec ℕ Global). v.items) c.in_ok-rest-in-None.ensures)

pub returns-in_ok-by_key-in-Some-clause-new : goal.returns-in_ok-by_key-in-Some-clause-new
returns-in_ok-by_key-in-Some-clause-new c = new_crowded _ _ _ c.args.name c.args.label c.in_ok-rest-in-Some.ensures

pub returns-in_ok-by_key-in-Some-clause-kept : goal.returns-in_ok-by_key-in-Some-clause-kept
returns-in_ok-by_key-in-Some-clause-kept c = kept_crowded _ _ _ _ c.args.name c.in_ok-by_key-in-Some.ensures c.in_ok-rest-in-Some.ensures
