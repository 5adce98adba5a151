use Rattle.pure_term_laws.proofs.TypingLaws.{typed-closed}
use Rattle.pure_norm.proofs.BetaLaws.{normal_form-is_normal}
use Rattle.pure_unify_nodes.proofs.LongLemmas.{normal_typed, side_of_normal, side_of_fault}
use Rattle.pure_unify_nodes.proofs.long.made_long.Goals as goal

pub beta_norm-requires : goal.beta_norm-requires
beta_norm-requires c = typed-closed c.args.t.now c.requires.0 c.requires.1

pub long_of_normal-requires-clause-typed : goal.long_of_normal-requires-clause-typed
long_of_normal-requires-clause-typed c = normal_typed c.args.t.now c.in-Ok.normal c.requires c.in-Ok.ensures

pub long_of_normal-requires-clause-normal : goal.long_of_normal-requires-clause-normal
long_of_normal-requires-clause-normal c = normal_form-is_normal c.args.t.now c.in-Ok.normal c.in-Ok.ensures

pub returns-in-Ok : goal.returns-in-Ok
returns-in-Ok c = side_of_normal c.args.t.now c.in-Ok.normal c.long_of_normal.result c.in-Ok.ensures c.long_of_normal.ensures

pub returns-in-Err : goal.returns-in-Err
returns-in-Err c = side_of_fault c.args.t.now c.in-Err.fault c.in-Err.ensures
