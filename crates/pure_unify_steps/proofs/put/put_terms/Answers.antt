use Rattle.pure_unify_steps.proofs.LongLaws.{side_typed}
use Rattle.pure_unify_steps.proofs.put.put_terms.Goals as goal

pub terms_made-requires-clause-typed : goal.terms_made-requires-clause-typed
terms_made-requires-clause-typed c = side_typed c.args.t.now c.requires.long
