use Rattle.pure_resolve.proofs.FollowLaws.{left_typed}
use Rattle.pure_resolve.proofs.follow.with_rest.Goals as goal

pub concluded-requires-clause-typed : goal.concluded-requires-clause-typed
concluded-requires-clause-typed c = left_typed c.args.unifier.flexflex.items c.requires.left
