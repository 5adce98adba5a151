use Rattle.pure_resolve.proofs.FollowLaws.{left_typed, statement_stopped}
use Rattle.pure_resolve.proofs.follow.with_statement.Goals as goal

pub concluded-requires-clause-typed : goal.concluded-requires-clause-typed
concluded-requires-clause-typed g c = left_typed c.args.unifier.flexflex.items c.requires.left

pub returns-in-Err : goal.returns-in-Err
returns-in-Err g c =
    statement_stopped c.args.unifier.typs c.args.unifier.terms c.args.unifier.flexflex.items c.requires.left c.args.subgoals.items c.args.marked c.args.rests.items c.in-Err.fault c.in-Err.ensures
