use Rattle.std.proofs.Common.{◌≡◌, ◌+◌}
use Rattle.pure_definitions.specs.Terms.Term.{Var}
use Rattle.pure_unify_definitions.specs.Children.{images}
use Rattle.pure_unify.specs.Frames.{images_left, IsCountableBranch}
use Rattle.pure_unify.proofs.CountLaws.{choice_countable}
use Rattle.pure_unify.proofs.TypedLaws.{typed_branch}
use Rattle.pure_unify.proofs.branch.chosen_at.Goals as goal

pub branch_against-requires-clause-variable : goal.branch_against-requires-clause-variable
branch_against-requires-clause-variable c = (choice_countable c.args.pairs.now c.in-Some.v.now c.in-Some.head.now c.in-Some.ensures c.requires.long).0

pub branch_against-requires-clause-countable : goal.branch_against-requires-clause-countable
branch_against-requires-clause-countable c = (choice_countable c.args.pairs.now c.in-Some.v.now c.in-Some.head.now c.in-Some.ensures c.requires.long).1

pub returns-in_ok-branch-in-Some-clause-images : goal.returns-in_ok-branch-in-Some-clause-images
returns-in_ok-branch-in-Some-clause-images c =
    let b = c.in_ok-branch-in-Some.branch in
    let made : (c.in-Some.v.now ≡ Var b.name b.index b.typ) × (images_left b ≡ images (c.args.maxidx + (c.args.choices + 1)) b.typ c.in-Some.head.now) × IsCountableBranch b = c.in_ok-branch-in-Some.ensures in
    typed_branch c.args.pairs.now c.in-Some.v.now c.in-Some.head.now (c.args.maxidx + (c.args.choices + 1)) b c.in-Some.ensures made.0 made.1 made.2 c.requires.typed
