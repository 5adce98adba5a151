use Rattle.std.proofs.Common.{◌<◌, ◌^◌, length, arith}
use Rattle.pure_unify_definitions.specs.Fronts.{domains}
use Rattle.pure_unify_sides.proofs.ImageLaws.{domains_few}
use Rattle.pure_unify_sides.proofs.images.image_with.Goals as goal

pub applied_to_new-requires-clause-few : goal.applied_to_new-requires-clause-few
applied_to_new-requires-clause-few c = domains_few c.args.typ.now (2 ^ 32) c.requires.few

pub applied_to_new-requires-clause-names : goal.applied_to_new-requires-clause-names
applied_to_new-requires-clause-names c = let few : length (domains c.args.head_typ.now) < 2 ^ 32 = domains_few c.args.head_typ.now (2 ^ 32) c.requires.names in omega arith
