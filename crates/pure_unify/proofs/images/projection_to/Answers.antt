use Rattle.std.proofs.Common.{◌^◌}
use Rattle.pure_unify_sides.proofs.ImageLaws.{domains_few}
use Rattle.pure_unify.proofs.images.projection_to.Goals as goal

pub domain_count-requires : goal.domain_count-requires
domain_count-requires c = domains_few c.args.typ.now (2 ^ 32) c.requires.few
