use Rattle.std.proofs.Common.{◌^◌}
use Rattle.pure_unify_sides.proofs.ImageLaws.{domains_few}
use Rattle.pure_pattern_rules.proofs.images.agreeing_image.Goals as goal

pub domain_count-requires : goal.domain_count-requires
domain_count-requires c = domains_few c.args.typ.now (2 ^ 32) c.requires
