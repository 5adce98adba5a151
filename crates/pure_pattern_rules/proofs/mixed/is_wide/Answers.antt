use Rattle.std.proofs.Common.{◌^◌}
use Rattle.pure_unify_sides.proofs.ImageLaws.{domains_few}
use Rattle.pure_pattern_rules.proofs.mixed.is_wide.Goals as goal

pub domain_count-many-requires : goal.domain_count-many-requires
domain_count-many-requires c = domains_few c.args.head_typ.now (2 ^ 32) c.requires.names

pub domain_count-each-requires : goal.domain_count-each-requires
domain_count-each-requires c = domains_few c.args.typ.now (2 ^ 32) c.requires.few
