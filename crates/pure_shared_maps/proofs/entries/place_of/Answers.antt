use Rattle.std.proofs.Common.{rules, nat_lt, refl}
use Rattle.std.proofs.lemmas.List.Sorted.{IsPartitionPoint-from_clause, IsPartitionedBy-ltb}
use Rattle.pure_shared_maps.proofs.FindLaws.{rises, less_before, others_after, place_behind}
use Rattle.pure_shared_maps.proofs.entries.place_of.Goals as goal

pub returns-then-are_less : goal.returns-then-are_less
returns-then-are_less g c = place_behind c.args.entries.now _ c.args.key refl (c.are_less.ensures c.if-are_less.true)

pub returns : goal.returns
returns g c =
    let es = c.args.entries.now in
    let key = c.args.key in
    let parted = IsPartitionPoint-from_clause (λ e. nat_lt e.key key) es c.partition_point.result c.partition_point.ensures.partitioned (IsPartitionedBy-ltb (λ e. e.key) es key (rises es c.requires)) (λ x b f' k. search rules) in
    record { less = less_before key es _ parted.0 c.partition_point.ensures.bound; rest = others_after key es _ parted.1 }
