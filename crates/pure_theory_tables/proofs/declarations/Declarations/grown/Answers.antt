use Rattle.pure_theory_tables.proofs.PlaceLaws.{nothing_behind, grown_tables, grown_list}
use Rattle.pure_theory_tables.proofs.declarations.Declarations.grown.Goals as goal

pub put-requires : goal.put-requires
put-requires c = rw c.count.ensures (nothing_behind c.self.inside.list _ c.self.invariant.listed)

pub invariant_of-result : goal.invariant_of-result
invariant_of-result c = grown_tables c.self.inside.list c.in_ok-list.list c.args.index c.in_ok-numbered.numbered c.count.result c.in_ok-entry.entry.value c.args.entry c.count.ensures c.in_ok-entry.ensures c.in_ok-list.ensures c.self.invariant.listed (rw (← c.self.view_is) at c.requires)
    (rw c.in_ok-entry.ensures at (c.in_ok-numbered.ensures _ c.self.invariant.by_number))

pub returns : goal.returns
returns c = rw (← c.self.view_is) (grown_list c.self.inside.list c.in_ok-list.list c.count.result c.in_ok-entry.entry.value c.args.entry c.count.ensures c.in_ok-entry.ensures c.in_ok-list.ensures c.self.invariant.listed)
