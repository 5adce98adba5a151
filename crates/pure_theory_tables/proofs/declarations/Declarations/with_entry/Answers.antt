use Rattle.pure_theory_tables.proofs.PlaceLaws.{nothing_behind, grown_tables, grown_list}
use Rattle.pure_theory_tables.proofs.declarations.Declarations.with_entry.Goals as goal

pub with_entry-requires : goal.with_entry-requires
with_entry-requires c = (_, c.self.invariant.indexed, rw (← c.self.view_is, ← c.deref.ensures) at c.requires)

pub put-requires : goal.put-requires
put-requires c = rw c.count.ensures (nothing_behind c.self.inside.list _ c.self.invariant.listed)

pub invariant_of-result : goal.invariant_of-result
invariant_of-result c = grown_tables c.self.inside.list c.in_ok-more.more c.in_ok-indexed.indexed c.in_ok-by_number.by_number c.count.result c.in_ok-same.same.value c.args.entry.now.value c.count.ensures c.in_ok-same.ensures c.in_ok-more.ensures c.self.invariant.listed
    (rw c.deref.ensures at (c.in_ok-indexed.ensures _ c.self.invariant.indexed)) (c.in_ok-by_number.ensures _ c.self.invariant.by_number)

pub returns : goal.returns
returns c = rw (← c.self.view_is) (grown_list c.self.inside.list c.in_ok-more.more c.count.result c.in_ok-same.same.value c.args.entry.now.value c.count.ensures c.in_ok-same.ensures c.in_ok-more.ensures c.self.invariant.listed)
