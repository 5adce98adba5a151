use Rattle.std.proofs.Common.{Ok, Err, inl, inr}
use Rattle.pure_text.proofs.AscendingLaws.{finds, found-in, in-insert, insert_ascends}
use Rattle.pure_order_tables.proofs.names.put.Goals as goal

pub returns-in-Ok-clause-has : goal.returns-in-Ok-clause-has
returns-in-Ok-clause-has c x =
    let found = found-in c.args.names.now.items c.args.name c.in-Ok.field-0 (finds c.args.names.now.items c.args.name (Ok c.in-Ok.field-0) c.requires (rw c.deref.ensures.value at c.in-Ok.ensures.position)) in
    (λ m. inr m, λ m. elim m [ inl e ↦ rw e found | inr n ↦ n ])

pub returns-in_ok-insert-in-Err-clause-ascend : goal.returns-in_ok-insert-in-Err-clause-ascend
returns-in_ok-insert-in-Err-clause-ascend c = rw c.in_ok-insert-in-Err.ensures.items
    (insert_ascends c.args.names.now.items c.in-Err.place c.args.name c.requires (finds c.args.names.now.items c.args.name (Err c.in-Err.place) c.requires (rw c.deref.ensures.value at c.in-Err.ensures.position)))

pub returns-in_ok-insert-in-Err-clause-has : goal.returns-in_ok-insert-in-Err-clause-has
returns-in_ok-insert-in-Err-clause-has c = rw c.in_ok-insert-in-Err.ensures.items (in-insert c.args.names.now.items c.in-Err.place c.args.name)
