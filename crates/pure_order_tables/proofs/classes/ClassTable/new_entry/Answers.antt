use Rattle.pure_order_tables.proofs.classes.ClassTable.new_entry.Goals as goal

pub returns : goal.returns
returns c =
    let row = c.in_ok-row.ensures c.args.above.now (rw c.as_slice.ensures.value c.in_ok-numbers.ensures) in
    record {
      class = λ i. record { name = c.args.class; above = c.in_ok-above.ensures.items i };
      row = row;
      ascend = c.in_ok-up.ensures.ascend;
      up = rw c.as_slice-3.ensures.value at (c.in_ok-up.ensures.has c.args.above.now (rw c.as_slice-2.ensures.value c.in_ok-numbers.ensures) (rw c.as_slice-3.ensures.value row));
    }
