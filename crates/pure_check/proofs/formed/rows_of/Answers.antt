use Rattle.pure_check.proofs.formed.rows_of.Goals as goal

pub table-requires : goal.table-requires
table-requires c = rw c.as_slice-2.ensures.value c.requires.entries

pub returns : goal.returns
returns c = rw (c.as_slice.ensures.value, c.as_slice-2.ensures.value) at c.table.ensures
