use Rattle.std.proofs.Common.{◌∙◌, sym}
use Rattle.pure_order_tables.proofs.ConflictLaws.{conflict_found}
use Rattle.pure_order_tables.proofs.tables.Tables.least_conflict.Goals as goal

pub exposed-requires : goal.exposed-requires
exposed-requires c = record { extends = c.requires.sides.right; known = rw (c.arities-own.ensures.are ∙ c.requires.same) c.requires.sides.left_known; kept = c.arities-own.ensures.kept; entries = c.requires.theirs }

pub exposed-requires-2 : goal.exposed-requires-2
exposed-requires-2 c = record { extends = c.requires.sides.left; known = rw c.requires.theirs.are c.requires.sides.right_known; kept = c.requires.theirs.kept; entries = record { are = c.arities-own.ensures.are ∙ c.requires.same; kept = c.arities-own.ensures.kept } }

pub returns : goal.returns
returns c = conflict_found c.args.self.now c.args.first.now c.args.second.now c.requires.sides c.in_ok-firsts.firsts.items c.in_ok-seconds.seconds.items c.least_clash.result
    (c.in_ok-firsts.ensures c.args.first.now (sym (c.arities-own.ensures.are ∙ c.requires.same))) (c.in_ok-seconds.ensures c.args.second.now (sym c.requires.theirs.are)) (rw (c.as_slice.ensures.value, c.as_slice-2.ensures.value) at c.least_clash.ensures)
