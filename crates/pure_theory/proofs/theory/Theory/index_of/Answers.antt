use Rattle.pure_theory.proofs.LookupLaws.{index_own, index_ancestor, index_none}
use Rattle.pure_theory.proofs.theory.Theory.index_of.Goals as goal

pub returns-in-Some : goal.returns-in-Some
returns-in-Some c = index_own c.args.self.now c.args.theory c.in-Some.index c.in-Some.ensures

pub returns-in-None-index_among : goal.returns-in-None-index_among
returns-in-None-index_among c = index_none c.args.self.now c.args.theory c.in-None.ensures (rw c.ancestor_list.ensures at c.in-None-index_among.ensures)

pub returns-in-Some-index_among : goal.returns-in-Some-index_among
returns-in-Some-index_among c = index_ancestor c.args.self.now c.args.theory c.in-Some-index_among.index (rw c.ancestor_list.ensures at c.in-Some-index_among.ensures)
