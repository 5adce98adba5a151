use Rattle.std.proofs.Common.{take}
use Rattle.pure_order_tables.specs.Sorts.{AreUpWords}
use Rattle.pure_order_tables.proofs.tables.Tables.up_words.Given as goal

abbrev pub invariant-loop-class : goal.invariant-loop-class
invariant-loop-class l = AreUpWords l.self (take l.class-index l.classes) l.words
