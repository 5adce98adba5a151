use Rattle.pure_kernel.proofs.NameTableLaws.{no-session_texts}
use Rattle.pure_kernel.proofs.table.name_table.Goals as goal

pub of_list-own-requires : goal.of_list-own-requires
of_list-own-requires c = no-session_texts c.empty.result c.empty.ensures

pub named-requires-clause-others : goal.named-requires-clause-others
named-requires-clause-others c = λ t m. ((c.in_ok-list.ensures.texts t).0 m).1
