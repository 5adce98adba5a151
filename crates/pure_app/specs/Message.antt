-- The line on standard error, by the status.
use Rattle.std.specs.Prelude.{ℕ, List, codes, Option, Some, None}
use Rattle.pure_check.specs.declared.status.Status.{Status}
use Rattle.pure_check.specs.declared.status.Status.TheVariants.{Clean, Rows, Usage, ReadFault, WriteFault, Memory}

abbrev pub message_text : Status → Option (List ℕ)
message_text Clean = None
message_text Rows = None
message_text Usage = Some (codes "usage")
message_text ReadFault = Some (codes "read fault")
message_text WriteFault = Some (codes "write fault")
message_text Memory = Some (codes "out of memory")
