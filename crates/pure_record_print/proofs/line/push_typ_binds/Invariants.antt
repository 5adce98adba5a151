use Rattle.std.proofs.Common.{◌≡◌, ◌++◌, drop}
use Rattle.pure_record_print.specs.Printed.{typ_binds_text}
use Rattle.pure_record_print.proofs.line.push_typ_binds.Given as goal

-- what is written, and the text of the entries that are left
abbrev pub invariant-loop-bind : goal.invariant-loop-bind
invariant-loop-bind l = l.text.items ++ typ_binds_text l.names (drop l.bind-index l.binds) ≡ l.initial.text.items ++ typ_binds_text l.names l.binds
