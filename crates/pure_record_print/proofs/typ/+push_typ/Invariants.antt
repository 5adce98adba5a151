use Rattle.std.proofs.Common.{◌≡◌, ◌+◌, ◌*◌, ◌++◌, drop}
use Rattle.pure_definitions.specs.Types.Typ.{typs_of, typ_depth, typs_depth}
use Rattle.pure_record_print.specs.Printed.{more_arguments_text}
use Rattle.pure_record_print.proofs.typ.+push_typ.Given as goal

abbrev pub decreases-push_typ : goal.decreases-push_typ
decreases-push_typ l = 3 * typ_depth l.t.now

abbrev pub decreases-push_more_arguments : goal.decreases-push_more_arguments
decreases-push_more_arguments l = 3 * typs_depth (typs_of l.args.now) + 1

abbrev pub decreases-push_arguments : goal.decreases-push_arguments
decreases-push_arguments l = 3 * typs_depth (typs_of l.args.now) + 2

-- what is written, and the text of the types that are left
abbrev pub invariant-push_more_arguments-loop-arg : goal.invariant-push_more_arguments-loop-arg
invariant-push_more_arguments-loop-arg l = l.text.items ++ more_arguments_text l.names (typs_of (drop l.arg-index l.args)) ≡ l.initial.text.items ++ more_arguments_text l.names (typs_of l.args)
