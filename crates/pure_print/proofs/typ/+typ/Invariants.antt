use Rattle.std.proofs.Common.{◌≡◌, ◌+◌, ◌*◌, ◌++◌, drop}
use Rattle.pure_definitions.specs.Types.Typ.{typs_of, typ_depth, typs_depth}
use Rattle.pure_print.specs.TypText.{more_typs_text}
use Rattle.pure_print.proofs.typ.+typ.Given as goal

abbrev pub decreases-push_typ : goal.decreases-push_typ
decreases-push_typ l = 3 * typ_depth l.t.now

abbrev pub decreases-push_operand : goal.decreases-push_operand
decreases-push_operand l = 3 * typ_depth l.t.now + 1

abbrev pub decreases-push_more_typs : goal.decreases-push_more_typs
decreases-push_more_typs l = 3 * typs_depth (typs_of l.args.now) + 1

abbrev pub decreases-push_applied : goal.decreases-push_applied
decreases-push_applied l = 3 * typs_depth (typs_of l.args.now) + 2

-- what is written, and the text of the types that are left
abbrev pub invariant-push_more_typs-loop-arg : goal.invariant-push_more_typs-loop-arg
invariant-push_more_typs-loop-arg l = l.text.items ++ more_typs_text l.names (typs_of (drop l.arg-index l.args)) ≡ l.initial.text.items ++ more_typs_text l.names (typs_of l.args)
