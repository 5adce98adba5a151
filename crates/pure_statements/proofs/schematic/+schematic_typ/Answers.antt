use Rattle.std.proofs.Common.{sym, ◌∙◌}
use Rattle.std.proofs.lemmas.List.{take_all}
use Rattle.pure_definitions.proofs.InstanceLemmas.{typs_instance-of, images-more}
use Rattle.pure_definitions.proofs.MeasureLemmas.{ground_stays}
use Rattle.pure_logic.specs.Content.{schematic_typ_variable}
use Rattle.pure_statements.proofs.schematic.+schematic_typ.Goals as goal

pub returns-then-is_ground_typ : goal.returns-then-is_ground_typ
returns-then-is_ground_typ t c = rw (ground_stays schematic_typ_variable c.args.t.now (sym c.is_ground_typ.ensures ∙ c.if-is_ground_typ.true)) c.copy.ensures

pub returns-in-TVar : goal.returns-in-TVar
returns-in-TVar t c = rw (← c.t.view_is, c.in-TVar.is) (rw (← c.t.view_is, c.in-TVar.is) at c.copy-in-TVar.ensures)

pub loop-arg-preserved : goal.loop-arg-preserved
loop-arg-preserved t c =
    images-more schematic_typ_variable c.as_slice-args.result.now c.loop-arg.images.items c.push.new.self.items c.loop-arg.arg-index c.arg-item.result c.in_ok-schematic_typ-in-Con.field-0
    c.loop-arg.invariant c.in_ok-push-in-Con.ensures.items c.in_ok-schematic_typ-in-Con.ensures c.loop-arg-test.true c.arg-item.is

pub returns-after-loop-arg : goal.returns-after-loop-arg
returns-after-loop-arg t c =
    let all = take_all c.loop-arg.arg-index c.as_slice-args.result.now c.loop-arg-test.false in
    let images = rw all at c.loop-arg.invariant in
    rw (← c.t.view_is, c.in-Con.is, ← c.as_slice-args.ensures, typs_instance-of schematic_typ_variable c.as_slice-args.result.now, ← images) c.constructed.ensures
