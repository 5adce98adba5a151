use Rattle.std.proofs.Common.{ap, ◌∙◌, map}
use Rattle.pure_definitions.specs.Terms.Subst.{typ_image, retyped_variable}
use Rattle.pure_unify_steps.proofs.LoopLaws.{gather_typs}
use Rattle.pure_unify_steps.proofs.gather.gather_one.Goals as goal

pub returns-in_ok-retyped_all-in-OfTyps : goal.returns-in_ok-retyped_all-in-OfTyps
returns-in_ok-retyped_all-in-OfTyps c =
    gather_typs c.in-OfTyps.typs c.args.list.items c.in_ok-retyped_all-in-OfTyps.field-0.items c.args.setting.now c.in-OfTyps.is
    (c.in_ok-retyped_all-in-OfTyps.ensures ∙ ap (map (retyped_variable (typ_image c.in-OfTyps.typs))) c.deref.ensures.value)
