use Rattle.std.proofs.Common.{◌∙◌}
use Rattle.pure_unify_definitions.specs.Fronts.{domains}
use Rattle.pure_unify_sides.proofs.ImageLaws.{applied_one_more}
use Rattle.pure_unify_sides.proofs.images.+applied_to_new.Goals as goal

pub returns-in_ok-done-in-Some : goal.returns-in_ok-done-in-Some
returns-in_ok-done-in-Some t c =
    applied_one_more c.args.index c.args.name (domains c.args.typ.now) c.args.rest.now c.in-Some.domain.now c.in-Some.more.now c.args.function.value c.in_ok-arg-in-Some.arg.value c.in_ok-next-in-Some.next.value c.in_ok-done-in-Some.done.value
    c.in-Some.ensures c.in_ok-arg-in-Some.ensures (c.in_ok-next-in-Some.ensures.ok ∙ c.app.ensures) c.in_ok-done-in-Some.ensures
