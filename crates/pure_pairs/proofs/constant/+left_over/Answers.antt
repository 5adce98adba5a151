use Rattle.std.proofs.Common.{◌≡◌, refl}
use Rattle.pure_definitions.specs.Terms.Term.{App}
use Rattle.pure_unify_definitions.specs.Fronts.{domains}
use Rattle.pure_pairs.proofs.SmashLaws.{left_over-application}
use Rattle.pure_pairs.proofs.constant.+left_over.Goals as goal

pub returns-in-Some : goal.returns-in-Some
returns-in-Some t c =
    let whole : c.args.t.now ≡ App c.deref.result.now c.in-App.arg.value = rw (← c.t.view_is, c.in-App.is, c.deref.ensures) refl in
    left_over-application c.args.v.now c.args.t.now c.deref.result.now c.in-App.arg.value (domains c.args.typ.now) c.in-Some.rest.now c.after_argument.result.now whole c.in-Some.ensures c.after_argument.ensures
