use Rattle.std.proofs.Common.{◌≡◌, ◌<◌, refl, subst, arith}
use Rattle.std.specs.Prelude.{IfOk}
use Rattle.pure_definitions.specs.Terms.Term.{Term, App}
use Rattle.pure_unify_definitions.specs.Fronts.{domains}
use Rattle.pure_pairs.specs.Smash.{term_index_above}
use Rattle.pure_pairs.proofs.IndexLaws.{constant_stays}
use Rattle.pure_pairs.proofs.SmashLaws.{constant-application}
use Rattle.pure_pairs.proofs.constant.+with_constant.Goals as goal

pub returns-then-index_above_of : goal.returns-then-index_above_of
returns-then-index_above_of t c =
    let below : term_index_above c.args.t.now.value < term_index_above c.args.v.now = rw (← c.deref-whole.ensures) (omega arith) in
    rw (constant_stays c.args.v.now (domains c.args.typ.now) c.args.c.now c.args.t.now.value below) c.try_clone.ensures

pub returns-in-Some : goal.returns-in-Some
returns-in-Some t c =
    let whole : c.args.t.now.value ≡ App c.deref.result.now c.in-App.arg.value = rw (← c.deref-whole.ensures, ← c.whole.view_is, c.in-App.is, c.deref.ensures) refl in
    let same = constant-application c.args.v.now c.args.t.now.value c.deref.result.now c.in-App.arg.value c.args.c.now (domains c.args.typ.now) c.in-Some.rest.now c.after_argument.result.now whole c.in-Some.ensures c.after_argument.ensures in
    subst (λ (x : Term). IfOk c.constant_function-in-Some.result (λ u. u.value ≡ x)) same c.constant_function-in-Some.ensures
