use Rattle.std.proofs.Common.{◌≡◌, refl}
use Rattle.pure_definitions.specs.Terms.Term.{App}
use Rattle.pure_unify_definitions.specs.Fronts.{abstractions}
use Rattle.pure_unify_sides.proofs.SplitLemmas.{pushed_on}
use Rattle.pure_unify_sides.proofs.split.+push_pairs.Goals as goal

pub returns-in_ok-push-in-App-App : goal.returns-in_ok-push-in-App-App
returns-in_ok-push-in-App-App t c =
    let first : c.args.f.now ≡ App c.in-App-App.fun.value c.in-App-App.arg.value = rw (← c.f.view_is, c.in-App-App.is-0) refl in
    let second : c.args.g.now ≡ App c.in-App-App.other.value c.in-App-App.second.value = rw (← c.g.view_is, c.in-App-App.is-1) refl in
    pushed_on (abstractions c.args.l.now) (abstractions c.args.r.now) c.args.f.now c.args.g.now c.in-App-App.fun.value c.in-App-App.other.value c.in-App-App.arg.value c.in-App-App.second.value
    c.deref.result.now c.deref-in-App-App.result.now c.in-App-App.arg.value c.in-App-App.second.value c.in_ok-argument_pair-in-App-App.field-0 c.args.pairs.now.items c.push_pairs.new.pairs.items c.push.new.self.items
    first second c.deref.ensures c.deref-in-App-App.ensures refl refl c.requires c.in_ok-push_pairs-in-App-App.ensures c.in_ok-argument_pair-in-App-App.ensures
    c.in_ok-push-in-App-App.ensures.items
