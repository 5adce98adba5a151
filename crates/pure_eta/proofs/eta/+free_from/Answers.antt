use Rattle.std.proofs.Common.{◌≡◌, refl, arith}
use Rattle.pure_definitions.specs.Terms.Term.{App}
use Rattle.pure_eta.proofs.BareLaws.{lacks-app}
use Rattle.pure_eta.proofs.StaysLaws.{lacks-above}
use Rattle.pure_eta.proofs.eta.+free_from.Goals as goal

pub returns-then-loose_above_of-from : goal.returns-then-loose_above_of-from
returns-then-loose_above_of-from t c = lacks-above c.args.from _ c.args.t.now (omega arith)

pub returns-in-App : goal.returns-in-App
returns-in-App t c =
    let e : c.args.t.now ≡ App c.deref-in-App.result.now c.deref-in-App-2.result.now = rw (← c.t.view_is, c.in-App.is, c.deref-in-App.ensures, c.deref-in-App-2.ensures) refl in
    rw (c.min.ensures, e)
    (lacks-app c.args.from c.free_from-in-App.result c.free_from-in-App-2.result c.deref-in-App.result.now c.deref-in-App-2.result.now c.free_from-in-App.ensures c.free_from-in-App-2.ensures)
