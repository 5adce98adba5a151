use Rattle.std.proofs.Common.{◌≡◌, ◌≢◌, ◌∙◌, ℕ, suc, Some, length, refl, ap, arith}
use Rattle.std.proofs.lemmas.Option.{slice_get_read}
use Rattle.pure_machine.specs.State.{Running}
use Rattle.pure_machine.proofs.PromiseLaws.{all_more}
use Rattle.pure_machine.proofs.ReadyLaws.{none_runs}
use Rattle.pure_machine.proofs.theories.some_runs.Goals as goal

pub returns-then-is_running : goal.returns-then-is_running
returns-then-is_running g c =
    let runs : (k : ℕ) × (c.index-theories-at.result ≡ Running k) = c.if-is_running.ensures in
    (suc c.loop-at.at, runs.0, slice_get_read c.args.theories.now (length c.args.theories.now) c.loop-at.at c.index-theories-at.result refl c.loop-at-test.true c.index-theories-at.is ∙ ap (λ q. Some q) runs.1)

pub loop-at-preserved : goal.loop-at-preserved
loop-at-preserved g c = all_more (λ q. (k : ℕ) → q ≢ Running k) c.args.theories.now c.loop-at.at c.index-theories-at.result c.loop-at-test.true c.index-theories-at.is c.if-is_running.ensures c.loop-at.invariant

pub returns : goal.returns
returns g c = none_runs c.args.theories.now c.loop-at.at (omega (arith, c.loop-at-test.false)) c.loop-at.invariant
