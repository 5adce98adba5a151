use Rattle.std.proofs.Common.{◌-◌, drop, length, arith}
use Rattle.std.specs.Prelude.{Some}
use Rattle.pure_text.proofs.ListLaws.{read_in}
use Rattle.pure_lookup.proofs.PlaceLemmas.{best-new, best-front, best-passed, one-before}
use Rattle.pure_lookup.proofs.find.last_of.Goals as goal
use Rattle.pure_lookup.proofs.find.last_of.Goals.{in-Some, in_default}

pub loop-back-preserved : goal.loop-back-preserved
loop-back-preserved g c =
    let texts = c.args.names.now in
    let Q = g.S.Scope.content c.args.scope.now in
    let space = g.S.Scope.space c.args.scope.now in
    let base = c.args.written.now in
    let all = c.args.candidates.now in
    let back = c.loop-back.back in
    let names = drop (length all - back) all in
    let x = c.from_end-name.result in
    let more = one-before all back x c.loop-back-test.true c.from_end-name.ensures in
    let based = c.requires.bases x (read_in all (length all - 1 - back) x (omega (arith, c.loop-back-test.true)) c.from_end-name.ensures) in
    elim c.match-later_place.branch [
      | in-Some w ↦ rw (more, w.best-is, w.last-is) (best-front texts Q space c.requires.session base names x (Some x) w.in-Some.place (best-new texts Q space c.requires.session base names x based c.loop-back.best c.loop-back.last w.in-Some.place w.in-Some.ensures.0 w.in-Some.ensures.1 c.loop-back.invariant))
      | in_default w ↦ rw (more, w.best-is, w.last-is) (best-passed texts Q space c.requires.session base names x c.loop-back.best c.loop-back.last w.in_default.ensures c.loop-back.invariant)
    ]
