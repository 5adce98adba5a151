use Rattle.pure_session.specs.Places.{cells, is_marked}
use Rattle.pure_session.proofs.JudgeLemmas.{AreLostBelow}
use Rattle.pure_session.proofs.judge.lost_places.Given as goal

abbrev pub invariant-loop-place : goal.invariant-loop-place
invariant-loop-place l = AreLostBelow (is_marked (cells l.rows)) l.count l.place l.lost.items
