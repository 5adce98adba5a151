use Rattle.std.proofs.Common.{◌+◌, ◌-◌, ◌*◌}
use Rattle.pure_norm.specs.Env.{meant}
use Rattle.pure_norm.specs.Walk.{Abstraction, Walked}
use Rattle.pure_norm.specs.Pieces.{IsPiece}
use Rattle.pure_norm.specs.Turn.{turns}
use Rattle.pure_norm.proofs.walk.+walk.Given as goal

abbrev pub decreases-normal_form : goal.decreases-normal_form
decreases-normal_form l = 4 * (2000 - l.deep) + 3

abbrev pub decreases-head_of : goal.decreases-head_of
decreases-head_of l = 4 * (2000 - l.deep) + 2

abbrev pub decreases-turn_at : goal.decreases-turn_at
decreases-turn_at l = 4 * (2000 - l.deep) + 1

abbrev pub decreases-apply : goal.decreases-apply
decreases-apply l = 4 * (2000 - l.deep)

abbrev pub invariant-head_of-contractions : goal.invariant-head_of-contractions
invariant-head_of-contractions l = Walked Abstraction l.deep l.initial.walk l.walk (meant l.scope.value l.t.term.now) (meant l.place.value l.piece.term.now) × IsPiece l.piece

abbrev pub decreases-head_of-contractions : goal.decreases-head_of-contractions
decreases-head_of-contractions l = turns l.walk l.piece.term.now
