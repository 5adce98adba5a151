use Rattle.std.proofs.Common.{◌≡◌, map, take}
use Rattle.pure_session.proofs.ordered.lent.Given as goal

-- those before the place are lent
abbrev pub invariant-loop-place : goal.invariant-loop-place
invariant-loop-place l = map (λ text. text.now) l.texts.items ≡ take l.place l.list
