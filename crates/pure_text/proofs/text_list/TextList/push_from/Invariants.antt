use Rattle.std.proofs.Common.{◌≡◌, ◌++◌, drop}
use Rattle.pure_text.proofs.text_list.TextList.push_from.Given as goal

-- what is left goes behind
abbrev pub invariant-loop-place : goal.invariant-loop-place
invariant-loop-place l = l.self ++ drop l.place l.other ≡ l.initial.self ++ drop l.from l.other
