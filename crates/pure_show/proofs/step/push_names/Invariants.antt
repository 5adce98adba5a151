use Rattle.std.proofs.Common.{◌≡◌, ◌++◌, drop}
use Rattle.pure_show.specs.Lines.{names_text}
use Rattle.pure_show.proofs.step.push_names.Given as goal

abbrev pub invariant-loop-place : goal.invariant-loop-place
invariant-loop-place l = l.text.items ++ names_text (drop l.place l.names) ≡ l.initial.text.items ++ names_text l.names
