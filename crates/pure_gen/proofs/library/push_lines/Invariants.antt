use Rattle.std.proofs.Common.{◌≡◌, ◌*◌, ◌<◌, ℕ}
use Rattle.pure_gen.specs.Generated.{number_behind}
use Rattle.pure_gen.proofs.Lines.{HasLines}
use Rattle.pure_gen.proofs.library.push_lines.Given as goal

abbrev pub invariant-loop-i : goal.invariant-loop-i
invariant-loop-i l =
    (l.last < 65537) × ((start : ℕ) → l.x ≡ number_behind start (l.theory * l.lemmas) → HasLines start l.lemmas (l.theory * l.lemmas) l.i l.last l.initial.text.items l.text.items)
