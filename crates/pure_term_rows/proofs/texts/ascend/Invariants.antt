use Rattle.pure_term_rows.specs.Texts.{AscendTo}
use Rattle.pure_term_rows.proofs.texts.ascend.Given as goal

abbrev pub invariant-loop-place : goal.invariant-loop-place
invariant-loop-place l = AscendTo l.place l.texts
