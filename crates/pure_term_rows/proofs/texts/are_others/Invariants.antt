use Rattle.std.proofs.Common.{take}
use Rattle.pure_text.specs.Lists.{Each}
use Rattle.pure_term_rows.specs.Texts.{IsOther}
use Rattle.pure_term_rows.proofs.texts.are_others.Given as goal

abbrev pub invariant-loop-text : goal.invariant-loop-text
invariant-loop-text l = Each IsOther (take l.text-index l.texts)
