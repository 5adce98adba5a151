use Rattle.std.proofs.Common.{◌≡◌, drop}
use Rattle.pure_words.specs.Words.{no_given}
use Rattle.pure_words.specs.Reader.{Idle, run, seen}
use Rattle.pure_words.proofs.given.given_by.Given as goal

abbrev pub invariant-loop-word : goal.invariant-loop-word
invariant-loop-word l = run (seen l.turn l.given) (drop l.word-index l.words) ≡ run (Idle no_given) l.words
