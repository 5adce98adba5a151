use Rattle.std.proofs.Common.{◌≡◌, map, take}
use Rattle.pure_words.proofs.read.texts_of.Given as goal

abbrev pub invariant-loop-word : goal.invariant-loop-word
invariant-loop-word l = map (λ s. s.now) l.list.items ≡ take l.word-index l.words
