use Rattle.std.proofs.Common.{◌≡◌, ◌++◌, map, string_bytes}
use Rattle.std.specs.Vec.Iter.{into_iter_items}
use Rattle.pure_app.specs.Words.{words_given}
use Rattle.pure_app.proofs.words_of.Given as goal

abbrev pub invariant-loop-arg : goal.invariant-loop-arg
invariant-loop-arg l = l.words.items ++ map string_bytes (into_iter_items l.arg-iterator) ≡ words_given l.fn.args
