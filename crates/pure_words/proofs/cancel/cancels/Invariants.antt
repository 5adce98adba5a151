use Rattle.std.proofs.Common.{◌≡◌, ◌++◌, map, drop}
use Rattle.std.specs.Prelude.{option_map}
use Rattle.pure_words.specs.Values.{cancels_in}
use Rattle.pure_words.proofs.cancel.cancels.Given as goal

abbrev pub invariant-loop-part : goal.invariant-loop-part
invariant-loop-part l =
    option_map (λ rest. l.list.items ++ rest) (cancels_in (map (λ part. part.now) (drop l.part-index l.part-items)))
    ≡ cancels_in (map (λ part. part.now) l.part-items)
