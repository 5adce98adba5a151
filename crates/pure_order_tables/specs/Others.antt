-- A list and what another has beside it.
use Rattle.std.specs.Prelude.{◌≡◌, List, [], ◌∷◌, ◌++◌}
use Rattle.pure_text.specs.Lists.{IsIn}

-- The second list's elements that aren't in the first are the third list, in order.
pub data AreOthers {T : Type 0} (xs : List T) : List T → List T → Type 0 where
  none : AreOthers xs [] []
  there : {y : T} {ys zs : List T} → IsIn y xs → AreOthers xs ys zs → AreOthers xs (y ∷ ys) zs
  new : {y : T} {ys zs : List T} → ¬ IsIn y xs → AreOthers xs ys zs → AreOthers xs (y ∷ ys) (y ∷ zs)

-- The third list is the first and then, in order, the second's elements that aren't in the first.
pub record AreWithOthers {T : Type 0} (xs ys zs : List T) : Type 0 where
  pub others : List T
  pub are : AreOthers xs ys others
  pub joined : zs ≡ xs ++ others
