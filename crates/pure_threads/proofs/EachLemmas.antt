-- A value put behind those before it.
use Rattle.std.proofs.Common.{◌≡◌, List, [], ◌∷◌, ◌++◌, Result, Ok, Err, IfOk}
use Rattle.pure_text.specs.Lists.{EachTwo}
use Rattle.pure_text.proofs.ListLaws.{two-append}

pub behind_ok : {A V E : Type 0} (R : A → A → Type 0) (items : V → List A) (r : Result V E) (xs us ys : List A) (x y : A) → us ≡ xs ++ x ∷ [] → EachTwo R xs ys → R x y → IfOk r (λ v. items v ≡ ys ++ y ∷ []) → IfOk r (λ v. EachTwo R us (items v))
behind_ok R items (Ok v) xs us ys x y e before last is = rw (e, is) (two-append R xs (x ∷ []) ys (y ∷ []) before (last, tt))
behind_ok R items (Err error) xs us ys x y e before last is = tt
