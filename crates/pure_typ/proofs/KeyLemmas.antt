-- Keys of entries, where no two entries have the same.
use Rattle.std.proofs.Common.{List, [], ◌∷◌, ◌++◌, map, refl, subst, inl, inr}
use Rattle.pure_text.specs.Lists.{IsIn, AreDistinct}
use Rattle.pure_text.proofs.ListLaws.{in-map, in-append_right}

-- An entry's key is no key of those before it.
pub key-new : {A B : Type 0} (key : A → B) (before behind : List A) (x : A) → AreDistinct (map key (before ++ x ∷ behind)) → ¬ IsIn (key x) (map key before)
key-new key [] behind x d = λ m. m
key-new key (y ∷ ys) behind x d = λ m. elim m [
  | inl e ↦ d.0 (subst (λ k. IsIn k (map key (ys ++ x ∷ behind))) e (in-map key x (ys ++ x ∷ behind) (in-append_right x ys (x ∷ behind) (inl refl))))
  | inr n ↦ key-new key ys behind x d.1 n
]
