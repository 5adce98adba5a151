-- Words on lists.
use Rattle.std.specs.Prelude.{◌≡◌, ◌⊎◌, List, [], ◌∷◌}

-- x is an element of the list
abbrev pub IsIn : {A : Type 0} → A → List A → Type 0
IsIn x [] = ⊥
IsIn x (y ∷ ys) = (x ≡ y) ⊎ IsIn x ys

-- each element of the list has the property
abbrev pub Each : {A : Type 0} → (A → Type 0) → List A → Type 0
Each P [] = Unit {0}
Each P (x ∷ xs) = P x × Each P xs

-- some element of the list has the property
abbrev pub AnyOf : {A : Type 0} → (A → Type 0) → List A → Type 0
AnyOf P [] = ⊥
AnyOf P (x ∷ xs) = P x ⊎ AnyOf P xs

-- the lists are as long, and the elements at each place are related
abbrev pub EachTwo : {A B : Type 0} → (A → B → Type 0) → List A → List B → Type 0
EachTwo R [] [] = Unit {0}
EachTwo R (x ∷ xs) (y ∷ ys) = R x y × EachTwo R xs ys
EachTwo R _ _ = ⊥

-- No element of the list stands in it twice.
abbrev pub AreDistinct : {A : Type 0} → List A → Type 0
AreDistinct [] = Unit {0}
AreDistinct (x ∷ xs) = (¬ IsIn x xs) × AreDistinct xs
