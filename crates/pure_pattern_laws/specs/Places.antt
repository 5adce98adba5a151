-- Two lists of distinct bound variables, those to which a variable is applied, and what stands at their places in another list. (That is the variables of abstractions, or their types.)
use Rattle.std.specs.Prelude.{ℕ, List, [], ◌∷◌, Option, Some, None, nat_eq, if◌then◌else◌}
use Rattle.std.specs.List.{list_any}

-- the elements at the places where both lists have the same bound variable, in order
abbrev pub agreeing : {A : Type 0} → (zs ws : List ℕ) → List A → List A
agreeing (z ∷ zs) (w ∷ ws) (x ∷ xs) = if nat_eq z w then (x ∷ agreeing zs ws xs) else agreeing zs ws xs
agreeing _ _ _ = []

-- the elements at the places of zs whose bound variable stands in ws, too, in order
abbrev pub shared_left : {A : Type 0} → (zs ws : List ℕ) → List A → List A
shared_left (z ∷ zs) ws (x ∷ xs) = if list_any (nat_eq z) ws then (x ∷ shared_left zs ws xs) else shared_left zs ws xs
shared_left _ ws _ = []

-- the element at the place of the bound variable z in ws, if it stands there
abbrev pub at_place : {A : Type 0} → (z : ℕ) → (ws : List ℕ) → List A → Option A
at_place z (w ∷ ws) (y ∷ ys) = if nat_eq z w then Some y else at_place z ws ys
at_place z _ _ = None

-- the list behind an element, if there is one
abbrev pub with_first : {A : Type 0} → Option A → List A → List A
with_first (Some x) xs = x ∷ xs
with_first None xs = xs

-- the elements at the places in ws of those bound variables that stand in zs, too, in the order of zs
abbrev pub shared_right : {A : Type 0} → (zs ws : List ℕ) → List A → List A
shared_right [] ws ys = []
shared_right (z ∷ zs) ws ys = with_first (at_place z ws ys) (shared_right zs ws ys)
