-- Lists whose first element is last.
use Rattle.std.proofs.Common.{◌≡◌, ℕ, ◌-◌, List, [], ◌∷◌, ◌++◌, length, take, reverse, refl, ap, sym, subst, ◌∙◌, append_assoc, arith}
use Rattle.std.proofs.lemmas.List.{reverse-append, reverse-reverse, append-nil}
use Rattle.pure_text.specs.Lists.{Each}
use Rattle.pure_text.proofs.ListLaws.{each-append, each-left, each-right}

pub each-reverse : {A : Type 0} (P : A → Type 0) (xs : List A) → Each P xs → Each P (reverse xs)
each-reverse P [] h = tt
each-reverse P (x ∷ xs) h = subst (λ ys. Each P ys) (sym (reverse-append (x ∷ []) xs)) (each-append P (reverse xs) (x ∷ []) (each-reverse P xs h.1) (h.0, tt))

-- The last element is the first of the list the other way round.
pub last_first : {A : Type 0} (old new : List A) (x : A) → old ≡ new ++ x ∷ [] → reverse old ≡ x ∷ reverse new
last_first old new x e = ap reverse e ∙ reverse-append new (x ∷ [])

pub last_each : {A : Type 0} (P : A → Type 0) (old new : List A) (x : A) → old ≡ new ++ x ∷ [] → Each P old → Each P new × P x
last_each P old new x e h =
    let whole = subst (λ ys. Each P ys) e h in
    (each-left P new (x ∷ []) whole, (each-right P new (x ∷ []) whole).0)

-- Where nothing is popped the list is empty.
pub nothing_popped : {A : Type 0} (old new : List A) (n : ℕ) → n ≡ 0 → new ≡ take (n - 1) old → old ≡ new ++ [] → old ≡ []
nothing_popped old new n e f g = g ∙ (append-nil new ∙ (f ∙ ap (λ m. take (m - 1) old) e))

-- Moving the last element behind another list.
pub moved_back : {A : Type 0} (old new list more : List A) (x : A) → old ≡ new ++ x ∷ [] → more ≡ list ++ x ∷ [] → more ++ reverse new ≡ list ++ reverse old
moved_back old new list more x e f =
    ap (λ ys. ys ++ reverse new) f ∙ (append_assoc list (x ∷ []) (reverse new) ∙ ap (λ ys. list ++ ys) (sym (last_first old new x e)))

-- What is put behind such a list stands in front.
pub put_in_front : {A : Type 0} (old made : List A) → reverse (old ++ reverse made) ≡ made ++ reverse old
put_in_front old made = reverse-append old (reverse made) ∙ ap (λ ys. ys ++ reverse old) (reverse-reverse made)

-- Two fronts of one length of a list are equal, and so is what is behind.
pub same_cut : {A : Type 0} (xs ys us vs : List A) → xs ++ us ≡ ys ++ vs → length xs ≡ length ys → (xs ≡ ys) × (us ≡ vs)
same_cut [] [] us vs e n = (refl, e)
same_cut [] (y ∷ ys) us vs e n = absurd (omega arith)
same_cut (x ∷ xs) [] us vs e n = absurd (omega arith)
same_cut (x ∷ xs) (y ∷ ys) us vs e n =
    let here : x ≡ y = cc in
    let rest : xs ++ us ≡ ys ++ vs = cc in
    let cut = same_cut xs ys us vs rest (omega arith) in
    ((λ i. here i ∷ cut.0 i), cut.1)
