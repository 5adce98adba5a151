-- Lists that are reversed, and lists as far as a loop has come.
use Rattle.std.proofs.Common.{◌≡◌, ◌∙◌, List, [], ◌∷◌, ◌++◌, map, reverse, ap, refl, sym, subst}
use Rattle.std.proofs.lemmas.List.{append_assoc, append-nil, map-append, reverse-append, reverse-reverse}
use Rattle.pure_text.specs.Lists.{Each}
use Rattle.pure_text.proofs.ListLaws.{each-append, each-right}

pub each-reverse : {A : Type 0} (P : A → Type 0) (xs : List A) → Each P xs → Each P (reverse xs)
each-reverse P [] h = tt
each-reverse P (x ∷ xs) h = subst (λ ys. Each P ys) (sym (reverse-append (x ∷ []) xs)) (each-append P (reverse xs) (x ∷ []) (each-reverse P xs h.1) (h.0, tt))

pub each-back : {A : Type 0} (P : A → Type 0) (xs : List A) → Each P (reverse xs) → Each P xs
each-back P xs h = subst (λ ys. Each P ys) (reverse-reverse xs) (each-reverse P (reverse xs) h)

pub map-reverse : {A B : Type 0} (f : A → B) (xs : List A) → map f (reverse xs) ≡ reverse (map f xs)
map-reverse f [] = refl
map-reverse f (x ∷ xs) =
    ap (map f) (reverse-append (x ∷ []) xs) ∙ (map-append f (reverse xs) (x ∷ []) ∙ (ap (λ ys. ys ++ f x ∷ []) (map-reverse f xs) ∙ sym (reverse-append (f x ∷ []) (map f xs))))

-- The first of what is held in reverse is the last.
pub first-last : {A : Type 0} (xs : List A) (x : A) → reverse (xs ++ x ∷ []) ≡ x ∷ reverse xs
first-last xs x = reverse-append xs (x ∷ [])

pub put-before : {A : Type 0} (xs ys : List A) → reverse (xs ++ reverse ys) ≡ ys ++ reverse xs
put-before xs ys = reverse-append xs (reverse ys) ∙ ap (λ zs. zs ++ reverse xs) (reverse-reverse ys)

-- One more of what a loop makes.
pub one-more : {A : Type 0} (made rest whole : List A) (x : A) → made ++ x ∷ rest ≡ whole → (made ++ x ∷ []) ++ rest ≡ whole
one-more made rest whole x e = append_assoc made (x ∷ []) rest ∙ e

pub map-more : {A B : Type 0} (f : A → B) (made whole : List B) (left rest : List A) (x : A) (y : B) → made ++ map f left ≡ whole → left ≡ x ∷ rest → y ≡ f x → (made ++ y ∷ []) ++ map f rest ≡ whole
map-more f made whole left rest x y e is same =
    one-more made (map f rest) whole y (ap (λ z. made ++ z ∷ map f rest) same ∙ (ap (λ zs. made ++ map f zs) (sym is) ∙ e))

pub map-over : {A B : Type 0} (f : A → B) (made whole : List B) (left : List A) → made ++ map f left ≡ whole → left ≡ [] → made ≡ whole
map-over f made whole left e none = sym (append-nil made) ∙ (ap (λ zs. made ++ map f zs) (sym none) ∙ e)

-- An element that isn't such stands among those that are made.
pub none-such : {A B : Type 0} (f : A → B) (P : B → Type 0) (made whole : List B) (left rest : List A) (x : A) → made ++ map f left ≡ whole → left ≡ x ∷ rest → (¬ P (f x)) → ¬ Each P whole
none-such f P made whole left rest x e is lacks h = lacks ((each-right P made (map f (x ∷ rest)) (subst (Each P) (sym (ap (λ zs. made ++ map f zs) (sym is) ∙ e)) h)).0)
