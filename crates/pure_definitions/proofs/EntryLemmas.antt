-- What finite maps do to the variables of their entries, and to others.
use Rattle.std.proofs.Common.{◌≡◌, List, [], ◌∷◌, map, Bool, true, false, cond, refl, sym, inl, inr}
use Rattle.pure_text.specs.Lists.{IsIn}
use Rattle.pure_text.proofs.ListLaws.{in-map}
use Rattle.pure_definitions.specs.Types.Typ.{Typ, typ_eq}
use Rattle.pure_definitions.specs.Terms.Term.{Term, term_eq}
use Rattle.pure_definitions.specs.Terms.Subst.{TypBind, TermBind, IsTypMap, IsTermMap, typ_variable, term_variable, typ_image, term_image}
use Rattle.pure_definitions.specs.Models.Equality.{typ_eq-same, typ_eq-itself, term_eq-same, term_eq-itself}

-- what holds of the first where the test holds, and of the second, holds of the chosen one
pub chosen : {A : Type 0} (P : A → Type 0) (b : Bool) (x y : A) → (b ≡ true → P x) → P y → P (cond b x y)
chosen P true x y h k = h refl
chosen P false x y h k = k

-- An entry's variable is sent to its image.
pub typ_image-entry : (binds : List TypBind) (b : TypBind) → IsTypMap binds → IsIn b binds → typ_image binds (typ_variable b) ≡ b.image
typ_image-entry [] b h m = absurd m
typ_image-entry (x ∷ xs) b h m = elim m [
  | inl e ↦ rw e (rw (typ_eq-itself (typ_variable x)) refl)
  | inr n ↦ chosen (λ T. T ≡ b.image) (typ_eq (typ_variable x) (typ_variable b)) x.image (typ_image xs (typ_variable b))
      (λ t. absurd (h.0 (rw (typ_eq-same (typ_variable x) (typ_variable b) t) (in-map typ_variable b xs n))))
      (typ_image-entry xs b h.1 n)
]

pub term_image-entry : (binds : List TermBind) (b : TermBind) → IsTermMap binds → IsIn b binds → term_image binds (term_variable b) ≡ b.image
term_image-entry [] b h m = absurd m
term_image-entry (x ∷ xs) b h m = elim m [
  | inl e ↦ rw e (rw (term_eq-itself (term_variable x)) refl)
  | inr n ↦ chosen (λ t. t ≡ b.image) (term_eq (term_variable x) (term_variable b)) x.image (term_image xs (term_variable b))
      (λ t. absurd (h.0 (rw (term_eq-same (term_variable x) (term_variable b) t) (in-map term_variable b xs n))))
      (term_image-entry xs b h.1 n)
]

-- What is no entry's variable stays.
pub typ_image-absent : (binds : List TypBind) (v : Typ) → (¬ IsIn v (map typ_variable binds)) → typ_image binds v ≡ v
typ_image-absent [] v none = refl
typ_image-absent (x ∷ xs) v none =
    chosen (λ T. T ≡ v) (typ_eq (typ_variable x) v) x.image (typ_image xs v)
    (λ t. absurd (none (inl (sym (typ_eq-same (typ_variable x) v t)))))
    (typ_image-absent xs v (λ m. none (inr m)))

pub term_image-absent : (binds : List TermBind) (v : Term) → (¬ IsIn v (map term_variable binds)) → term_image binds v ≡ v
term_image-absent [] v none = refl
term_image-absent (x ∷ xs) v none =
    chosen (λ t. t ≡ v) (term_eq (term_variable x) v) x.image (term_image xs v)
    (λ t. absurd (none (inl (sym (term_eq-same (term_variable x) v t)))))
    (term_image-absent xs v (λ m. none (inr m)))
