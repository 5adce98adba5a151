-- The image of a variable by a look at one entry after the other.
use Rattle.std.proofs.Common.{◌≡◌, ℕ, ◌+◌, ◌<◌, suc, List, ◌∷◌, length, get_or, drop, true, false, add-one, drop-cons, refl, ap, sym, ◌∙◌}
use Rattle.std.proofs.lemmas.List.{drop_all}
use Rattle.std.specs.Prelude.{◌≤◌}
use Rattle.pure_definitions.specs.Types.Typ.{Typ, typ_eq}
use Rattle.pure_definitions.specs.Terms.Subst.{TypBind, typ_variable, typ_image}

first_read : (binds : List TypBind) (i : ℕ) (b : TypBind) → i < length binds → b ≡ get_or binds i b → drop i binds ≡ b ∷ drop (i + 1) binds
first_read binds i b within read = rw (add-one) (drop-cons binds i b within ∙ ap (λ c. c ∷ drop (suc i) binds) (sym read))

entry_other : (b : TypBind) (bs : List TypBind) (v : Typ) → typ_eq (typ_variable b) v ≡ false → typ_image (b ∷ bs) v ≡ typ_image bs v
entry_other b bs v other = rw other refl

entry_here : (b : TypBind) (bs : List TypBind) (v : Typ) → typ_eq (typ_variable b) v ≡ true → typ_image (b ∷ bs) v ≡ b.image
entry_here b bs v here = rw here refl

module _ (binds : List TypBind) (i : ℕ) (b : TypBind) (v : Typ) (within : i < length binds) (read : b ≡ get_or binds i b) (before : typ_image binds v ≡ typ_image (drop i binds) v) where
  -- An entry for another variable is passed over; one for this variable has its image.
  pub image-past : typ_eq (typ_variable b) v ≡ false → typ_image binds v ≡ typ_image (drop (i + 1) binds) v
  image-past other = before ∙ ap (λ l. typ_image l v) (first_read binds i b within read) ∙ entry_other b (drop (i + 1) binds) v other

  pub image-here : typ_eq (typ_variable b) v ≡ true → typ_image binds v ≡ b.image
  image-here here = before ∙ ap (λ l. typ_image l v) (first_read binds i b within read) ∙ entry_here b (drop (i + 1) binds) v here

-- Behind all entries there is none for the variable.
pub image-none : (binds : List TypBind) (i : ℕ) (v : Typ) → length binds ≤ i → typ_image binds v ≡ typ_image (drop i binds) v → typ_image binds v ≡ v
image-none binds i v all before = before ∙ ap (λ l. typ_image l v) (drop_all i binds all)
