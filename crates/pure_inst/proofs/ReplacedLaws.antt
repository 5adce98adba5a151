-- What finite maps give a variable, entry by entry; and instances of lists of types.
use Rattle.std.proofs.Common.{◌≡◌, ◌∙◌, ◌↔◌, ℕ, ◌+◌, ◌<◌, ◌≤◌, Bool, true, false, List, [], ◌∷◌, length, get_or, drop, refl, ap, sym, zero, suc, arith}
use Rattle.pure_text.specs.Lists.{EachTwo}
use Rattle.pure_definitions.specs.Types.Typ.{Typ, Con, none, also, typs_of}
use Rattle.pure_definitions.specs.Terms.Term.{Term, term_eq}
use Rattle.pure_definitions.specs.Models.Equality.{term_eq-is_equality}
use Rattle.pure_definitions.specs.Terms.Subst.{TermBind, term_variable, term_image, typ_instance, typs_instance}

-- The entries from a place on begin with the one at the place.
pub drop-at : {A : Type 0} (xs : List A) (i : ℕ) (r : A) → i < length xs → r ≡ get_or xs i r → drop i xs ≡ r ∷ drop (i + 1) xs
drop-at [] i r within read = absurd (omega arith)
drop-at (x ∷ xs) zero r within read = ap (λ y. y ∷ xs) (sym read)
drop-at (x ∷ xs) (suc i) r within read = let e : suc i + 1 ≡ suc (i + 1) = omega arith in rw e (drop-at xs i r (omega arith) read)

drop-past : {A : Type 0} (xs : List A) (i : ℕ) → length xs ≤ i → drop i xs ≡ []
drop-past [] zero h = refl
drop-past [] (suc i) h = refl
drop-past (x ∷ xs) zero h = absurd (omega arith)
drop-past (x ∷ xs) (suc i) h = drop-past xs i (omega arith)

-- The entry replaces the variable, and none before it does.
pub image-found : (bs : List TermBind) (v : Term) (i : ℕ) (b : TermBind) → i < length bs → b ≡ get_or bs i b → term_image (drop i bs) v ≡ term_image bs v → term_variable b ≡ v → term_image bs v ≡ b.image
image-found bs v i b within read left is =
    let matches : term_eq (term_variable b) v ≡ true = (term_eq-is_equality (term_variable b) v).1 is in
    let here : term_image (b ∷ drop (i + 1) bs) v ≡ b.image = rw matches refl in
    sym left ∙ (ap (λ cs. term_image cs v) (drop-at bs i b within read) ∙ here)

other_term : (t u : Term) (b : Bool) → term_eq t u ≡ b → (t ≡ u → ⊥) → term_eq t u ≡ false
other_term t u true e isnt = absurd (isnt ((term_eq-is_equality t u).0 e))
other_term t u false e isnt = e

-- The entry doesn't, and the entries that are left decide.
pub image-passed : (bs : List TermBind) (v : Term) (i : ℕ) (b : TermBind) → i < length bs → b ≡ get_or bs i b → term_image (drop i bs) v ≡ term_image bs v → (¬ (term_variable b ≡ v)) → term_image (drop (i + 1) bs) v ≡ term_image bs v
image-passed bs v i b within read left isnt =
    let differs : term_eq (term_variable b) v ≡ false = other_term (term_variable b) v (term_eq (term_variable b) v) refl isnt in
    let here : term_image (b ∷ drop (i + 1) bs) v ≡ term_image (drop (i + 1) bs) v = rw differs refl in
    sym here ∙ (sym (ap (λ cs. term_image cs v) (drop-at bs i b within read)) ∙ left)

-- No entry does.
pub image-none : (bs : List TermBind) (v : Term) (i : ℕ) → length bs ≤ i → term_image (drop i bs) v ≡ term_image bs v → term_image bs v ≡ v
image-none bs v i past left = sym left ∙ ap (λ cs. term_image cs v) (drop-past bs i past)

-- The instances of types are other types, one by one.
pub two-instances : (image : Typ → Typ) (ts us : List Typ) → EachTwo (λ t u. typ_instance image t ≡ u) ts us ↔ (typs_instance image (typs_of ts) ≡ typs_of us)
two-instances image [] [] = (λ h. refl, λ e. tt)
two-instances image [] (u ∷ us) = (λ h. absurd h, λ e. (let other : none ≡ also u (typs_of us) = e in cc))
two-instances image (t ∷ ts) [] = (λ h. absurd h, λ e. (let other : also (typ_instance image t) (typs_instance image (typs_of ts)) ≡ none = e in cc))
two-instances image (t ∷ ts) (u ∷ us) =
    let rest = two-instances image ts us in (
      λ h. (λ l. also (h.0 l) (rest.0 h.1 l)),
      λ e. (
          let same : also (typ_instance image t) (typs_instance image (typs_of ts)) ≡ also u (typs_of us) = e in
          let first : typ_instance image t ≡ u = cc in
          let later : typs_instance image (typs_of ts) ≡ typs_of us = cc in
          (first, rest.1 later)),
    )

pub con-instances : (image : Typ → Typ) (k l : ℕ) (ts us : List Typ) → k ≡ l → EachTwo (λ t u. typ_instance image t ≡ u) ts us ↔ (Con k (typs_instance image (typs_of ts)) ≡ Con l (typs_of us))
con-instances image k l ts us e =
    let two = two-instances image ts us in
    (λ h. (λ i. Con (e i) (two.0 h i)), λ s. two.1 (let same : Con k (typs_instance image (typs_of ts)) ≡ Con l (typs_of us) = s in cc))
