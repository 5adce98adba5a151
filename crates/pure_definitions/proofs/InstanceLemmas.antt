-- Instances of types, and what the finite maps leave as it is.
use Rattle.std.proofs.Common.{◌≡◌, ℕ, ◌+◌, ◌-◌, ◌<◌, ◌≤◌, List, [], ◌∷◌, ◌++◌, map, take, length, get_or, refl, ap, sym, ◌∙◌}
use Rattle.std.proofs.lemmas.List.{get_or-map, length-map, take_all, map_more}
use Rattle.std.specs.Prelude.{Some, None}
use Rattle.pure_definitions.specs.Types.Typ.{Typ, TFree, also, typs_of, typ_size, typ_depth, typs_size, typs_depth}
use Rattle.pure_definitions.specs.Terms.Term.{Free}
use Rattle.pure_definitions.specs.Terms.Subst.{TypBind, TermBind, typ_image, term_image, typ_instance, typs_instance}
use Rattle.pure_definitions.specs.Terms.Limits.{Leaves}
use Rattle.pure_definitions.proofs.LeavesLemmas.{HasPut, put-stops, put-goes_on}

pub typ_image-fixed : (binds : List TypBind) (x : ℕ) (s : List ℕ) → typ_image binds (TFree x s) ≡ TFree x s
typ_image-fixed [] x s = refl
typ_image-fixed (b ∷ bs) x s = typ_image-fixed bs x s

pub term_image-fixed : (binds : List TermBind) (x : ℕ) (T : Typ) → term_image binds (Free x T) ≡ Free x T
term_image-fixed [] x T = refl
term_image-fixed (b ∷ bs) x T = term_image-fixed bs x T

pub typs_instance-of : (image : Typ → Typ) (ts : List Typ) → typs_instance image (typs_of ts) ≡ typs_of (map (typ_instance image) ts)
typs_instance-of image [] = refl
typs_instance-of image (t ∷ ts) = ap (λ us. also (typ_instance image t) us) (typs_instance-of image ts)

-- The instances of the types of a list, put into a room one after another.
pub instance-stops : (image : Typ → Typ) (ts : List Typ) (left room i rest : ℕ) (t : Typ) → HasPut (map (typ_instance image) ts) left room i rest → i < length ts → t ≡ get_or ts i t
    → Leaves rest (room - 1) (typ_size (typ_instance image t)) (typ_depth (typ_instance image t)) None
    → Leaves left room (1 + typs_size (typs_instance image (typs_of ts))) (1 + typs_depth (typs_instance image (typs_of ts))) None
instance-stops image ts left room i rest t h k e none =
    rw typs_instance-of
    (put-stops (map (typ_instance image) ts) left room i rest (typ_instance image t) h (rw length-map k)
    (ap (typ_instance image) e ∙ sym (get_or-map (typ_instance image) ts i t (typ_instance image t) k)) none)

pub instance-goes_on : (image : Typ → Typ) (ts : List Typ) (left room i rest less : ℕ) (t : Typ) → HasPut (map (typ_instance image) ts) left room i rest → i < length ts → t ≡ get_or ts i t
    → Leaves rest (room - 1) (typ_size (typ_instance image t)) (typ_depth (typ_instance image t)) (Some less) → HasPut (map (typ_instance image) ts) left room (i + 1) less
instance-goes_on image ts left room i rest less t h k e some =
    put-goes_on (map (typ_instance image) ts) left room i rest less (typ_instance image t) h (rw length-map k)
    (ap (typ_instance image) e ∙ sym (get_or-map (typ_instance image) ts i t (typ_instance image t) k)) some

pub instance-all : (image : Typ → Typ) (ts : List Typ) (left room i rest : ℕ) → HasPut (map (typ_instance image) ts) left room i rest → length ts ≤ i
    → (rest + (1 + typs_size (typs_instance image (typs_of ts))) ≡ left) × (1 + typs_depth (typs_instance image (typs_of ts)) ≤ room)
instance-all image ts left room i rest h k =
    let all = take_all i (map (typ_instance image) ts) (rw length-map k) in
    let size = rw all at h.size in
    let depth = rw all at h.depth in
    rw typs_instance-of (size, depth)

-- One more type of the list has its instance.
pub images-more : (image : Typ → Typ) (ts us vs : List Typ) (i : ℕ) (t u : Typ) → us ≡ map (typ_instance image) (take i ts) → vs ≡ us ++ u ∷ [] → u ≡ typ_instance image t → i < length ts
    → t ≡ get_or ts i t → vs ≡ map (typ_instance image) (take (i + 1) ts)
images-more image ts us vs i t u h v e k g = let more = map_more (typ_instance image) ts i t k in cc
