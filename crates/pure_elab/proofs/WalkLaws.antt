-- Walks over lists: what one element more adds.
use Rattle.std.proofs.Common.{◌≡◌, ℕ, zero, suc, ◌+◌, ◌<◌, ◌≤◌, List, [], ◌∷◌, ◌++◌, map, length, take, get_or, Option, refl, ap, sym, ◌∙◌, append_assoc, append-nil, arith}
use Rattle.pure_text.proofs.LoopLaws.{longer_by}
use Rattle.pure_definitions.specs.Types.Typ.{Typ, also, typs_of}
use Rattle.pure_definitions.specs.Terms.Subst.{TypBind}
use Rattle.pure_tunify.specs.Occurrences.{schematics, schematics_of}
use Rattle.pure_grammar.specs.Terms.RawTree.{RawClassTree, RawTypTree, Con, raw_typs_of}
use Rattle.pure_read.specs.RawDepth.{raw_typ_depth, raw_typs_depth}
use Rattle.pure_elab.specs.Vocabulary.{Vocabulary}
use Rattle.pure_elab.specs.declared.fault.FaultAt.{FaultAt}
use Rattle.pure_elab.specs.declared.fault.NameFault.TheVariants as fault
use Rattle.pure_elab.specs.Faults.{missing, class_faults, constructor_faults, typ_faults, typs_faults, raw_typs_count, earliest}
use Rattle.pure_elab.specs.Written.{found_class, found_classes, typ_classes, typs_classes, written_typ, written_typs}
use Rattle.pure_elab.specs.Numbered.{numbered, with_entry}
use Rattle.pure_elab.proofs.EarliestLaws.{earliest_append}

-- A function that joins what another gives of each element: what it gives of one element more.
flat_snoc : {X Y : Type 0} (f : X → List Y) (g : List X → List Y) → g [] ≡ [] → ((x : X) (xs : List X) → g (x ∷ xs) ≡ f x ++ g xs) → (xs : List X) (x : X) → g (xs ++ x ∷ []) ≡ g xs ++ f x
flat_snoc f g nil cons [] x = cons x [] ∙ ap (λ l. f x ++ l) nil ∙ append-nil (f x) ∙ sym (ap (λ l. l ++ f x) nil)
flat_snoc f g nil cons (y ∷ ys) x =
    cons y (ys ++ x ∷ [])
    ∙ ap (λ l. f y ++ l) (flat_snoc f g nil cons ys x)
    ∙ sym (append_assoc (f y) (g ys) (f x))
    ∙ ap (λ l. l ++ f x) (sym (cons y ys))

flat_turn : {X Y : Type 0} (f : X → List Y) (g : List X → List Y) → g [] ≡ [] → ((x : X) (xs : List X) → g (x ∷ xs) ≡ f x ++ g xs) → (xs : List X) (i : ℕ) (x : X)
    → i < length xs → x ≡ get_or xs i x → g (take (i + 1) xs) ≡ g (take i xs) ++ f x
flat_turn f g nil cons xs i x within is = ap g (longer_by xs i x within is) ∙ flat_snoc f g nil cons (take i xs) x

-- A list with what is behind it, one element more.
pub append_turn : {A : Type 0} (old now new here before after : List A) → now ≡ old ++ before → new ≡ now ++ here → after ≡ before ++ here → new ≡ old ++ after
append_turn old now new here before after first second third = second ∙ ap (λ l. l ++ here) first ∙ append_assoc old before here ∙ sym (ap (λ l. old ++ l) third)

pub map_turn : {A B : Type 0} (f : A → B) (xs : List A) (i : ℕ) (x : A) (now new : List B) → i < length xs → x ≡ get_or xs i x → now ≡ map f (take i xs) → new ≡ now ++ f x ∷ [] → new ≡ map f (take (i + 1) xs)
map_turn f xs i x now new within is before one = one ∙ ap (λ l. l ++ f x ∷ []) before ∙ sym (flat_turn (λ y. f y ∷ []) (map f) refl (λ y ys. refl) xs i x within is)

pub class_faults-turn : (V : Vocabulary) (best : Option FaultAt) (cs : List RawClassTree) (i : ℕ) (c : RawClassTree) → i < length cs → c ≡ get_or cs i c
    → earliest best (class_faults V (take (i + 1) cs)) ≡ earliest (earliest best (class_faults V (take i cs))) (missing c.at fault.UnknownSort (V.class_written c.name))
class_faults-turn V best cs i c within is =
    ap (earliest best) (flat_turn (λ c. missing c.at fault.UnknownSort (V.class_written c.name)) (class_faults V) refl (λ x xs. refl) cs i c within is)
    ∙ earliest_append best (class_faults V (take i cs)) (missing c.at fault.UnknownSort (V.class_written c.name))

pub typs_faults-turn : (V : Vocabulary) (best : Option FaultAt) (ts : List RawTypTree) (i : ℕ) (t : RawTypTree) → i < length ts → t ≡ get_or ts i t
    → earliest best (typs_faults V (raw_typs_of (take (i + 1) ts))) ≡ earliest (earliest best (typs_faults V (raw_typs_of (take i ts)))) (typ_faults V t)
typs_faults-turn V best ts i t within is =
    ap (earliest best) (flat_turn (typ_faults V) (λ l. typs_faults V (raw_typs_of l)) refl (λ x xs. refl) ts i t within is)
    ∙ earliest_append best (typs_faults V (raw_typs_of (take i ts))) (typ_faults V t)

pub found_classes-turn : (V : Vocabulary) (x : ℕ) (cs : List RawClassTree) (i : ℕ) (c : RawClassTree) → i < length cs → c ≡ get_or cs i c
    → found_classes V x (take (i + 1) cs) ≡ found_classes V x (take i cs) ++ found_class x (V.class_written c.name)
found_classes-turn V x cs i c within is = flat_turn (λ c. found_class x (V.class_written c.name)) (found_classes V x) refl (λ y ys. refl) cs i c within is

pub typs_classes-turn : (V : Vocabulary) (ts : List RawTypTree) (i : ℕ) (t : RawTypTree) → i < length ts → t ≡ get_or ts i t
    → typs_classes V (raw_typs_of (take (i + 1) ts)) ≡ typs_classes V (raw_typs_of (take i ts)) ++ typ_classes V t
typs_classes-turn V ts i t within is = flat_turn (typ_classes V) (λ l. typs_classes V (raw_typs_of l)) refl (λ y ys. refl) ts i t within is

pub numbered_append : (image : ℕ → List ℕ → Typ) (first : ℕ) (binds : List TypBind) (xs ys : List Typ) → numbered image first binds (xs ++ ys) ≡ numbered image first (numbered image first binds xs) ys
numbered_append image first binds [] ys = refl
numbered_append image first binds (x ∷ xs) ys = numbered_append image first (with_entry image first binds x) xs ys

pub schematics-turn : (ts : List Typ) (i : ℕ) (t : Typ) → i < length ts → t ≡ get_or ts i t → schematics_of (typs_of (take (i + 1) ts)) ≡ schematics_of (typs_of (take i ts)) ++ schematics t
schematics-turn ts i t within is = flat_turn schematics (λ l. schematics_of (typs_of l)) refl (λ y ys. refl) ts i t within is

pub numbered-turn : (image : ℕ → List ℕ → Typ) (first : ℕ) (binds : List TypBind) (ts : List Typ) (i : ℕ) (t : Typ) → i < length ts → t ≡ get_or ts i t
    → numbered image first binds (schematics_of (typs_of (take (i + 1) ts))) ≡ numbered image first (numbered image first binds (schematics_of (typs_of (take i ts)))) (schematics t)
numbered-turn image first binds ts i t within is =
    ap (numbered image first binds) (schematics-turn ts i t within is)
    ∙ numbered_append image first binds (schematics_of (typs_of (take i ts))) (schematics t)

pub written-map : (V : Vocabulary) (sorts : ℕ → List ℕ) (ts : List RawTypTree) → typs_of (map (written_typ V sorts) ts) ≡ written_typs V sorts (raw_typs_of ts)
written-map V sorts [] = refl
written-map V sorts (t ∷ ts) = λ i. also (written_typ V sorts t) (written-map V sorts ts i)

pub raw_depth-item : (ts : List RawTypTree) (i : ℕ) (t : RawTypTree) → i < length ts → t ≡ get_or ts i t → raw_typ_depth t ≤ raw_typs_depth (raw_typs_of ts)
raw_depth-item [] i t h e = absurd (omega arith)
raw_depth-item (u ∷ us) zero t h e = rw e (omega arith)
raw_depth-item (u ∷ us) (suc i) t h e = omega (arith, raw_depth-item us i t (omega arith) e)

pub raw_count : (ts : List RawTypTree) → raw_typs_count (raw_typs_of ts) ≡ length ts
raw_count [] = refl
raw_count (t ∷ ts) = let more = raw_count ts in omega (arith, more)

-- The faults of a constructor's type, from those of the constructor and of its arguments.
pub faults_of_con : (V : Vocabulary) (best first last : Option FaultAt) (at : ℕ) (name : List ℕ) (items : List RawTypTree) → first ≡ earliest best (constructor_faults V at (V.constructor_written name) (length items))
    → last ≡ earliest first (typs_faults V (raw_typs_of items)) → last ≡ earliest best (typ_faults V (Con at name (raw_typs_of items)))
faults_of_con V best first last at name items e f =
    f
    ∙ ap (λ b. earliest b (typs_faults V (raw_typs_of items))) (e ∙ ap (λ n. earliest best (constructor_faults V at (V.constructor_written name) n)) (sym (raw_count items)))
    ∙ sym (earliest_append best (constructor_faults V at (V.constructor_written name) (raw_typs_count (raw_typs_of items))) (typs_faults V (raw_typs_of items)))
