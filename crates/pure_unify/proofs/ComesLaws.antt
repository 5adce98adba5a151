-- Whether a type comes to another under settings, from their heads.
use Rattle.std.proofs.Common.{◌≡◌, ◌≢◌, ℕ, zero, suc, ◌+◌, ◌<◌, ◌≤◌, List, [], ◌∷◌, ◌++◌, map, length, get_or, take, drop, refl, ap, sym, ◌∙◌, arith}
use Rattle.std.specs.Prelude.{◌↔◌}
use Rattle.std.proofs.lemmas.List.{take_all, length-map}
use Rattle.pure_definitions.specs.Types.Typ.{Typ, TFree, TVar, Con, Typs, none, also, typs_of}
use Rattle.pure_unify_steps.specs.declared.node.Setting.{Setting}
use Rattle.pure_unify.specs.Later.{typ_later}
use Rattle.pure_unify.specs.Heads.{is_typ_schematic, IsHeadLater}
use Rattle.pure_unify.proofs.HeadLaws.{head_fixed, head_variable, head_con}
use Rattle.pure_unify.proofs.ListLaws.{map-append, take_one}

list_of : Typs → List Typ
list_of none = []
list_of (also t ts) = t ∷ list_of ts

list-of : (ts : List Typ) → list_of (typs_of ts) ≡ ts
unfolding list_of
list-of [] = refl
list-of (t ∷ ts) = ap (λ us. t ∷ us) (list-of ts)

same-list : (ts us : List Typ) → typs_of ts ≡ typs_of us → ts ≡ us
same-list ts us e = sym (list-of ts) ∙ (ap list_of e ∙ list-of us)

name-of : ℕ → Typ → ℕ
name-of k (Con j ts) = j
name-of k _ = k

arguments-of : Typs → Typ → Typs
arguments-of ts (Con j us) = us
arguments-of ts _ = ts

same-name : {k j : ℕ} {ts us : Typs} → Con k ts ≡ Con j us → k ≡ j
unfolding name-of
same-name {k = k} e = ap (name-of k) e

same-arguments : {k j : ℕ} {ts us : Typs} → Con k ts ≡ Con j us → ts ≡ us
unfolding arguments-of
same-arguments {ts = ts} e = ap (arguments-of ts) e

-- A constructor against another type.
pub con_other : (hs : List Setting) (T top U : Typ) (n k j : ℕ) (ts us : List Typ) → IsHeadLater hs T top n → top ≡ Con k (typs_of ts) → U ≡ Con j (typs_of us) → k ≢ j → ¬ (typ_later hs T ≡ U)
con_other hs T top U n k j ts us h e f differ same = differ (same-name (sym (head_con hs T top n k ts h e) ∙ (same ∙ f)))

pub con_fixed : (hs : List Setting) (T top U : Typ) (n k x : ℕ) (s : List ℕ) (ts : List Typ) → IsHeadLater hs T top n → top ≡ Con k (typs_of ts) → U ≡ TFree x s → ¬ (typ_later hs T ≡ U)
con_fixed hs T top U n k x s ts h e f same = none (sym (head_con hs T top n k ts h e) ∙ (same ∙ f))
  where
    none : Con k (typs_of (map (typ_later (drop n hs)) ts)) ≡ TFree x s → ⊥
    none d = cc

pub con_variable : (hs : List Setting) (T top U : Typ) (n k x i : ℕ) (s : List ℕ) (ts : List Typ) → IsHeadLater hs T top n → top ≡ Con k (typs_of ts) → U ≡ TVar x i s → ¬ (typ_later hs T ≡ U)
con_variable hs T top U n k x i s ts h e f same = none (sym (head_con hs T top n k ts h e) ∙ (same ∙ f))
  where
    none : Con k (typs_of (map (typ_later (drop n hs)) ts)) ≡ TVar x i s → ⊥
    none d = cc

pub con_same : (hs : List Setting) (T top U : Typ) (n k j : ℕ) (ts us : List Typ) → IsHeadLater hs T top n → top ≡ Con k (typs_of ts) → U ≡ Con j (typs_of us) → k ≡ j → (map (typ_later (drop n hs)) ts ≡ us) ↔ (typ_later hs T ≡ U)
con_same hs T top U n k j ts us h e f same =
    let is = head_con hs T top n k ts h e in
    ((λ g. is ∙ ((λ l. Con (same l) (typs_of (g l))) ∙ sym f)), (λ g. same-list (map (typ_later (drop n hs)) ts) us (same-arguments (sym is ∙ (g ∙ f)))))

-- A variable that isn't set.
pub atom_fixed : (hs : List Setting) (T top U : Typ) (n x : ℕ) (s : List ℕ) → IsHeadLater hs T top n → top ≡ TFree x s → (top ≡ U) ↔ (typ_later hs T ≡ U)
atom_fixed hs T top U n x s h e = let is = head_fixed hs T top n x s h e in ((λ g. is ∙ g), (λ g. sym is ∙ g))

pub atom_variable : (hs : List Setting) (T top U : Typ) (n x i : ℕ) (s : List ℕ) → IsHeadLater hs T top n → top ≡ TVar x i s → (top ≡ U) ↔ (typ_later hs T ≡ U)
atom_variable hs T top U n x i s h e = let is = head_variable hs T top n h (ap is_typ_schematic e) in ((λ g. is ∙ g), (λ g. sym is ∙ g))

-- Lists of types, as far as a loop has come.
tail-of : List Typ → List Typ
tail-of [] = []
tail-of (t ∷ ts) = ts

first-of : Typ → List Typ → Typ
first-of d [] = d
first-of d (t ∷ ts) = t

same-first : {t u : Typ} {ts us : List Typ} → t ∷ ts ≡ u ∷ us → t ≡ u
unfolding first-of
same-first {t = t} e = ap (first-of t) e

same-tail : {t u : Typ} {ts us : List Typ} → t ∷ ts ≡ u ∷ us → ts ≡ us
unfolding tail-of
same-tail e = ap tail-of e

pub lists_start : (f : Typ → Typ) (ts us : List Typ) → map f (take 0 ts) ≡ take 0 us
lists_start f [] [] = refl
lists_start f [] (u ∷ us) = refl
lists_start f (t ∷ ts) [] = refl
lists_start f (t ∷ ts) (u ∷ us) = refl

pub lists_turn : (f : Typ → Typ) (ts us : List Typ) (i : ℕ) (t u : Typ) → map f (take i ts) ≡ take i us → i < length ts → i < length us → t ≡ get_or ts i t → u ≡ get_or us i u → f t ≡ u → map f (take (i + 1) ts) ≡ take (i + 1) us
lists_turn f ts us i t u h k m read other same =
    ap (map f) (take_one ts i t k read) ∙ (map-append f (take i ts) (t ∷ []) ∙ ((λ l. h l ++ same l ∷ []) ∙ sym (take_one us i u m other)))

pub lists_end : (f : Typ → Typ) (ts us : List Typ) (i : ℕ) → map f (take i ts) ≡ take i us → length ts ≤ i → length us ≤ i → map f ts ≡ us
lists_end f ts us i h k m = ap (map f) (sym (take_all i ts k)) ∙ (h ∙ take_all i us m)

pub lists_long : (f : Typ → Typ) (ts us : List Typ) → length ts ≢ length us → ¬ (map f ts ≡ us)
lists_long f ts us differ same = differ (sym (length-map ts f) ∙ ap length same)

pub lists_differ : (f : Typ → Typ) (ts us : List Typ) (i : ℕ) (t u : Typ) → i < length ts → t ≡ get_or ts i t → u ≡ get_or us i u → ¬ (f t ≡ u) → ¬ (map f ts ≡ us)
lists_differ f [] us i t u h read other differ same = absurd (omega arith)
lists_differ f (v ∷ ts) [] i t u h read other differ same = none same
  where
    none : f v ∷ map f ts ≡ [] → ⊥
    none e = cc
lists_differ f (v ∷ ts) (w ∷ us) zero t u h read other differ same = differ (ap f read ∙ (same-first same ∙ sym other))
lists_differ f (v ∷ ts) (w ∷ us) (suc i) t u h read other differ same = lists_differ f ts us i t u (omega arith) read other differ (same-tail same)

-- One equivalence behind another.
pub joined : {P Q R : Type 0} → P ↔ Q → Q ↔ R → P ↔ R
joined f g = ((λ p. g.0 (f.0 p)), (λ r. f.1 (g.1 r)))
