-- A type map's entries, found through the order of their variables.
use Rattle.std.proofs.Common.{◌≡◌, ℕ, ◌+◌, ◌<◌, ◌≤◌, List, [], ◌∷◌, ◌++◌, map, length, get_or, true, false, refl, ap, sym, subst, ◌∙◌, arith}
use Rattle.std.specs.List.{insert}
use Rattle.std.specs.declared.cmp.Ordering.TheVariants.{Less}
use Rattle.std.proofs.lemmas.List.{length-map, map-append}
use Rattle.pure_text.specs.Lists.{IsIn}
use Rattle.pure_text.proofs.ListLaws.{read_in, distinct-map_snoc}
use Rattle.pure_definitions.specs.Types.Typ.{Typ, TVar, typ_eq}
use Rattle.pure_definitions.specs.Terms.Subst.{TypBind, IsTypMap, typ_variable, typ_image}
use Rattle.pure_definitions.specs.Models.Equality.{typ_eq-same, typ_eq-itself}
use Rattle.pure_definitions.specs.Models.Comparison.{typ_cmp, typ_cmp-total, typ_cmp-ties}
use Rattle.pure_definitions.proofs.EntryLemmas.{typ_image-entry}
use Rattle.pure_typ.specs.Ascending.{key_at, IsBetween}
use Rattle.pure_typ.specs.TypPlaces.{AreTypPlaces, IsTypPlace}
use Rattle.pure_typ.specs.TypBound.{IsTypBound}
use Rattle.pure_typ.proofs.AscendingLemmas.{tied_same, between-up, between-down, no_key, places-more, place-inside, key-read}

module _ (binds : List TypBind) (places : List ℕ) (a : AreTypPlaces binds places) (v : Typ) where
  -- The entry in the middle, whose variable is compared with the sought one.
  module _ (low high middle : ℕ) (b : TypBind) (between : IsBetween typ_cmp (TVar 0 0 []) (map typ_variable binds) places v low high) (l : low ≤ middle) (m : middle < high) (at_bind : b ≡ get_or binds (get_or places middle 0) b) where
    within : middle < length places
    within = let k = between.inside in omega arith

    read : key_at (TVar 0 0 []) (map typ_variable binds) places middle ≡ typ_variable b
    read = key-read typ_variable (TVar 0 0 []) binds places middle b (place-inside typ_variable (TVar 0 0 []) binds places middle typ_cmp a within) at_bind

    pub typ-up : typ_cmp (typ_variable b) v ≡ Less → IsBetween typ_cmp (TVar 0 0 []) (map typ_variable binds) places v (middle + 1) high
    typ-up h = between-up typ_cmp typ_cmp-total (TVar 0 0 []) (map typ_variable binds) places v low high middle a between m (rw read h)

    pub typ-down : (¬ (typ_cmp (typ_variable b) v ≡ Less)) → IsBetween typ_cmp (TVar 0 0 []) (map typ_variable binds) places v low middle
    typ-down h = between-down typ_cmp typ_cmp-total (TVar 0 0 []) (map typ_variable binds) places v low high middle a between l m (λ k. h (rw read at k))

  module _ (at : ℕ) (found : IsTypPlace binds places v at) where
    pub typ-past : length places ≤ at → ¬ IsIn v (map typ_variable binds)
    typ-past h = no_key typ_cmp typ_cmp-total (TVar 0 0 []) (map typ_variable binds) places v at a found (λ k e. absurd (omega arith))

    module _ (b : TypBind) (within : at < length places) (at_bind : b ≡ get_or binds (get_or places at 0) b) where
      inside : get_or places at 0 < length binds
      inside = place-inside typ_variable (TVar 0 0 []) binds places at typ_cmp a within

      pub typ-other : typ_eq (typ_variable b) v ≡ false → ¬ IsIn v (map typ_variable binds)
      typ-other h = no_key typ_cmp typ_cmp-total (TVar 0 0 []) (map typ_variable binds) places v at a found
          (λ k e. let same : typ_variable b ≡ v = sym (key-read typ_variable (TVar 0 0 []) binds places at b inside at_bind) ∙ e in
          let yes_eq = typ_eq-itself v in let no_eq : typ_eq v v ≡ false = subst (λ u. typ_eq u v ≡ false) same h in absurd (cc))

      pub typ-found : typ_eq (typ_variable b) v ≡ true → IsTypBound binds v b.image
      typ-found h = (b, read_in binds (get_or places at 0) b inside at_bind, typ_eq-same (typ_variable b) v h, refl)

  pub typ-more : (at : ℕ) (b : TypBind) → v ≡ typ_variable b → IsTypPlace binds places v at → IsTypMap binds → (¬ IsIn (typ_variable b) (map typ_variable binds))
      → IsTypMap (binds ++ b ∷ []) × AreTypPlaces (binds ++ b ∷ []) (insert places at (length binds))
  typ-more at b e found d new = (
    distinct-map_snoc typ_variable binds b d new,
    rw (map-append typ_variable binds (b ∷ []), ← e, ← (length-map binds typ_variable))
        (places-more typ_cmp typ_cmp-total (TVar 0 0 []) (map typ_variable binds) places v at a found (rw e new) (tied_same typ_eq typ_cmp typ_cmp-ties typ_eq-same)),
  )

-- The entries and the places, as they are seen.
pub typ-seen : (binds seen : List TypBind) (places shown : List ℕ) → IsTypMap binds × AreTypPlaces binds places → seen ≡ binds → shown ≡ places → IsTypMap seen × AreTypPlaces seen shown
typ-seen binds seen places shown h see show = subst (λ bs. IsTypMap bs × AreTypPlaces bs shown) (sym see) (subst (λ ps. IsTypMap binds × AreTypPlaces binds ps) (sym show) h)

-- An entry was pushed, and its place was put in.
pub typ-pushed : (binds longer : List TypBind) (places room more : List ℕ) (v : Typ) (at : ℕ) (b : TypBind) → IsTypMap binds × AreTypPlaces binds places → v ≡ typ_variable b → IsTypPlace binds places v at
    → (¬ IsIn (typ_variable b) (map typ_variable binds)) → longer ≡ binds ++ b ∷ [] → room ≡ places → more ≡ insert room at (length binds) → IsTypMap longer × AreTypPlaces longer more
typ-pushed binds longer places room more v at b (d, a) is found new pushed kept put =
    let put_in : insert places at (length binds) ≡ more = sym (put ∙ ap (λ ps. insert ps at (length binds)) kept) in
    subst (λ bs. IsTypMap bs × AreTypPlaces bs more) (sym pushed) (subst (λ ps. IsTypMap (binds ++ b ∷ []) × AreTypPlaces (binds ++ b ∷ []) ps) put_in (typ-more binds places a v at b is found d new))

-- The image of a variable that an entry replaces is that entry's.
pub typ-bound : (binds : List TypBind) (v image : Typ) → IsTypMap binds → IsTypBound binds v image → typ_image binds v ≡ image
typ-bound binds v image d (b, m, same, is) = rw (← same) (typ_image-entry binds b d m ∙ is)
