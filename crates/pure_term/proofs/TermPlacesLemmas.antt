-- A term map's entries, found through the order of their variables.
use Rattle.std.proofs.Common.{◌≡◌, ℕ, ◌+◌, ◌<◌, ◌≤◌, List, [], ◌∷◌, ◌++◌, map, length, get_or, true, false, refl, ap, sym, subst, ◌∙◌, arith}
use Rattle.std.specs.List.{insert}
use Rattle.std.specs.declared.cmp.Ordering.TheVariants.{Less}
use Rattle.std.proofs.lemmas.List.{length-map, map-append}
use Rattle.pure_text.specs.Lists.{IsIn}
use Rattle.pure_text.proofs.ListLaws.{read_in, distinct-map_snoc}
use Rattle.pure_definitions.specs.Types.Typ.{TFree}
use Rattle.pure_definitions.specs.Terms.Term.{Term, Var, term_eq}
use Rattle.pure_definitions.specs.Terms.Subst.{TermBind, IsTermMap, term_variable, term_image}
use Rattle.pure_definitions.specs.Models.Equality.{term_eq-same, term_eq-itself}
use Rattle.pure_definitions.specs.Models.Comparison.{term_cmp, term_cmp-total, term_cmp-ties}
use Rattle.pure_definitions.proofs.EntryLemmas.{term_image-entry}
use Rattle.pure_typ.specs.Ascending.{key_at, IsBetween}
use Rattle.pure_term.specs.TermPlaces.{AreTermPlaces, IsTermPlace}
use Rattle.pure_term.specs.TermBound.{IsTermBound}
use Rattle.pure_typ.proofs.AscendingLemmas.{tied_same, between-up, between-down, no_key, places-more, place-inside, key-read}

module _ (binds : List TermBind) (places : List ℕ) (a : AreTermPlaces binds places) (v : Term) where
  -- The entry in the middle, whose variable is compared with the sought one.
  module _ (low high middle : ℕ) (b : TermBind) (between : IsBetween term_cmp (Var 0 0 (TFree 0 [])) (map term_variable binds) places v low high) (l : low ≤ middle) (m : middle < high) (at_bind : b ≡ get_or binds (get_or places middle 0) b) where
    within : middle < length places
    within = let k = between.inside in omega arith

    read : key_at (Var 0 0 (TFree 0 [])) (map term_variable binds) places middle ≡ term_variable b
    read = key-read term_variable (Var 0 0 (TFree 0 [])) binds places middle b (place-inside term_variable (Var 0 0 (TFree 0 [])) binds places middle term_cmp a within) at_bind

    pub term-up : term_cmp (term_variable b) v ≡ Less → IsBetween term_cmp (Var 0 0 (TFree 0 [])) (map term_variable binds) places v (middle + 1) high
    term-up h = between-up term_cmp term_cmp-total (Var 0 0 (TFree 0 [])) (map term_variable binds) places v low high middle a between m (rw read h)

    pub term-down : (¬ (term_cmp (term_variable b) v ≡ Less)) → IsBetween term_cmp (Var 0 0 (TFree 0 [])) (map term_variable binds) places v low middle
    term-down h = between-down term_cmp term_cmp-total (Var 0 0 (TFree 0 [])) (map term_variable binds) places v low high middle a between l m (λ k. h (rw read at k))

  module _ (at : ℕ) (found : IsTermPlace binds places v at) where
    pub term-past : length places ≤ at → ¬ IsIn v (map term_variable binds)
    term-past h = no_key term_cmp term_cmp-total (Var 0 0 (TFree 0 [])) (map term_variable binds) places v at a found (λ k e. absurd (omega arith))

    module _ (b : TermBind) (within : at < length places) (at_bind : b ≡ get_or binds (get_or places at 0) b) where
      inside : get_or places at 0 < length binds
      inside = place-inside term_variable (Var 0 0 (TFree 0 [])) binds places at term_cmp a within

      pub term-other : term_eq (term_variable b) v ≡ false → ¬ IsIn v (map term_variable binds)
      term-other h = no_key term_cmp term_cmp-total (Var 0 0 (TFree 0 [])) (map term_variable binds) places v at a found
          (λ k e. let same : term_variable b ≡ v = sym (key-read term_variable (Var 0 0 (TFree 0 [])) binds places at b inside at_bind) ∙ e in
          let yes_eq = term_eq-itself v in let no_eq : term_eq v v ≡ false = subst (λ u. term_eq u v ≡ false) same h in absurd (cc))

      pub term-found : term_eq (term_variable b) v ≡ true → IsTermBound binds v b.image
      term-found h = (b, read_in binds (get_or places at 0) b inside at_bind, term_eq-same (term_variable b) v h, refl)

  pub term-more : (at : ℕ) (b : TermBind) → v ≡ term_variable b → IsTermPlace binds places v at → IsTermMap binds → (¬ IsIn (term_variable b) (map term_variable binds))
      → IsTermMap (binds ++ b ∷ []) × AreTermPlaces (binds ++ b ∷ []) (insert places at (length binds))
  term-more at b e found d new = (
    distinct-map_snoc term_variable binds b d new,
    rw (map-append term_variable binds (b ∷ []), ← e, ← (length-map binds term_variable))
        (places-more term_cmp term_cmp-total (Var 0 0 (TFree 0 [])) (map term_variable binds) places v at a found (rw e new) (tied_same term_eq term_cmp term_cmp-ties term_eq-same)),
  )

-- The entries and the places, as they are seen.
pub term-seen : (binds seen : List TermBind) (places shown : List ℕ) → IsTermMap binds × AreTermPlaces binds places → seen ≡ binds → shown ≡ places → IsTermMap seen × AreTermPlaces seen shown
term-seen binds seen places shown h see show = subst (λ bs. IsTermMap bs × AreTermPlaces bs shown) (sym see) (subst (λ ps. IsTermMap binds × AreTermPlaces binds ps) (sym show) h)

-- An entry was pushed, and its place was put in.
pub term-pushed : (binds longer : List TermBind) (places room more : List ℕ) (v : Term) (at : ℕ) (b : TermBind) → IsTermMap binds × AreTermPlaces binds places → v ≡ term_variable b → IsTermPlace binds places v at
    → (¬ IsIn (term_variable b) (map term_variable binds)) → longer ≡ binds ++ b ∷ [] → room ≡ places → more ≡ insert room at (length binds) → IsTermMap longer × AreTermPlaces longer more
term-pushed binds longer places room more v at b (d, a) is found new pushed kept put =
    let put_in : insert places at (length binds) ≡ more = sym (put ∙ ap (λ ps. insert ps at (length binds)) kept) in
    subst (λ bs. IsTermMap bs × AreTermPlaces bs more) (sym pushed) (subst (λ ps. IsTermMap (binds ++ b ∷ []) × AreTermPlaces (binds ++ b ∷ []) ps) put_in (term-more binds places a v at b is found d new))

-- The image of a variable that an entry replaces is that entry's.
pub term-bound : (binds : List TermBind) (v image : Term) → IsTermMap binds → IsTermBound binds v image → term_image binds v ≡ image
term-bound binds v image d (b, m, same, is) = rw (← same) (term_image-entry binds b d m ∙ is)
