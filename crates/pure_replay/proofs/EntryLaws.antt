-- Maps that are made entry by entry.
use Rattle.std.proofs.Common.{◌≡◌, ◌∙◌, ℕ, ◌+◌, ◌≤◌, ◌<◌, List, [], ◌∷◌, ◌++◌, map, take, drop, length, get_or, refl, sym, ap, subst, take_all}
use Rattle.pure_text.specs.Lists.{IsIn, Each, AreDistinct}
use Rattle.pure_text.proofs.ListLaws.{each-append, each-right, split_at, distinct-map_snoc}
use Rattle.pure_text.proofs.LoopLaws.{longer_by}
use Rattle.pure_replay.proofs.NodeLaws.{distinct-before}

-- The map has the first entries: each is one, and their variables are distinct.
pub record AreSoFar {B V : Type 0} (variable : B → V) (IsEntry : B → Type 0) (binds : List B) (i : ℕ) (all : List B) : Type 0 where
  pub are : all ≡ take i binds
  pub distinct : AreDistinct (map variable (take i binds))
  pub entries : Each IsEntry (take i binds)

module _ {B V : Type 0} (variable : B → V) (IsEntry : B → Type 0) where
  pub none_so_far : (binds all : List B) → all ≡ [] → AreSoFar variable IsEntry binds 0 all
  none_so_far binds all e = record { are = e; distinct = tt; entries = tt }

  module _ (binds all : List B) (i : ℕ) (b : B) (within : i < length binds) (read : b ≡ get_or binds i b) (h : AreSoFar variable IsEntry binds i all) where
    pub one_further : (more : List B) → more ≡ all ++ b ∷ [] → IsEntry b → (¬ IsIn (variable b) (map variable all)) → AreSoFar variable IsEntry binds (i + 1) more
    one_further more e entry new =
        let longer = longer_by binds i b within read in
        record {
          are = e ∙ (ap (λ bs. bs ++ b ∷ []) h.are ∙ sym longer);
          distinct = subst (λ bs. AreDistinct (map variable bs)) (sym longer) (distinct-map_snoc variable (take i binds) b h.distinct (subst (λ bs. ¬ IsIn (variable b) (map variable bs)) h.are new));
          entries = subst (Each IsEntry) (sym longer) (each-append IsEntry (take i binds) (b ∷ []) h.entries (entry, tt));
        }

    map-both : (xs ys : List B) → map variable (xs ++ ys) ≡ map variable xs ++ map variable ys
    map-both [] ys = refl
    map-both (x ∷ xs) ys = ap (λ zs. variable x ∷ zs) (map-both xs ys)

    pub no_map : (¬ (IsEntry b × (¬ IsIn (variable b) (map variable all)))) → ¬ (AreDistinct (map variable binds) × Each IsEntry binds)
    no_map bad k =
        let split = split_at binds i b within read in
        let front = take i binds in
        let rest = drop (i + 1) binds in
        bad (
          (each-right IsEntry front (b ∷ rest) (subst (Each IsEntry) split k.1)).0,
          subst (λ bs. ¬ IsIn (variable b) (map variable bs)) (sym h.are)
              (distinct-before (map variable front) (variable b) (map variable rest) (subst AreDistinct (ap (map variable) split ∙ map-both front (b ∷ rest)) k.0)),
        )

  pub all_so_far : (binds all : List B) (i : ℕ) → length binds ≤ i → AreSoFar variable IsEntry binds i all → (all ≡ binds) × AreDistinct (map variable binds) × Each IsEntry binds
  all_so_far binds all i end h =
      let whole = take_all i binds end in
      (h.are ∙ whole, subst (λ bs. AreDistinct (map variable bs)) whole h.distinct, subst (Each IsEntry) whole h.entries)
