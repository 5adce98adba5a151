-- Images of theorems: made, or too big.
use Rattle.std.proofs.Common.{◌↔◌, List, [], ◌∷◌, map, true, refl, sym, subst, inl, inr}
use Rattle.std.specs.Set.{sorted_merge}
use Rattle.pure_text.specs.Lists.{Each}
use Rattle.pure_text.proofs.ListLaws.{in_split, in-append_left, in-append_right, each_of, each_at}
use Rattle.pure_definitions.specs.Terms.Term.{Term, IsWithin}
use Rattle.pure_definitions.specs.Models.Comparison.{term_cmp}
use Rattle.pure_logic.specs.Derivable.{Theorem}
use Rattle.pure_theorem.specs.Sets.{IsSetOf}
use Rattle.pure_theorem.specs.Within.{IsPairWithin, AreWithin}
use Rattle.pure_theorem.proofs.SetLaws.{union_of_terms, no_terms, one_term}
use Rattle.pure_inst.specs.Image.{pair_image, IsImage, AreImagesWithin}

-- Each list has a set.
abbrev as_set : List Term → List Term
as_set [] = []
as_set (t ∷ ts) = sorted_merge term_cmp true (t ∷ []) (as_set ts)

as_set-is : (ts : List Term) → IsSetOf term_cmp ts (as_set ts)
as_set-is [] = record { ascends = no_terms; members = λ x. (λ m. m, λ m. m) }
as_set-is (t ∷ ts) =
    let later = as_set-is ts in
    let both = union_of_terms (t ∷ []) (as_set ts) (as_set (t ∷ ts)) refl (one_term t) later.ascends in
    record {
      ascends = both.ascends;
      members = λ x. (
        λ m. elim (in_split x (t ∷ []) (as_set ts) ((both.members x).0 m)) [ inl n ↦ elim n [ inl e ↦ inl e | inr none ↦ absurd none ] | inr n ↦ inr ((later.members x).0 n) ],
        λ m. (both.members x).1 (elim m [ inl e ↦ in-append_left x (t ∷ []) (as_set ts) (inl e) | inr n ↦ in-append_right x (t ∷ []) (as_set ts) ((later.members x).1 n) ]),
      );
    }

-- a property of each image
each-map : {A B : Type 0} (f : A → B) (P : B → Type 0) (xs : List A) → Each P (map f xs) ↔ Each (λ x. P (f x)) xs
each-map f P [] = (λ h. h, λ h. h)
each-map f P (x ∷ xs) = let rest = each-map f P xs in (λ h. (h.0, rest.0 h.1), λ h. (h.0, rest.1 h.1))

module _ (f : Term → Term) (th : Theorem) where
  -- the image, with the set that each list has
  abbrev whole : Theorem
  whole = record { hyps = as_set (map f th.hyps); pairs = map (pair_image f) th.pairs; prop = f th.prop; rests = th.rests }

  whole-is : IsImage f th whole
  whole-is = record { hyps = as_set-is (map f th.hyps); pairs = refl; prop = refl; rests = refl }

  images-within : (new : Theorem) → IsImage f th new → AreWithin new → AreImagesWithin f th
  images-within new image w = record {
    hyps = (each-map f IsWithin th.hyps).0 (each_of IsWithin (map f th.hyps) (λ A m. each_at IsWithin new.hyps w.hyps A ((image.hyps.members A).1 m)));
    pairs = (each-map (pair_image f) IsPairWithin th.pairs).0 (subst (Each IsPairWithin) image.pairs w.pairs);
    prop = subst IsWithin image.prop w.prop;
  }

  -- Where some term has no image within the limits, the image of the theorem isn't within them.
  pub image-big : (¬ AreImagesWithin f th) → (new : Theorem) × IsImage f th new × ¬ AreWithin new
  image-big isnt = (whole, whole-is, λ w. isnt (images-within whole whole-is w))

  -- And where each has one, it is.
  pub image-within : (new : Theorem) → IsImage f th new → AreImagesWithin f th → AreWithin new
  image-within new image w = record {
    hyps = each_of IsWithin new.hyps (λ A m. each_at IsWithin (map f th.hyps) ((each-map f IsWithin th.hyps).1 w.hyps) A ((image.hyps.members A).0 m));
    pairs = subst (Each IsPairWithin) (sym image.pairs) ((each-map (pair_image f) IsPairWithin th.pairs).1 w.pairs);
    prop = subst IsWithin (sym image.prop) w.prop;
  }
