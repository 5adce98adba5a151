-- What answers of calls say that put images in.
use Rattle.std.proofs.Common.{◌≡◌, ℕ, inl, inr, List, ◌∷◌, ◌++◌, map}
use Rattle.std.specs.Prelude.{Err}
use Rattle.pure_typ.specs.declared.grow.Grow.{Grow}
use Rattle.pure_typ.specs.declared.grow.Grow.TheVariants as grown
use Rattle.pure_definitions.specs.Terms.Subst.{TermBind, term_image}
use Rattle.pure_pattern_rules.specs.Treated.{AreSidesWithin}
use Rattle.pure_pattern.specs.declared.state.Held.{Held}
use Rattle.pure_pattern_bounds.specs.Put.{pair_put, bind_put}
use Rattle.pure_pattern.specs.Held.{IsImageWithin, IsMade, AreMade}
use Rattle.pure_pattern.specs.Followed.{IsGivenMade}
use Rattle.pure_pattern.proofs.ListLaws.{none-such}

-- Where one of them isn't made, the list isn't.
pub none-made : {A B : Type 0} (f : A → B) (Within : B → Type 0) (made : List B) (left rest whole : List A) (x : A) (fault : Grow) → made ++ map f left ≡ map f whole → left ≡ x ∷ rest → IsMade Within (f x) (Err fault) → AreMade Within (map f whole) (Err fault)
none-made f Within made left rest whole x grown.Big e is h = none-such f Within made (map f whole) left rest x e is h
none-made f Within made left rest whole x grown.Memory e is h = tt

-- Where they aren't made, what is held isn't.
pub pairs-beyond : (maxidx : ℕ) (bs : List TermBind) (old : Held) (fault : Grow) → AreMade AreSidesWithin (map (pair_put (term_image bs)) old.pairs.items) (Err fault) → IsGivenMade maxidx bs old (Err fault)
pairs-beyond maxidx bs old grown.Big h = inl h
pairs-beyond maxidx bs old grown.Memory h = tt

pub binds-beyond : (maxidx : ℕ) (bs : List TermBind) (old : Held) (fault : Grow) → AreMade IsImageWithin (map (bind_put (term_image bs)) old.binds.items) (Err fault) → IsGivenMade maxidx bs old (Err fault)
binds-beyond maxidx bs old grown.Big h = inr h
binds-beyond maxidx bs old grown.Memory h = tt
