-- Facts of the code, and the texts of the built ones.
use Rattle.std.specs.Prelude.{◌≡◌, ◌⊎◌, ℕ, List, [], ◌∷◌, codes, Some, slice_get}
use Rattle.pure_typ.specs.NameTexts.{HasText}
use Rattle.pure_logic.specs.Content.{TheoryId, Content}
use Rattle.pure_lookup.specs.LookUps as found
use Rattle.pure_lookup.specs.Meaning.{built_texts, full_text}
use Rattle.pure_theorem.specs.declared.built.Built.{Built}
use Rattle.pure_theorem.specs.declared.built.Built.TheVariants.{Refl, Subst, Ext, Iff, Mp, Spec}
use Rattle.pure_theory.specs.declared.facts.Fact.{Fact}
use Rattle.pure_theory.specs.declared.facts.Fact.TheVariants as code

-- the place of a built fact among the six
abbrev pub built_place : Built → ℕ
built_place Refl = 0
built_place Subst = 1
built_place Ext = 2
built_place Iff = 3
built_place Mp = 4
built_place Spec = 5

-- the fact that it stands for
abbrev pub seen_fact : Fact → found.Fact
seen_fact (code.Built which) = found.BuiltFact (built_place which)
seen_fact (code.Axiom name prop) = found.AxiomFact name prop
seen_fact (code.Promised name label prop) = found.PromisedFact name label prop

-- the bases of the six built facts
unfoldable pub built_bases : List (List ℕ)
built_bases = codes "refl" ∷ codes "subst" ∷ codes "ext" ∷ codes "iff" ∷ codes "mp" ∷ codes "spec" ∷ []

-- The text is the full name or the base of the built fact at the place.
abbrev pub IsBuiltText : List ℕ → (place : ℕ) → Type 0
IsBuiltText text place = (slice_get built_texts place ≡ Some text) ⊎ (slice_get built_bases place ≡ Some text)

-- The name has the full text that what is written so has in the content's own theory.
abbrev pub IsOwnName : (texts : List (List ℕ)) → Content → (written : List ℕ) → (name : ℕ) → Type 0
IsOwnName texts Q written name = (t : TheoryId) × (theory : List ℕ) × (Q.own ≡ Some t) × HasText texts t.name theory × HasText texts name (full_text theory written)
