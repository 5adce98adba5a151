-- Declarations that may be added to others.
use Rattle.std.specs.Prelude.{◌≡◌, ℕ, List, [], ◌∷◌, ◌++◌, Option, Some, None, Result, Ok, Err}
use Rattle.pure_definitions.specs.Terms.Limits.{cut_off}
use Rattle.pure_definitions.specs.Declarations.Decl.{Decl}
use Rattle.pure_logic.specs.Content.{IsWellFormed}
use Rattle.pure_theory.specs.Refusals.{HasNamesake}
use Rattle.pure_record.specs.Items.{Item}
use Rattle.pure_replay.specs.Step.{plain_content}
use Rattle.pure_replay.specs.Contents.{content_of, AreGoodItems, IsFirstBadItem}
use Rattle.pure_replay.specs.declared.fault.ReplayFault.{ReplayFault}
use Rattle.pure_replay.specs.declared.fault.ReplayFault.TheVariants.{Content, Memory}

-- Nothing of its kind has the declaration's name, and behind the others it is well formed.
pub record IsAddable (ds : List Decl) (d : Decl) : Type 0 where
  pub new : ¬ HasNamesake ds d
  pub well_formed : IsWellFormed (plain_content (ds ++ d ∷ [])) d

-- The answer of a call that adds it: the declarations with it; none where it may not be added.
abbrev pub IsAdded : List Decl → Decl → Option (List Decl) → Type 0
IsAdded ds d (Some more) = (more ≡ ds ++ d ∷ []) × IsAddable ds d
IsAdded ds d None = ¬ IsAddable ds d

-- The answer for all items: what they declare, each content up to an item being good; or the first that makes none.
abbrev pub AreDeclared : List Item → Result (List Decl) ReplayFault → Type 0
AreDeclared items (Ok ds) = (ds ≡ (content_of items).declarations) × AreGoodItems items
AreDeclared items (Err (Content place)) = IsFirstBadItem items place
AreDeclared items (Err Memory) = Unit {0}
AreDeclared items (Err _) = ⊥

-- The answer for the item at a place behind others: the declarations with it; or its place, where it may not be added.
abbrev pub IsNext : List Decl → Decl → (place : ℕ) → Result (List Decl) ReplayFault → Type 0
IsNext ds d place (Ok more) = (more ≡ ds ++ d ∷ []) × IsAddable ds d
IsNext ds d place (Err (Content item)) = (item ≡ cut_off place) × ¬ IsAddable ds d
IsNext ds d place (Err Memory) = Unit {0}
IsNext ds d place (Err _) = ⊥
