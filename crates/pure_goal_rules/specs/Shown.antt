-- Prefixes as the program holds them.
use Rattle.std.specs.Prelude.{◌≡◌, ◌≢◌, List, ◌++◌, map}
use Rattle.pure_definitions.specs.Types.Typ.{Typ}
use Rattle.pure_definitions.specs.Terms.Term.{Term}
use Rattle.pure_logic.specs.Connectives.{all}
use Rattle.pure_goal_laws.specs.Prefix as prefix
use Rattle.pure_goal_steps.specs.Reading.{Place, IsRead}
use Rattle.pure_goal_rules.specs.declared.item.Item.{Item}
use Rattle.pure_goal_rules.specs.declared.item.Item.TheVariants.{Parameter, Hypothesis}
use Rattle.pure_goal_rules.specs.declared.item.Spot.{Spot}

-- the item that the program's one shows
abbrev pub seen : Item → prefix.Item
seen (Parameter T) = prefix.Parameter T.now
seen (Hypothesis A) = prefix.Hypothesis A.now

-- the prefix that a list of such items shows
abbrev pub shown : List Item → List prefix.Item
shown items = map seen items

-- the place of a hypothesis
abbrev pub seen_place : Spot → Place
seen_place p = record { before = shown p.before.now; hypothesis = p.hypothesis.now; after = shown p.after.now }

-- The term isn't a quantification.
abbrev pub IsNoQuantified : Term → Type 0
IsNoQuantified t = (T : Typ) (B : Term) → t ≢ all T B

-- Behind the items that were passed the term is read as further ones, so that these are all, and as this conclusion.
pub record IsReadBehind (t : Term) (passed all : List prefix.Item) (C : Term) : Type 0 where
  pub further : List prefix.Item
  pub are : all ≡ passed ++ further
  pub read : IsRead t further C
