-- What is known of each theory of a session.
use Rattle.std.specs.Prelude.{◌≢◌, ◌<◌, ◌≤◌, ℕ, List, length, count_by}
use Rattle.pure_text.specs.Lists.{IsIn, Each}
use Rattle.pure_grammar.specs.Theories.TheoryText.{Step, Have, Command, Lemma}
use Rattle.pure_lookup.specs.Meaning.{pure_text}
use Rattle.pure_graph.specs.Limits.{most_parts, most_steps}
use Rattle.pure_graph.specs.Outcome.{is_numbered, part_count}
use Rattle.pure_graph.specs.Reading.{Answer}
use Rattle.pure_graph.specs.Order.{Loaded}
use Rattle.pure_graph.specs.SessionNames.{AreNames}
use Rattle.pure_graph.specs.Session.{Refusal, IsLoadingOf}
use Rattle.pure_method.specs.Outcomes.{IsScript}
use Rattle.pure_method.specs.Declare.Premises.{IsNamed, HasFullNames, HasRanges}

-- The steps of a proof: the last one is the end, and no other is; and those that have numbers aren't too many.
pub record IsProofScript (script : List Step) : Type 0 where
  pub ends : IsScript script
  pub few : count_by is_numbered script ≤ most_steps

-- If the command is a lemma, then its script and that of each of its haves are those of proofs.
abbrev pub HasProofScript : Command → Type 0
HasProofScript (Lemma name prop haves script) = Each (λ (h : Have). IsProofScript h.script) haves × IsProofScript script
HasProofScript _ = Unit {0}

-- A loaded theory among the names of its session: the source isn't too long, the ranges of each command lie in it, the theory and all that its commands declare have names, its own name has no dot (46) and isn't Pure's, the scripts are those of proofs, and the parts aren't more than its version allows.
pub record IsWellLoaded (texts : List (List ℕ)) (l : Loaded) : Type 0 where
  pub small : length l.source < 4294967295
  pub ranges : Each (HasRanges l.source) l.text.commands
  pub named : IsNamed texts l.name
  pub full : Each (λ (c : Command). HasFullNames texts l.name c) l.text.commands
  pub plain : (¬ IsIn 46 l.name) × (l.name ≢ pure_text)
  pub scripts : Each HasProofScript l.text.commands
  pub few : part_count l.text.commands ≤ most_parts l.text.version

-- Among the names of their session the theories that are loaded are as those who check them ask.
abbrev pub LoadedWell : Type 0
LoadedWell = (answers : List Answer) (theories : List Loaded) (refused : List Refusal) (files : ℕ) → IsLoadingOf answers theories refused files
    → (texts : List (List ℕ)) → AreNames theories texts → Each (IsWellLoaded texts) theories
