-- The limits of a session's theories.
use Rattle.std.specs.Prelude.{◌≤◌, ℕ, nat_eq, List, length, if◌then◌else◌}
use Rattle.std.specs.List.{sum_by}
use Rattle.pure_grammar.specs.Theories.TheoryText.{TheoryText}
use Rattle.pure_graph.specs.Limits.{most_files, most_session_parts, session_parts_bound}
use Rattle.pure_graph.specs.Outcome.{part_count}
use Rattle.pure_graph.specs.Reading.{Answer}
use Rattle.pure_graph.specs.Order.{Loaded}
use Rattle.pure_graph.specs.Session.{Refusal, IsLoadingOf}

-- the parts of a theory of version 1
abbrev pub first_parts : TheoryText → ℕ
first_parts text = if nat_eq text.version 1 then part_count text.commands else 0

-- There are at most 256 theories, with at most 8,192 parts together, of which at most 4,096 are of theories of version 1.
pub record AreWithinLimits (theories : List Loaded) : Type 0 where
  pub few : length theories ≤ most_files
  pub few_parts : sum_by (λ (l : Loaded). part_count l.text.commands) theories ≤ session_parts_bound
  pub few_first : sum_by (λ (l : Loaded). first_parts l.text) theories ≤ most_session_parts 1

-- The theories that are loaded are within the limits.
abbrev pub LoadedWithinLimits : Type 0
LoadedWithinLimits = (answers : List Answer) (theories : List Loaded) (refused : List Refusal) (files : ℕ) → IsLoadingOf answers theories refused files → AreWithinLimits theories
