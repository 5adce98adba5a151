-- A generated library: the theories that are made from three numbers are checked without cancellations, and the last line of the table is written.
use Rattle.std.specs.Prelude.{◌≤◌, ℕ, false, List, []}
use Rattle.pure_gen.specs.Generated.{files_of}
use Rattle.pure_print.specs.RowText.{total_line}
use Rattle.pure_graph.specs.Session.{Session}
use Rattle.pure_check_work.specs.Table.Table.{Table, table_rows}
use Rattle.pure_check.specs.JobMeaning.{JobMeaning}
use Rattle.pure_check.specs.Meaning.{IsTableAnswer}
use Rattle.pure_check.specs.Sources.{OfMade}

-- the last line of the table's text
abbrev pub last_line : Session → Table → List ℕ
last_line S t = total_line S.files (table_rows S t)

-- There is one worker at least, and the numbers of the start, the theories and the lemmas have their limits.
abbrev pub meaning : (workers start theories lemmas : ℕ) → JobMeaning
meaning workers start theories lemmas = record {
  IsInRange = (1 ≤ workers) × (start ≤ 65536) × (theories ≤ 64) × (lemmas ≤ 512);
  source = OfMade (files_of start theories lemmas);
  IsAnswer = IsTableAnswer last_line (record { workers = workers; fail_fast = false; cancels = [] });
}
