-- The table of subcommands: what each is called, and what it takes.
use Rattle.std.specs.Prelude.{ℕ, true, false, List, [], ◌∷◌, Option, codes, find}
use Rattle.pure_grammar.specs.Theories.Lexeme.{same}
use Rattle.pure_words.specs.declared.table.Subcommand.{Subcommand}
use Rattle.pure_words.specs.declared.table.Subcommand.TheVariants.{Check, Generate, Places, Axioms, Graph, Show, Replay, Find, Try}
use Rattle.pure_words.specs.declared.table.Takes.{Takes}

-- all subcommands
abbrev pub subcommands : List Subcommand
subcommands = Check ∷ Generate ∷ Places ∷ Axioms ∷ Graph ∷ Show ∷ Replay ∷ Find ∷ Try ∷ []

-- what a subcommand is called
abbrev pub name_of : Subcommand → List ℕ
name_of Check = codes "check"
name_of Generate = codes "generate"
name_of Places = codes "places"
name_of Axioms = codes "axioms"
name_of Graph = codes "graph"
name_of Show = codes "show"
name_of Replay = codes "replay"
name_of Find = codes "find"
name_of Try = codes "try"

-- A row of the table: the options and flags that a subcommand takes, and how many arguments, of which there are three at most.
-- `check`: --jobs, --cancel, --fail-fast. `generate`: --jobs, and START, THEORIES and LEMMAS. `places`: --jobs. `axioms`: --jobs, and NAME. `graph`: --jobs. `show`: NAME. `replay`: NAME. `find`: NAME. `try`: --jobs, and NAME.
abbrev pub row_of : Subcommand → Takes
row_of Check = record { jobs = true; cancel = true; fail_fast = true; arguments = 0 }
row_of Generate = record { jobs = true; cancel = false; fail_fast = false; arguments = 3 }
row_of Places = record { jobs = true; cancel = false; fail_fast = false; arguments = 0 }
row_of Axioms = record { jobs = true; cancel = false; fail_fast = false; arguments = 1 }
row_of Graph = record { jobs = true; cancel = false; fail_fast = false; arguments = 0 }
row_of Show = record { jobs = false; cancel = false; fail_fast = false; arguments = 1 }
row_of Replay = record { jobs = false; cancel = false; fail_fast = false; arguments = 1 }
row_of Find = record { jobs = false; cancel = false; fail_fast = false; arguments = 1 }
row_of Try = record { jobs = true; cancel = false; fail_fast = false; arguments = 1 }

-- the subcommand of this name
unfoldable pub subcommand_named : List ℕ → Option Subcommand
subcommand_named name = find (λ s. same name (name_of s)) subcommands
