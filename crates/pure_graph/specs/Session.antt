-- The session of a library: its theories in load order, the files that are refused, and its names.
use Rattle.std.specs.Prelude.{◌≡◌, ℕ, List, ◌∷◌, ◌++◌, length, map, codes, Option, Some, None}
use Rattle.std.specs.List.{filter_map}
use Rattle.std.specs.Fmt.{decimal}
use Rattle.pure_io.specs.declared.library.File as library
use Rattle.pure_io.specs.Outside.{text_named}
use Rattle.pure_graph.specs.Listing.{AreTheories, file_name}
use Rattle.pure_graph.specs.Outcome.{Outcome, Refused, Stands}
use Rattle.pure_graph.specs.Reading.{Answer, File, AreRead}
use Rattle.pure_graph.specs.Graph.{linked, AreJudged}
use Rattle.pure_graph.specs.Order.{Loaded, AreInLoadOrder}
use Rattle.pure_graph.specs.SessionNames.{AreNames}
use Rattle.pure_graph.specs.declared.outcome.Reason.{Reason}
use Rattle.pure_graph.specs.declared.outcome.Reason.TheVariants.{TooManyFiles, NoFile, TooLarge, Syntax, UnknownVersion, HeaderName, CyclicImports, ParentRefused}

-- a file that is refused in loading, and why
pub record Refusal : Type 0 where
  pub name : List ℕ
  pub reason : Reason

-- a refused file with the text of its reason
pub record Shown : Type 0 where
  pub name : List ℕ
  pub text : List ℕ

pub record Session : Type 0 where
  pub names : List (List ℕ)
  pub theories : List Loaded
  pub refused : List Refusal
  pub files : ℕ

unfoldable pub too_many_files_text : List ℕ
too_many_files_text = codes "too many files"

unfoldable pub no_file_text : List ℕ
no_file_text = codes "no file "

unfoldable pub too_large_text : List ℕ
too_large_text = codes "too large"

unfoldable pub syntax_text : List ℕ
syntax_text = codes "syntax at "

unfoldable pub unknown_version_text : List ℕ
unknown_version_text = codes "unknown version"

unfoldable pub header_name_text : List ℕ
header_name_text = codes "header name"

unfoldable pub cyclic_imports_text : List ℕ
cyclic_imports_text = codes "cyclic imports"

unfoldable pub parent_refused_text : List ℕ
parent_refused_text = codes "parent refused "

-- the text of a reason
abbrev pub reason_text : Reason → List ℕ
reason_text TooManyFiles = too_many_files_text
reason_text (NoFile theory) = no_file_text ++ theory
reason_text TooLarge = too_large_text
reason_text (Syntax line column) = syntax_text ++ (decimal line ++ (58 ∷ decimal column))
reason_text UnknownVersion = unknown_version_text
reason_text HeaderName = header_name_text
reason_text CyclicImports = cyclic_imports_text
reason_text (ParentRefused theory) = parent_refused_text ++ theory

abbrev pub shown : Refusal → Shown
shown refusal = record { name = refusal.name; text = reason_text refusal.reason }

abbrev pub refusal_by : List ℕ → Outcome → Option Refusal
refusal_by theory (Refused reason) = Some (record { name = theory; reason = reason })
refusal_by theory (Stands source text) = None

-- a file that is refused
abbrev pub refusal_of : File → Option Refusal
refusal_of file = refusal_by file.theory file.outcome

-- The theories and the refused files of theories with these answers: each file goes through the tests in their order,
-- those that are left are taken in load order, and the others are refused, in byte order of their names.
pub record IsLoadingOf (answers : List Answer) (theories : List Loaded) (refused : List Refusal) (files : ℕ) : Type 0 where
  pub read : List File
  pub judged : List File
  pub are_read : AreRead answers read
  pub are_judged : AreJudged (map (linked (map (λ (a : Answer). a.theory) answers)) read) judged
  pub loaded : AreInLoadOrder judged theories
  pub refused_are : refused ≡ filter_map refusal_of judged
  pub counted : files ≡ length answers

-- The session of theories with these answers.
pub record IsSessionOf (answers : List Answer) (session : Session) : Type 0 where
  pub loading : IsLoadingOf answers session.theories session.refused session.files
  pub named : AreNames session.theories session.names

-- the answer of told files on a theory: the bytes of the first file of its name
abbrev pub answer_in : List library.File → List ℕ → Answer
answer_in files theory = record { theory = theory; bytes = text_named (file_name theory) files }

-- The session of these files.
pub record IsSession (files : List library.File) (session : Session) : Type 0 where
  pub theories : List (List ℕ)
  pub listed : AreTheories (map (λ (f : library.File). f.name) files) theories
  pub session_of : IsSessionOf (map (answer_in files) theories) session
