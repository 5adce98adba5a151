-- The numbers of jobs are in range.
use Rattle.std.proofs.Common.{◌≡◌, ◌≤◌, ℕ, Bool, true, false, List, [], ◌∷◌, Option, Some, None, refl, sym, subst, arith}
use Rattle.std.proofs.lemmas.Bool.Decides.{nat_tests}
use Rattle.std.specs.Prelude.{nat_le, codes, ◌*◌, ◌&&◌, if◌then◌else◌}
use Rattle.pure_grammar.specs.Theories.Lexeme.{same}
use Rattle.pure_words.specs.Values.{number_of, within}
use Rattle.pure_words.specs.Words.{IsJob, IsCommand, Item, no_given, given_by}
use Rattle.pure_words.specs.Commands.{workers_of, fail_fast_of, cancels_of, checked, generated, with_places, check_of, generate_of, places_of, show_of, with_show, try_of, tried, name_given, size_of, sized, job_of, is_none, TableMeans, axioms_of, with_axioms, graph_of, with_graph, replay_of, with_replay, find_of, with_find, identifier_given}
use Rattle.pure_check.specs.Asked.{IsTaken}
use Rattle.pure_check.specs.JobAnswers.{IsInRange}
use Rattle.pure_check.specs.Laws.{JobInRange}
use Rattle.pure_words.specs.declared.job.CancelWord.{CancelWord}
use Rattle.pure_words.specs.declared.job.Job.{Job}

abbrev IfJob : Option Job → Type 0
IfJob None = Unit {0}
IfJob (Some job) = IsInRange job

-- a number that was found lies between these
abbrev IsBetween : (low high : ℕ) → Option ℕ → Type 0
IsBetween low high None = Unit {0}
IsBetween low high (Some n) = (low ≤ n) × (n ≤ high)

number-within : (low high : ℕ) (found : Option ℕ) → IsBetween low high (within low high found)
number-within low high None = _
number-within low high (Some n) = by (nat_le low n) (nat_le n high) refl refl
  where
    by : (b d : Bool) → nat_le low n ≡ b → nat_le n high ≡ d → IsBetween low high (if b && d then Some n else None)
    by false d least most = _
    by true true least most = (grind (arith, nat_tests), grind (arith, nat_tests))
    by true false least most = _

workers-within : (values : List (List ℕ)) → IsBetween 1 64 (workers_of values)
workers-within [] = (omega arith, omega arith)
workers-within (value ∷ []) = number-within 1 64 (number_of value)
workers-within (value ∷ other ∷ values) = _

no-size : (workers : Option ℕ) → IfJob (generated workers None)
no-size None = _
no-size (Some n) = _

sized-some : (workers start theories lemmas : Option ℕ) → IsBetween 1 64 workers → IsBetween 0 65536 start → IsBetween 1 64 theories → IsBetween 1 512 lemmas → IfJob (generated workers (sized start theories lemmas))
sized-some None start theories lemmas w s t l = _
sized-some (Some workers) None theories lemmas w s t l = _
sized-some (Some workers) (Some start) None lemmas w s t l = _
sized-some (Some workers) (Some start) (Some theories) None w s t l = _
sized-some (Some workers) (Some start) (Some theories) (Some lemmas) w s t l = by (nat_le (theories * lemmas) 4096)
  where
    by : (b : Bool) → IfJob (generated (Some workers) (if b then Some (record { start = start; theories = theories; lemmas = lemmas }) else None))
    by true = (w.0, s.1, t.1, l.1)
    by false = _

generated-some : (workers : Option ℕ) (values : List (List ℕ)) → IsBetween 1 64 workers → IfJob (generated workers (size_of values))
generated-some workers [] w = no-size workers
generated-some workers (start ∷ []) w = no-size workers
generated-some workers (start ∷ theories ∷ []) w = no-size workers
generated-some workers (start ∷ theories ∷ lemmas ∷ []) w =
    sized-some workers (within 0 65536 (number_of start)) (within 1 64 (number_of theories)) (within 1 512 (number_of lemmas))
    w (number-within 0 65536 (number_of start)) (number-within 1 64 (number_of theories)) (number-within 1 512 (number_of lemmas))
generated-some workers (start ∷ theories ∷ lemmas ∷ other ∷ values) w = no-size workers

checked-some : (workers : Option ℕ) (fail_fast : Option Bool) (cancels : Option (List CancelWord)) → IsBetween 1 64 workers → IfJob (checked workers fail_fast cancels)
checked-some None fail_fast cancels h = _
checked-some (Some n) None cancels h = _
checked-some (Some n) (Some b) None h = _
checked-some (Some n) (Some b) (Some cs) h = h.0

check-some : (items : List Item) → IfJob (check_of (given_by no_given items))
check-some items = let g = given_by no_given items in by (is_none g.arguments)
  where
    by : (b : Bool) → IfJob (if b then checked (workers_of (given_by no_given items).jobs) (fail_fast_of (given_by no_given items).fail_fast) (cancels_of (given_by no_given items).cancels) else None)
    by true = let g = given_by no_given items in checked-some (workers_of g.jobs) (fail_fast_of g.fail_fast) (cancels_of g.cancels) (workers-within g.jobs)
    by false = _

generate-some : (items : List Item) → IfJob (generate_of (given_by no_given items))
generate-some items = let g = given_by no_given items in by (is_none g.cancels && is_none g.fail_fast)
  where
    by : (b : Bool) → IfJob (if b then generated (workers_of (given_by no_given items).jobs) (size_of (given_by no_given items).arguments) else None)
    by true =
        let g = given_by no_given items in
        generated-some (workers_of g.jobs) g.arguments (workers-within g.jobs)
    by false = _

placed-some : (workers : Option ℕ) → IsBetween 1 64 workers → IfJob (with_places workers)
placed-some None w = _
placed-some (Some n) w = w.0

places-some : (items : List Item) → IfJob (places_of (given_by no_given items))
places-some items = let g = given_by no_given items in by (is_none g.cancels && (is_none g.fail_fast && is_none g.arguments))
  where
    by : (b : Bool) → IfJob (if b then with_places (workers_of (given_by no_given items).jobs) else None)
    by true = let g = given_by no_given items in placed-some (workers_of g.jobs) (workers-within g.jobs)
    by false = _

shown-some : (name : Option (List ℕ)) → IfJob (with_show name)
shown-some None = _
shown-some (Some name) = _

show-some : (items : List Item) → IfJob (show_of (given_by no_given items))
show-some items = let g = given_by no_given items in by (is_none g.jobs && (is_none g.cancels && is_none g.fail_fast))
  where
    by : (b : Bool) → IfJob (if b then with_show (name_given (given_by no_given items).arguments) else None)
    by true = shown-some (name_given (given_by no_given items).arguments)
    by false = _

with_axioms-some : (workers : Option ℕ) (name : Option (List ℕ)) → IsBetween 1 64 workers → IfJob (with_axioms workers name)
with_axioms-some None name w = _
with_axioms-some (Some n) None w = _
with_axioms-some (Some n) (Some name) w = w.0

axioms-some : (items : List Item) → IfJob (axioms_of (given_by no_given items))
axioms-some items = let g = given_by no_given items in by (is_none g.cancels && is_none g.fail_fast)
  where
    by : (b : Bool) → IfJob (if b then with_axioms (workers_of (given_by no_given items).jobs) (name_given (given_by no_given items).arguments) else None)
    by true =
        let g = given_by no_given items in
        with_axioms-some (workers_of g.jobs) (name_given g.arguments) (workers-within g.jobs)
    by false = _

with_graph-some : (workers : Option ℕ) → IsBetween 1 64 workers → IfJob (with_graph workers)
with_graph-some None w = _
with_graph-some (Some n) w = w.0

graph-some : (items : List Item) → IfJob (graph_of (given_by no_given items))
graph-some items = let g = given_by no_given items in by (is_none g.cancels && (is_none g.fail_fast && is_none g.arguments))
  where
    by : (b : Bool) → IfJob (if b then with_graph (workers_of (given_by no_given items).jobs) else None)
    by true = let g = given_by no_given items in with_graph-some (workers_of g.jobs) (workers-within g.jobs)
    by false = _

replayed-some : (name : Option (List ℕ)) → IfJob (with_replay name)
replayed-some None = _
replayed-some (Some name) = _

replay-some : (items : List Item) → IfJob (replay_of (given_by no_given items))
replay-some items = let g = given_by no_given items in by (is_none g.jobs && (is_none g.cancels && is_none g.fail_fast))
  where
    by : (b : Bool) → IfJob (if b then with_replay (identifier_given (given_by no_given items).arguments) else None)
    by true = replayed-some (identifier_given (given_by no_given items).arguments)
    by false = _

found-some : (name : Option (List ℕ)) → IfJob (with_find name)
found-some None = _
found-some (Some name) = _

find-some : (items : List Item) → IfJob (find_of (given_by no_given items))
find-some items = let g = given_by no_given items in by (is_none g.jobs && (is_none g.cancels && is_none g.fail_fast))
  where
    by : (b : Bool) → IfJob (if b then with_find (name_given (given_by no_given items).arguments) else None)
    by true = found-some (name_given (given_by no_given items).arguments)
    by false = _

tried-some : (workers : Option ℕ) (name : Option (List ℕ)) → IsBetween 1 64 workers → IfJob (tried workers name)
tried-some None name w = _
tried-some (Some n) None w = _
tried-some (Some n) (Some name) w = w

try-some : (items : List Item) → IfJob (try_of (given_by no_given items))
try-some items = let g = given_by no_given items in by (is_none g.cancels && is_none g.fail_fast)
  where
    by : (b : Bool) → IfJob (if b then tried (workers_of (given_by no_given items).jobs) (name_given (given_by no_given items).arguments) else None)
    by true =
        let g = given_by no_given items in
        tried-some (workers_of g.jobs) (name_given g.arguments) (workers-within g.jobs)
    by false = _

either : (b : Bool) (one other : Option Job) → IfJob one → IfJob other → IfJob (if b then one else other)
either true one other h k = h
either false one other h k = k

job-some : TableMeans → (name : List ℕ) (items : List Item) → IfJob (job_of name (given_by no_given items))
job-some means name items =
    let g = given_by no_given items in
    subst IfJob (sym (means name g))
    (either (same name (codes "check")) (check_of g) _ (check-some items)
    (either (same name (codes "generate")) (generate_of g) _ (generate-some items)
    (either (same name (codes "places")) (places_of g) _ (places-some items)
    (either (same name (codes "axioms")) (axioms_of g) _ (axioms-some items)
    (either (same name (codes "graph")) (graph_of g) _ (graph-some items)
    (either (same name (codes "show")) (show_of g) _ (show-some items)
    (either (same name (codes "replay")) (replay_of g) _ (replay-some items)
    (either (same name (codes "find")) (find_of g) _ (find-some items)
    (either (same name (codes "try")) (try_of g) None (try-some items) _)))))))))

command-some : TableMeans → (name : List ℕ) (words : List (List ℕ)) (job : Job) → IsCommand name words job → IsInRange job
command-some means name words job is = subst IfJob is.job_is (job-some means name is.items)

pub job_in_range : TableMeans → JobInRange
job_in_range means [] job is = command-some means _ [] job is
job_in_range means (name ∷ words) job is = command-some means name words job is

pub no_job : (words : List (List ℕ)) → ((job : Job) → IsJob words job → ⊥) → IsTaken words → ⊥
no_job words none_is (job, is) = none_is job is
