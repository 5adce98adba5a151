-- The table, written out by subcommand.
use Rattle.std.proofs.lemmas.Bool.Decides.{nat_tests}
use Rattle.std.proofs.Common.{◌≡◌, ◌≢◌, suc, arith, ◌∙◌, ℕ, ◌==◌, Bool, true, false, List, [], ◌∷◌, Option, Some, None, length, refl, sym, ap, cond, codes, ◌&&◌}
use Rattle.std.specs.Prelude.{if◌then◌else◌, option_and_then}
use Rattle.pure_grammar.specs.Theories.Lexeme.{same}
use Rattle.pure_words.specs.Commands.{TableMeans, check_of, generate_of, places_of, axioms_of, graph_of, show_of, replay_of, find_of, try_of, checked, generated, tried, cancels_of, fail_fast_of, identifier_given, is_none, is_taken, job_by, job_of, name_given, size_of, with_places, with_axioms, with_graph, with_show, with_replay, with_find, workers_of}
use Rattle.pure_words.specs.Table.{subcommand_named}
use Rattle.pure_words.specs.declared.job.Job.{Job}
use Rattle.pure_words.specs.declared.given.Given.{Given}
use Rattle.pure_words.specs.declared.command.Size.{Size}
use Rattle.pure_words.specs.declared.table.Subcommand.TheVariants.{Check, Generate, Places, Axioms, Graph, Show, Replay, Find, Try}

same_either : {X : Type 0} (b : Bool) (x : X) → cond b x x ≡ x
same_either true x = refl
same_either false x = refl

not_zero : (n : ℕ) → (suc n == 0) ≡ false
not_zero n =
    let other : suc n ≢ 0 = λ e. absurd (omega (arith, e)) in
    grind (arith, nat_tests)

-- no arguments
none_given : (arguments : List (List ℕ)) → (length arguments == 0) ≡ is_none arguments
none_given [] = refl
none_given (a ∷ rest) = not_zero (length rest)

check_same : (g : Given) → job_by g Check ≡ check_of g
check_same g = ap (λ b. if b then checked (workers_of g.jobs) (fail_fast_of g.fail_fast) (cancels_of g.cancels) else None) (none_given g.arguments)

-- three arguments, else there is no size
sized_same : (workers : Option ℕ) (cancels fail_fast : Bool) (arguments : List (List ℕ))
    → (if cancels && (fail_fast && length arguments == 3) then generated workers (size_of arguments) else None)
    ≡ (if cancels && fail_fast then generated workers (size_of arguments) else None)
sized_same workers false fail_fast arguments = refl
sized_same workers true false arguments = refl
sized_same None true true [] = refl
sized_same (Some n) true true [] = refl
sized_same None true true (a ∷ []) = refl
sized_same (Some n) true true (a ∷ []) = refl
sized_same None true true (a ∷ b ∷ []) = refl
sized_same (Some n) true true (a ∷ b ∷ []) = refl
sized_same workers true true (a ∷ b ∷ c ∷ []) = refl
sized_same None true true (a ∷ b ∷ c ∷ d ∷ rest) = same_either (length (a ∷ b ∷ c ∷ d ∷ rest) == 3) None
sized_same (Some n) true true (a ∷ b ∷ c ∷ d ∷ rest) = same_either (length (a ∷ b ∷ c ∷ d ∷ rest) == 3) None

generate_same : (g : Given) → job_by g Generate ≡ generate_of g
generate_same g = sized_same (workers_of g.jobs) (is_none g.cancels) (is_none g.fail_fast) g.arguments

places_same : (g : Given) → job_by g Places ≡ places_of g
places_same g = ap (λ b. if is_none g.cancels && (is_none g.fail_fast && b) then with_places (workers_of g.jobs) else None) (none_given g.arguments)

axioms_by : (workers : Option ℕ) (cancels fail_fast : Bool) (arguments : List (List ℕ))
    → (if cancels && (fail_fast && length arguments == 1) then with_axioms workers (name_given arguments) else None)
    ≡ (if cancels && fail_fast then with_axioms workers (name_given arguments) else None)
axioms_by workers false fail_fast arguments = refl
axioms_by workers true false arguments = refl
axioms_by None true true [] = refl
axioms_by (Some n) true true [] = refl
axioms_by workers true true (a ∷ []) = refl
axioms_by None true true (a ∷ b ∷ rest) = same_either (length (a ∷ b ∷ rest) == 1) None
axioms_by (Some n) true true (a ∷ b ∷ rest) = same_either (length (a ∷ b ∷ rest) == 1) None

axioms_same : (g : Given) → job_by g Axioms ≡ axioms_of g
axioms_same g = axioms_by (workers_of g.jobs) (is_none g.cancels) (is_none g.fail_fast) g.arguments

graph_same : (g : Given) → job_by g Graph ≡ graph_of g
graph_same g = ap (λ b. if is_none g.cancels && (is_none g.fail_fast && b) then with_graph (workers_of g.jobs) else None) (none_given g.arguments)

show_by : (jobs cancels fail_fast : Bool) (arguments : List (List ℕ))
    → (if jobs && (cancels && (fail_fast && length arguments == 1)) then with_show (name_given arguments) else None)
    ≡ (if jobs && (cancels && fail_fast) then with_show (name_given arguments) else None)
show_by false cancels fail_fast arguments = refl
show_by true false fail_fast arguments = refl
show_by true true false arguments = refl
show_by true true true [] = refl
show_by true true true (a ∷ []) = refl
show_by true true true (a ∷ b ∷ rest) = same_either (length (a ∷ b ∷ rest) == 1) None

show_same : (g : Given) → job_by g Show ≡ show_of g
show_same g = show_by (is_none g.jobs) (is_none g.cancels) (is_none g.fail_fast) g.arguments

replay_by : (jobs cancels fail_fast : Bool) (arguments : List (List ℕ))
    → (if jobs && (cancels && (fail_fast && length arguments == 1)) then with_replay (identifier_given arguments) else None)
    ≡ (if jobs && (cancels && fail_fast) then with_replay (identifier_given arguments) else None)
replay_by false cancels fail_fast arguments = refl
replay_by true false fail_fast arguments = refl
replay_by true true false arguments = refl
replay_by true true true [] = refl
replay_by true true true (a ∷ []) = refl
replay_by true true true (a ∷ b ∷ rest) = same_either (length (a ∷ b ∷ rest) == 1) None

replay_same : (g : Given) → job_by g Replay ≡ replay_of g
replay_same g = replay_by (is_none g.jobs) (is_none g.cancels) (is_none g.fail_fast) g.arguments

find_by : (jobs cancels fail_fast : Bool) (arguments : List (List ℕ))
    → (if jobs && (cancels && (fail_fast && length arguments == 1)) then with_find (name_given arguments) else None)
    ≡ (if jobs && (cancels && fail_fast) then with_find (name_given arguments) else None)
find_by false cancels fail_fast arguments = refl
find_by true false fail_fast arguments = refl
find_by true true false arguments = refl
find_by true true true [] = refl
find_by true true true (a ∷ []) = refl
find_by true true true (a ∷ b ∷ rest) = same_either (length (a ∷ b ∷ rest) == 1) None

find_same : (g : Given) → job_by g Find ≡ find_of g
find_same g = find_by (is_none g.jobs) (is_none g.cancels) (is_none g.fail_fast) g.arguments

-- one argument, else there is no name
named_same : (workers : Option ℕ) (cancels fail_fast : Bool) (arguments : List (List ℕ))
    → (if cancels && (fail_fast && length arguments == 1) then tried workers (name_given arguments) else None)
    ≡ (if cancels && fail_fast then tried workers (name_given arguments) else None)
named_same workers false fail_fast arguments = refl
named_same workers true false arguments = refl
named_same None true true [] = refl
named_same (Some n) true true [] = refl
named_same workers true true (a ∷ []) = refl
named_same None true true (a ∷ b ∷ rest) = same_either (length (a ∷ b ∷ rest) == 1) None
named_same (Some n) true true (a ∷ b ∷ rest) = same_either (length (a ∷ b ∷ rest) == 1) None

try_same : (g : Given) → job_by g Try ≡ try_of g
try_same g = named_same (workers_of g.jobs) (is_none g.cancels) (is_none g.fail_fast) g.arguments

by_name : (check generate places axioms graph show replay find try : Bool) (g : Given)
    → option_and_then (job_by g) (cond check (Some Check) (cond generate (Some Generate) (cond places (Some Places) (cond axioms (Some Axioms) (cond graph (Some Graph) (cond show (Some Show) (cond replay (Some Replay) (cond find (Some Find) (cond try (Some Try) None)))))))))
    ≡ (if check then check_of g else (if generate then generate_of g else (if places then places_of g else (if axioms then axioms_of g else (if graph then graph_of g else (if show then show_of g else (if replay then replay_of g else (if find then find_of g else (if try then try_of g else None)))))))))
by_name true generate places axioms graph show replay find try g = check_same g
by_name false true places axioms graph show replay find try g = generate_same g
by_name false false true axioms graph show replay find try g = places_same g
by_name false false false true graph show replay find try g = axioms_same g
by_name false false false false true show replay find try g = graph_same g
by_name false false false false false true replay find try g = show_same g
by_name false false false false false false true find try g = replay_same g
by_name false false false false false false false true try g = find_same g
by_name false false false false false false false false true g = try_same g
by_name false false false false false false false false false g = refl

pub table_means : TableMeans
unfolding job_of subcommand_named
table_means name g = by_name (same name (codes "check")) (same name (codes "generate")) (same name (codes "places")) (same name (codes "axioms")) (same name (codes "graph")) (same name (codes "show")) (same name (codes "replay")) (same name (codes "find")) (same name (codes "try")) g
