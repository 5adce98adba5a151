-- What is given fits, where it gives a job.
use Rattle.std.proofs.Common.{◌≡◌, ◌≢◌, ◌∙◌, ◌≤◌, ◌+◌, ℕ, ◌==◌, Bool, true, false, not, cond, List, [], ◌∷◌, ◌++◌, length, refl, sym, ap, Option, Some, None, codes, arith, ◌&&◌, ◌||◌}
use Rattle.std.specs.Prelude.{if◌then◌else◌, nat_le, option_and_then, option_map}
use Rattle.std.specs.List.{list_all, onto_first, slice_split}
use Rattle.std.proofs.lemmas.Bool.{false≢true, and_parts}
use Rattle.std.proofs.lemmas.Bool.Decides.{nat_tests}
use Rattle.std.proofs.lemmas.Slice.Eq.{bytes_eq-Decides}
use Rattle.pure_grammar.specs.Tokens.Bytes.{is_digit, is_letter}
use Rattle.pure_grammar.specs.Tokens.Token.{is_number}
use Rattle.pure_grammar.specs.Theories.Lexeme.{same}
use Rattle.pure_lex.specs.Identifier.{is_identifier}
use Rattle.pure_words.specs.Commands.{cancels_of, checked, fail_fast_of, generated, is_none, is_taken, job_by, job_given, job_of, name_given, size_of, tried, with_places, with_axioms, with_graph, workers_of}
use Rattle.pure_words.specs.Table.{name_of, row_of, subcommand_named}
use Rattle.pure_words.specs.Values.{cancel_of, cancels_in, colon, comma, number_of, parts, with_cancel, within}
use Rattle.pure_words.specs.declared.given.Given.{Given}
use Rattle.pure_words.specs.declared.job.CancelWord.{CancelWord}
use Rattle.pure_words.specs.declared.job.Job.{Job}
use Rattle.pure_words.specs.declared.command.Size.{Size}
use Rattle.pure_words.specs.declared.table.Subcommand.{Subcommand}
use Rattle.pure_words.specs.declared.table.Subcommand.TheVariants.{Check, Generate, Places, Axioms, Graph, Show, Replay, Find, Try}
use Rattle.pure_words.proofs.Fits.{Fits, at_most_once, at_most_one, is_plain}
use Rattle.pure_words.proofs.Rows.{some_not_none}

-- ---- values

not_none : {X : Type 0} (x : X) → None ≡ Some x → ⊥
not_none x e = some_not_none x (sym e)

-- a text whose first byte is neither a dash nor an equals sign
plain_head : (b : ℕ) (bs : List ℕ) → b ≢ 45 → b ≢ 61 → is_plain (b ∷ bs) ≡ true
plain_head b bs dash equals =
    let no_dash : (b == 45) ≡ false = grind (arith, nat_tests) in
    let no_equals : (b == 61) ≡ false = grind (arith, nat_tests) in
    rw (no_dash, no_equals) refl

not_number : (low high b : ℕ) (bs : List ℕ) → is_digit b ≡ false → within low high (number_of (b ∷ bs)) ≡ None
not_number low high b bs no_digit = rw no_digit refl

number_plain : (low high : ℕ) (v : List ℕ) (n : ℕ) → within low high (number_of v) ≡ Some n → is_plain v ≡ true
unfolding is_digit
number_plain low high [] n e = absurd (not_none n e)
number_plain low high (b ∷ bs) n e = plain_head b bs
    (λ is. not_none n (sym (not_number low high b bs (ap is_digit is)) ∙ e))
    (λ is. not_none n (sym (not_number low high b bs (ap is_digit is)) ∙ e))

-- a text that begins with no letter is no cancellation, and neither is a list of such texts
no_cancel : (b : ℕ) (texts : List (List ℕ)) → is_letter b ≡ false → cancel_of (onto_first b texts) ≡ None
no_cancel b [] no_letter = refl
no_cancel b (group ∷ []) no_letter = refl
no_cancel b (group ∷ after ∷ []) no_letter = rw no_letter refl
no_cancel b (group ∷ after ∷ more ∷ texts) no_letter = refl

no_cancels : (b : ℕ) (texts : List (List ℕ)) → is_letter b ≡ false → (b == 58) ≡ false → cancels_in (onto_first b texts) ≡ None
no_cancels b [] no_letter no_colon = rw no_colon refl
no_cancels b (text ∷ texts) no_letter no_colon =
    rw no_colon (ap (λ o. with_cancel o (cancels_in texts)) (no_cancel b (slice_split (λ c. c == 58) text) no_letter))

not_cancels : (b : ℕ) (bs : List ℕ) → is_letter b ≡ false → (b == 58) ≡ false → (b == 44) ≡ false → cancels_in (parts comma (b ∷ bs)) ≡ None
not_cancels b bs no_letter no_colon no_comma = rw no_comma (no_cancels b (slice_split (λ c. c == 44) bs) no_letter no_colon)

cancels_plain : (v : List ℕ) (cs : List CancelWord) → cancels_in (parts comma v) ≡ Some cs → is_plain v ≡ true
unfolding is_letter
cancels_plain [] cs e = absurd (not_none cs e)
cancels_plain (b ∷ bs) cs e = plain_head b bs
    (λ is. not_none cs (sym (not_cancels b bs (ap is_letter is) (ap (λ c. c == 58) is) (ap (λ c. c == 44) is)) ∙ e))
    (λ is. not_none cs (sym (not_cancels b bs (ap is_letter is) (ap (λ c. c == 58) is) (ap (λ c. c == 44) is)) ∙ e))

-- ---- lists of values

jobs_fit : (vs : List (List ℕ)) (n : ℕ) → workers_of vs ≡ Some n → at_most_one true vs ≡ true
jobs_fit [] n e = refl
jobs_fit (v ∷ []) n e = number_plain 1 64 v n e
jobs_fit (v ∷ w ∷ vs) n e = absurd (not_none n e)

cancels_fit : (vs : List (List ℕ)) (cs : List CancelWord) → cancels_of vs ≡ Some cs → at_most_one true vs ≡ true
cancels_fit [] cs e = refl
cancels_fit (v ∷ []) cs e = cancels_plain v cs e
cancels_fit (v ∷ w ∷ vs) cs e = absurd (not_none cs e)

flag_fits : (fs : List (List ℕ)) (b : Bool) → fail_fast_of fs ≡ Some b → at_most_once true fs ≡ true
flag_fits [] b e = refl
flag_fits (f ∷ []) b e = refl
flag_fits (f ∷ h ∷ fs) b e = absurd (not_none b e)

none_fits : (vs : List (List ℕ)) → is_none vs ≡ true → at_most_one false vs ≡ true
none_fits [] e = refl
none_fits (v ∷ vs) e = absurd (false≢true e)

no_flag_fits : (fs : List (List ℕ)) → is_none fs ≡ true → at_most_once false fs ≡ true
no_flag_fits [] e = refl
no_flag_fits (f ∷ fs) e = absurd (false≢true e)

-- ---- jobs

checked_all : (workers : Option ℕ) (fail_fast : Option Bool) (cancels : Option (List CancelWord)) (job : Job) → checked workers fail_fast cancels ≡ Some job
    → ((n : ℕ) × (workers ≡ Some n)) × ((b : Bool) × (fail_fast ≡ Some b)) × ((cs : List CancelWord) × (cancels ≡ Some cs))
checked_all (Some n) (Some b) (Some cs) job e = ((n, refl), (b, refl), (cs, refl))
checked_all (Some n) (Some b) None job e = absurd (not_none job e)
checked_all (Some n) None cancels job e = absurd (not_none job e)
checked_all None fail_fast cancels job e = absurd (not_none job e)

generated_all : (workers : Option ℕ) (size : Option Size) (job : Job) → generated workers size ≡ Some job → (n : ℕ) × (workers ≡ Some n)
generated_all (Some n) size job e = (n, refl)
generated_all None size job e = absurd (not_none job e)

places_all : (workers : Option ℕ) (job : Job) → with_places workers ≡ Some job → (n : ℕ) × (workers ≡ Some n)
places_all (Some n) job e = (n, refl)
places_all None job e = absurd (not_none job e)

axioms_all : (workers : Option ℕ) (name : Option (List ℕ)) (job : Job) → with_axioms workers name ≡ Some job → (n : ℕ) × (workers ≡ Some n)
axioms_all (Some n) name job e = (n, refl)
axioms_all None name job e = absurd (not_none job e)

graph_all : (workers : Option ℕ) (job : Job) → with_graph workers ≡ Some job → (n : ℕ) × (workers ≡ Some n)
graph_all (Some n) job e = (n, refl)
graph_all None job e = absurd (not_none job e)

tried_all : (workers : Option ℕ) (name : Option (List ℕ)) (job : Job) → tried workers name ≡ Some job → (n : ℕ) × (workers ≡ Some n)
tried_all (Some n) name job e = (n, refl)
tried_all None name job e = absurd (not_none job e)

-- a test that was passed
passed : {X : Type 0} (b : Bool) (o : Option X) (x : X) → (if b then o else None) ≡ Some x → (b ≡ true) × (o ≡ Some x)
passed true o x e = (refl, e)
passed false o x e = absurd (not_none x e)

same_number : (m n : ℕ) → (m == n) ≡ true → m ≡ n
same_number m n e = grind (arith, nat_tests)

-- what a subcommand takes fits its row
pub job_fits : (s : Subcommand) (g : Given) (job : Job) → job_by g s ≡ Some job → Fits (row_of s) g × (length g.arguments ≡ (row_of s).arguments)
job_fits Check g job e =
    let both = passed (is_taken (row_of Check) g) (job_given Check g) job e in
    let whole : length g.arguments ≡ 0 = same_number (length g.arguments) 0 both.0 in
    let all = checked_all (workers_of g.jobs) (fail_fast_of g.fail_fast) (cancels_of g.cancels) job both.1 in (
      record {
        jobs = jobs_fit g.jobs all.0.0 all.0.1;
        cancels = cancels_fit g.cancels all.2.0 all.2.1;
        fail_fast = flag_fits g.fail_fast all.1.0 all.1.1;
        arguments = omega (arith, whole);
      },
      whole,
    )
job_fits Generate g job e =
    let both = passed (is_taken (row_of Generate) g) (job_given Generate g) job e in
    let one = and_parts (is_none g.cancels) (is_none g.fail_fast && length g.arguments == 3) both.0 in
    let two = and_parts (is_none g.fail_fast) (length g.arguments == 3) one.1 in
    let whole : length g.arguments ≡ 3 = same_number (length g.arguments) 3 two.1 in
    let workers = generated_all (workers_of g.jobs) (size_of g.arguments) job both.1 in (
      record {
        jobs = jobs_fit g.jobs workers.0 workers.1;
        cancels = none_fits g.cancels one.0;
        fail_fast = no_flag_fits g.fail_fast two.0;
        arguments = omega (arith, whole);
      },
      whole,
    )
job_fits Places g job e =
    let both = passed (is_taken (row_of Places) g) (job_given Places g) job e in
    let one = and_parts (is_none g.cancels) (is_none g.fail_fast && length g.arguments == 0) both.0 in
    let two = and_parts (is_none g.fail_fast) (length g.arguments == 0) one.1 in
    let whole : length g.arguments ≡ 0 = same_number (length g.arguments) 0 two.1 in
    let workers = places_all (workers_of g.jobs) job both.1 in (
      record {
        jobs = jobs_fit g.jobs workers.0 workers.1;
        cancels = none_fits g.cancels one.0;
        fail_fast = no_flag_fits g.fail_fast two.0;
        arguments = omega (arith, whole);
      },
      whole,
    )
job_fits Axioms g job e =
    let both = passed (is_taken (row_of Axioms) g) (job_given Axioms g) job e in
    let one = and_parts (is_none g.cancels) (is_none g.fail_fast && length g.arguments == 1) both.0 in
    let two = and_parts (is_none g.fail_fast) (length g.arguments == 1) one.1 in
    let whole : length g.arguments ≡ 1 = same_number (length g.arguments) 1 two.1 in
    let workers = axioms_all (workers_of g.jobs) (name_given g.arguments) job both.1 in (
      record {
        jobs = jobs_fit g.jobs workers.0 workers.1;
        cancels = none_fits g.cancels one.0;
        fail_fast = no_flag_fits g.fail_fast two.0;
        arguments = omega (arith, whole);
      },
      whole,
    )
job_fits Graph g job e =
    let both = passed (is_taken (row_of Graph) g) (job_given Graph g) job e in
    let one = and_parts (is_none g.cancels) (is_none g.fail_fast && length g.arguments == 0) both.0 in
    let two = and_parts (is_none g.fail_fast) (length g.arguments == 0) one.1 in
    let whole : length g.arguments ≡ 0 = same_number (length g.arguments) 0 two.1 in
    let workers = graph_all (workers_of g.jobs) job both.1 in (
      record {
        jobs = jobs_fit g.jobs workers.0 workers.1;
        cancels = none_fits g.cancels one.0;
        fail_fast = no_flag_fits g.fail_fast two.0;
        arguments = omega (arith, whole);
      },
      whole,
    )
job_fits Show g job e =
    let both = passed (is_taken (row_of Show) g) (job_given Show g) job e in
    let one = and_parts (is_none g.jobs) (is_none g.cancels && (is_none g.fail_fast && length g.arguments == 1)) both.0 in
    let two = and_parts (is_none g.cancels) (is_none g.fail_fast && length g.arguments == 1) one.1 in
    let three = and_parts (is_none g.fail_fast) (length g.arguments == 1) two.1 in
    let whole : length g.arguments ≡ 1 = same_number (length g.arguments) 1 three.1 in (
      record {
        jobs = none_fits g.jobs one.0;
        cancels = none_fits g.cancels two.0;
        fail_fast = no_flag_fits g.fail_fast three.0;
        arguments = omega (arith, whole);
      },
      whole,
    )
job_fits Replay g job e =
    let both = passed (is_taken (row_of Replay) g) (job_given Replay g) job e in
    let one = and_parts (is_none g.jobs) (is_none g.cancels && (is_none g.fail_fast && length g.arguments == 1)) both.0 in
    let two = and_parts (is_none g.cancels) (is_none g.fail_fast && length g.arguments == 1) one.1 in
    let three = and_parts (is_none g.fail_fast) (length g.arguments == 1) two.1 in
    let whole : length g.arguments ≡ 1 = same_number (length g.arguments) 1 three.1 in (
      record {
        jobs = none_fits g.jobs one.0;
        cancels = none_fits g.cancels two.0;
        fail_fast = no_flag_fits g.fail_fast three.0;
        arguments = omega (arith, whole);
      },
      whole,
    )
job_fits Find g job e =
    let both = passed (is_taken (row_of Find) g) (job_given Find g) job e in
    let one = and_parts (is_none g.jobs) (is_none g.cancels && (is_none g.fail_fast && length g.arguments == 1)) both.0 in
    let two = and_parts (is_none g.cancels) (is_none g.fail_fast && length g.arguments == 1) one.1 in
    let three = and_parts (is_none g.fail_fast) (length g.arguments == 1) two.1 in
    let whole : length g.arguments ≡ 1 = same_number (length g.arguments) 1 three.1 in (
      record {
        jobs = none_fits g.jobs one.0;
        cancels = none_fits g.cancels two.0;
        fail_fast = no_flag_fits g.fail_fast three.0;
        arguments = omega (arith, whole);
      },
      whole,
    )
job_fits Try g job e =
    let both = passed (is_taken (row_of Try) g) (job_given Try g) job e in
    let one = and_parts (is_none g.cancels) (is_none g.fail_fast && length g.arguments == 1) both.0 in
    let two = and_parts (is_none g.fail_fast) (length g.arguments == 1) one.1 in
    let whole : length g.arguments ≡ 1 = same_number (length g.arguments) 1 two.1 in
    let workers = tried_all (workers_of g.jobs) (name_given g.arguments) job both.1 in (
      record {
        jobs = jobs_fit g.jobs workers.0 workers.1;
        cancels = none_fits g.cancels one.0;
        fail_fast = no_flag_fits g.fail_fast two.0;
        arguments = omega (arith, whole);
      },
      whole,
    )

-- ---- names

pub record IsNamed (name : List ℕ) (g : Given) (job : Job) : Type 0 where
  pub subcommand : Subcommand
  pub name_is : name ≡ name_of subcommand
  pub job_is : job_by g subcommand ≡ Some job

-- the subcommand whose job it is
pub named : (name : List ℕ) (g : Given) (job : Job) → job_of name g ≡ Some job → IsNamed name g job
unfolding job_of subcommand_named
named name g job e = pick (same name (codes "check")) refl (same name (codes "generate")) refl (same name (codes "places")) refl (same name (codes "axioms")) refl (same name (codes "graph")) refl (same name (codes "show")) refl (same name (codes "replay")) refl (same name (codes "find")) refl (same name (codes "try")) refl e
  where
    pick : (b0 : Bool) → same name (codes "check") ≡ b0
        → (b1 : Bool) → same name (codes "generate") ≡ b1
        → (b2 : Bool) → same name (codes "places") ≡ b2
        → (b3 : Bool) → same name (codes "axioms") ≡ b3
        → (b4 : Bool) → same name (codes "graph") ≡ b4
        → (b5 : Bool) → same name (codes "show") ≡ b5
        → (b6 : Bool) → same name (codes "replay") ≡ b6
        → (b7 : Bool) → same name (codes "find") ≡ b7
        → (b8 : Bool) → same name (codes "try") ≡ b8
        → option_and_then (job_by g) (cond b0 (Some Check) (cond b1 (Some Generate) (cond b2 (Some Places) (cond b3 (Some Axioms) (cond b4 (Some Graph) (cond b5 (Some Show) (cond b6 (Some Replay) (cond b7 (Some Find) (cond b8 (Some Try) None))))))))) ≡ Some job → IsNamed name g job
    pick true is0 b1 is1 b2 is2 b3 is3 b4 is4 b5 is5 b6 is6 b7 is7 b8 is8 e' = record { subcommand = Check; name_is = (bytes_eq-Decides name (codes "check")).0 is0; job_is = e' }
    pick false is0 true is1 b2 is2 b3 is3 b4 is4 b5 is5 b6 is6 b7 is7 b8 is8 e' = record { subcommand = Generate; name_is = (bytes_eq-Decides name (codes "generate")).0 is1; job_is = e' }
    pick false is0 false is1 true is2 b3 is3 b4 is4 b5 is5 b6 is6 b7 is7 b8 is8 e' = record { subcommand = Places; name_is = (bytes_eq-Decides name (codes "places")).0 is2; job_is = e' }
    pick false is0 false is1 false is2 true is3 b4 is4 b5 is5 b6 is6 b7 is7 b8 is8 e' = record { subcommand = Axioms; name_is = (bytes_eq-Decides name (codes "axioms")).0 is3; job_is = e' }
    pick false is0 false is1 false is2 false is3 true is4 b5 is5 b6 is6 b7 is7 b8 is8 e' = record { subcommand = Graph; name_is = (bytes_eq-Decides name (codes "graph")).0 is4; job_is = e' }
    pick false is0 false is1 false is2 false is3 false is4 true is5 b6 is6 b7 is7 b8 is8 e' = record { subcommand = Show; name_is = (bytes_eq-Decides name (codes "show")).0 is5; job_is = e' }
    pick false is0 false is1 false is2 false is3 false is4 false is5 true is6 b7 is7 b8 is8 e' = record { subcommand = Replay; name_is = (bytes_eq-Decides name (codes "replay")).0 is6; job_is = e' }
    pick false is0 false is1 false is2 false is3 false is4 false is5 false is6 true is7 b8 is8 e' = record { subcommand = Find; name_is = (bytes_eq-Decides name (codes "find")).0 is7; job_is = e' }
    pick false is0 false is1 false is2 false is3 false is4 false is5 false is6 false is7 true is8 e' = record { subcommand = Try; name_is = (bytes_eq-Decides name (codes "try")).0 is8; job_is = e' }
    pick false is0 false is1 false is2 false is3 false is4 false is5 false is6 false is7 false is8 e' = absurd (not_none job e')
