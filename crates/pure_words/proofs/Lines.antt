-- `clap` takes a grammatical line, and its rows give what the line gives.
use Rattle.std.proofs.Common.{◌≡◌, ◌∙◌, ◌≤◌, ◌+◌, ℕ, ◌==◌, Bool, true, false, not, cond, List, [], ◌∷◌, ◌++◌, length, refl, sym, ap, subst, Option, Some, None, codes, arith, drop, zero, suc, ◌&&◌, ◌||◌}
use Rattle.std.specs.Prelude.{fold, option_and_then, slice_get}
use Rattle.std.specs.List.{list_all}
use Rattle.std.specs.Str.{bytes_eq}
use Rattle.std.proofs.lemmas.Bool.{false≢true, and_parts}
use Rattle.std.proofs.lemmas.Slice.Eq.{bytes_eq-Decides}
use Rattle.clap.specs.Simple.{App, Shape, entered, built, built_leaf, inherited, is_simple, marked_built, names_of, subcommand_of, with_leaf_noted}
use Rattle.clap.specs.Takes.{default_passes, entered_passes, is_given, is_valid, level_passes, takes, walk_passes}
use Rattle.clap.specs.Walk.{Held, Names, Row, Rule, Text, Walk, default_rows, finished, first_of, has_row, more_values, nothing_held, reading_by, settled_rows, rows_after, walk_from, walked, with_default}
use Rattle.clap.specs.declared.parser.matches.ValueSource.TheVariants.{DefaultValue}
use Rattle.clap.proofs.WalkLemmas.{walk_stopped}
use Rattle.pure_words.specs.Commands.{is_none}
use Rattle.pure_words.specs.Line.{flag_of, given_of, line_app, listed, subcommand_app}
use Rattle.pure_words.specs.Table.{name_of, row_of}
use Rattle.pure_words.specs.Words.{Item, is_well_formed, words_of, no_given, given_by}
use Rattle.pure_words.specs.declared.given.Given.{Given}
use Rattle.pure_words.specs.declared.table.Subcommand.{Subcommand}
use Rattle.pure_words.specs.declared.table.Subcommand.TheVariants.{Check, Generate, Places, Axioms, Graph, Show, Replay, Find, Try}
use Rattle.pure_words.specs.declared.table.Takes.{Takes}
use Rattle.pure_words.proofs.Fits.{Fits, at_most_once, at_most_one}
use Rattle.pure_words.proofs.Rows.{at_end, found, found_new, found_other, no_row, some_not_none}
use Rattle.pure_words.proofs.Taken.{IsAt, IsTable, Reaches, Shows, all_read, argument_full, cancel_full, fail_fast_full, first_row, flag_row, jobs_full}

-- ---- the command, built

abbrev noted : Shape
noted = with_leaf_noted (marked_built line_app.top)

-- a subcommand, built
abbrev pub leaf : Subcommand → Shape
leaf s = built_leaf (inherited noted (subcommand_app s).top)

table_of : (s : Subcommand) → IsTable (leaf s).rules (row_of s)
table_of Check = record {
  jobs_long = λ _. refl;
  jobs_short = λ _. refl;
  jobs = λ _. refl;
  cancel_long = λ _. refl;
  cancel = λ _. refl;
  fail_fast_long = λ _. refl;
  first_place = λ (e : 1 ≤ 0). absurd (omega (arith, e));
  first = λ (e : 1 ≤ 0). absurd (omega (arith, e));
  second_place = λ (e : 2 ≤ 0). absurd (omega (arith, e));
  second = λ (e : 2 ≤ 0). absurd (omega (arith, e));
  third_place = λ (e : 3 ≤ 0). absurd (omega (arith, e));
  third = λ (e : 3 ≤ 0). absurd (omega (arith, e));
  most = omega arith;
}
table_of Generate = record {
  jobs_long = λ _. refl;
  jobs_short = λ _. refl;
  jobs = λ _. refl;
  cancel_long = λ e. absurd (false≢true e);
  cancel = λ e. absurd (false≢true e);
  fail_fast_long = λ e. absurd (false≢true e);
  first_place = λ _. refl;
  first = λ _. refl;
  second_place = λ _. refl;
  second = λ _. refl;
  third_place = λ _. refl;
  third = λ _. refl;
  most = omega arith;
}
table_of Places = record {
  jobs_long = λ _. refl;
  jobs_short = λ _. refl;
  jobs = λ _. refl;
  cancel_long = λ e. absurd (false≢true e);
  cancel = λ e. absurd (false≢true e);
  fail_fast_long = λ e. absurd (false≢true e);
  first_place = λ (e : 1 ≤ 0). absurd (omega (arith, e));
  first = λ (e : 1 ≤ 0). absurd (omega (arith, e));
  second_place = λ (e : 2 ≤ 0). absurd (omega (arith, e));
  second = λ (e : 2 ≤ 0). absurd (omega (arith, e));
  third_place = λ (e : 3 ≤ 0). absurd (omega (arith, e));
  third = λ (e : 3 ≤ 0). absurd (omega (arith, e));
  most = omega arith;
}
table_of Axioms = record {
  jobs_long = λ _. refl;
  jobs_short = λ _. refl;
  jobs = λ _. refl;
  cancel_long = λ e. absurd (false≢true e);
  cancel = λ e. absurd (false≢true e);
  fail_fast_long = λ e. absurd (false≢true e);
  first_place = λ _. refl;
  first = λ _. refl;
  second_place = λ (e : 2 ≤ 1). absurd (omega (arith, e));
  second = λ (e : 2 ≤ 1). absurd (omega (arith, e));
  third_place = λ (e : 3 ≤ 1). absurd (omega (arith, e));
  third = λ (e : 3 ≤ 1). absurd (omega (arith, e));
  most = omega arith;
}
table_of Graph = record {
  jobs_long = λ _. refl;
  jobs_short = λ _. refl;
  jobs = λ _. refl;
  cancel_long = λ e. absurd (false≢true e);
  cancel = λ e. absurd (false≢true e);
  fail_fast_long = λ e. absurd (false≢true e);
  first_place = λ (e : 1 ≤ 0). absurd (omega (arith, e));
  first = λ (e : 1 ≤ 0). absurd (omega (arith, e));
  second_place = λ (e : 2 ≤ 0). absurd (omega (arith, e));
  second = λ (e : 2 ≤ 0). absurd (omega (arith, e));
  third_place = λ (e : 3 ≤ 0). absurd (omega (arith, e));
  third = λ (e : 3 ≤ 0). absurd (omega (arith, e));
  most = omega arith;
}
table_of Show = record {
  jobs_long = λ e. absurd (false≢true e);
  jobs_short = λ e. absurd (false≢true e);
  jobs = λ e. absurd (false≢true e);
  cancel_long = λ e. absurd (false≢true e);
  cancel = λ e. absurd (false≢true e);
  fail_fast_long = λ e. absurd (false≢true e);
  first_place = λ _. refl;
  first = λ _. refl;
  second_place = λ (e : 2 ≤ 1). absurd (omega (arith, e));
  second = λ (e : 2 ≤ 1). absurd (omega (arith, e));
  third_place = λ (e : 3 ≤ 1). absurd (omega (arith, e));
  third = λ (e : 3 ≤ 1). absurd (omega (arith, e));
  most = omega arith;
}
table_of Replay = record {
  jobs_long = λ e. absurd (false≢true e);
  jobs_short = λ e. absurd (false≢true e);
  jobs = λ e. absurd (false≢true e);
  cancel_long = λ e. absurd (false≢true e);
  cancel = λ e. absurd (false≢true e);
  fail_fast_long = λ e. absurd (false≢true e);
  first_place = λ _. refl;
  first = λ _. refl;
  second_place = λ (e : 2 ≤ 1). absurd (omega (arith, e));
  second = λ (e : 2 ≤ 1). absurd (omega (arith, e));
  third_place = λ (e : 3 ≤ 1). absurd (omega (arith, e));
  third = λ (e : 3 ≤ 1). absurd (omega (arith, e));
  most = omega arith;
}
table_of Find = record {
  jobs_long = λ e. absurd (false≢true e);
  jobs_short = λ e. absurd (false≢true e);
  jobs = λ e. absurd (false≢true e);
  cancel_long = λ e. absurd (false≢true e);
  cancel = λ e. absurd (false≢true e);
  fail_fast_long = λ e. absurd (false≢true e);
  first_place = λ _. refl;
  first = λ _. refl;
  second_place = λ (e : 2 ≤ 1). absurd (omega (arith, e));
  second = λ (e : 2 ≤ 1). absurd (omega (arith, e));
  third_place = λ (e : 3 ≤ 1). absurd (omega (arith, e));
  third = λ (e : 3 ≤ 1). absurd (omega (arith, e));
  most = omega arith;
}
table_of Try = record {
  jobs_long = λ _. refl;
  jobs_short = λ _. refl;
  jobs = λ _. refl;
  cancel_long = λ e. absurd (false≢true e);
  cancel = λ e. absurd (false≢true e);
  fail_fast_long = λ e. absurd (false≢true e);
  first_place = λ _. refl;
  first = λ _. refl;
  second_place = λ (e : 2 ≤ 1). absurd (omega (arith, e));
  second = λ (e : 2 ≤ 1). absurd (omega (arith, e));
  third_place = λ (e : 3 ≤ 1). absurd (omega (arith, e));
  third = λ (e : 3 ≤ 1). absurd (omega (arith, e));
  most = omega arith;
}

-- ---- the rows at the end

-- what the rows of a subcommand are to show, defaults and all
record ShowsAll (rows : List Row) (g : Given) : Type 0 where
  pub jobs : found (codes "jobs") rows ≡ first_row jobs_full g.jobs
  pub cancels : found (codes "cancel") rows ≡ first_row cancel_full g.cancels
  pub fail_fast : flag_of (first_of (codes "fail-fast") rows) ≡ g.fail_fast
  pub first : found (codes "first") rows ≡ first_row (argument_full 1 (codes "first")) g.arguments
  pub second : found (codes "second") rows ≡ first_row (argument_full 2 (codes "second")) (drop 1 g.arguments)
  pub third : found (codes "third") rows ≡ first_row (argument_full 3 (codes "third")) (drop 2 g.arguments)

same_either : {X : Type 0} (b : Bool) (x : X) → cond b x x ≡ x
same_either true x = refl
same_either false x = refl

-- without defaults the rows stay
no_defaults : (rules : List Rule) (rows : List Row) → list_all (λ a. is_none a.defaults) rules ≡ true → fold with_default rows rules ≡ rows
no_defaults [] rows e = refl
no_defaults (a ∷ rules) rows e =
    let parts = and_parts (is_none a.defaults) (list_all (λ b. is_none b.defaults) rules) e in
    ap (λ rs. fold with_default rs rules) (stays a.defaults parts.0) ∙ no_defaults rules rows parts.1
  where
    stays : (defaults : List Text) → is_none defaults ≡ true → cond (has_row a.id rows) rows (default_rows a.id (reading_by a) defaults rows) ≡ rows
    stays [] e' = same_either (has_row a.id rows) rows
    stays (d ∷ ds) e' = absurd (false≢true e')

row_there : (id : Text) (rows : List Row) (r : Row) → found id rows ≡ Some r → has_row id rows ≡ true
row_there id [] r e = absurd (some_not_none r (sym e))
row_there id (x ∷ xs) r e = go (bytes_eq x.id id) e (row_there id xs r)
  where
    go : (b : Bool) → cond b (Some x) (found id xs) ≡ Some r → (found id xs ≡ Some r → has_row id xs ≡ true) → (b || has_row id xs) ≡ true
    go true e' rest = refl
    go false e' rest = rest e'

-- the flag's row, or its default
default_row : Row
default_row = record { id = codes "fail-fast"; values = codes "false" ∷ []; count = None; source = Some DefaultValue; reading = reading_by fail_fast_full }

flagged : (is_taken : Bool) (rows : List Row) (g : Given) (flags : List Text) → g.fail_fast ≡ flags → at_most_once is_taken flags ≡ true → Shows rows g
    → ShowsAll (with_default rows fail_fast_full) g
unfolding default_row
flagged is_taken rows g [] are most shows =
    let none : found (codes "fail-fast") rows ≡ None = shows.fail_fast ∙ ap flag_row are in
    let ends : with_default rows fail_fast_full ≡ rows ++ default_row ∷ [] =
    rw (no_row (codes "fail-fast") rows none) (at_end (codes "fail-fast") (more_values DefaultValue (codes "false" ∷ [])) (default_row ∷ []) rows none) in
    subst (λ rs. ShowsAll rs g) (sym ends) (record {
      jobs = found_other (codes "jobs") rows default_row refl ∙ shows.jobs;
      cancels = found_other (codes "cancel") rows default_row refl ∙ shows.cancels;
      fail_fast = ap (λ o. flag_of (option_and_then (λ r. slice_get r.values 0) o)) (found_new (codes "fail-fast") rows default_row none refl) ∙ sym are;
      first = found_other (codes "first") rows default_row refl ∙ shows.first;
      second = found_other (codes "second") rows default_row refl ∙ shows.second;
      third = found_other (codes "third") rows default_row refl ∙ shows.third;
    })
flagged is_taken rows g (f ∷ []) are most shows =
    let there : found (codes "fail-fast") rows ≡ flag_row (f ∷ []) = shows.fail_fast ∙ ap flag_row are in
    let stays : with_default rows fail_fast_full ≡ rows = rw (row_there (codes "fail-fast") rows _ there) refl in
    let word : (bytes_eq (codes "--fail-fast") f && true) ≡ true = sym (ap (list_all (bytes_eq (codes "--fail-fast"))) are) ∙ shows.flags in
    let text : codes "--fail-fast" ≡ f = (bytes_eq-Decides (codes "--fail-fast") f).0 (and_parts (bytes_eq (codes "--fail-fast") f) true word).0 in
    subst (λ rs. ShowsAll rs g) (sym stays) (record {
      jobs = shows.jobs;
      cancels = shows.cancels;
      fail_fast = ap (λ o. flag_of (option_and_then (λ r. slice_get r.values 0) o)) there ∙ ap (λ t. t ∷ []) text ∙ sym are;
      first = shows.first;
      second = shows.second;
      third = shows.third;
    })
flagged is_taken rows g (f ∷ h ∷ fs) are most shows = absurd (false≢true most)

-- without the flag
unflagged : (rows : List Row) (g : Given) (flags : List Text) → g.fail_fast ≡ flags → at_most_once false flags ≡ true → Shows rows g → ShowsAll rows g
unflagged rows g [] are most shows = record {
  jobs = shows.jobs;
  cancels = shows.cancels;
  fail_fast = ap (λ o. flag_of (option_and_then (λ r. slice_get r.values 0) o)) (shows.fail_fast ∙ ap flag_row are) ∙ sym are;
  first = shows.first;
  second = shows.second;
  third = shows.third;
}
unflagged rows g (f ∷ []) are most shows = absurd (false≢true most)
unflagged rows g (f ∷ h ∷ fs) are most shows = absurd (false≢true most)

finished_shows : (s : Subcommand) (rows : List Row) (pending : Option (Text × List Text)) (g : Given) → Fits (row_of s) g
    → Shows (settled_rows (leaf s).rules pending rows) g → ShowsAll (finished (leaf s).rules (record { rows = rows; pending = pending; skip = 0 })) g
finished_shows Check rows pending g fits shows =
    let whole = settled_rows (leaf Check).rules pending rows in
    subst (λ rs. ShowsAll (with_default rs fail_fast_full) g) (sym (no_defaults (jobs_full ∷ cancel_full ∷ []) whole refl))
    (flagged true whole g g.fail_fast refl fits.fail_fast shows)
finished_shows Generate rows pending g fits shows =
    let whole = settled_rows (leaf Generate).rules pending rows in
    subst (λ rs. ShowsAll rs g) (sym (no_defaults (leaf Generate).rules whole refl)) (unflagged whole g g.fail_fast refl fits.fail_fast shows)
finished_shows Places rows pending g fits shows =
    let whole = settled_rows (leaf Places).rules pending rows in
    subst (λ rs. ShowsAll rs g) (sym (no_defaults (leaf Places).rules whole refl)) (unflagged whole g g.fail_fast refl fits.fail_fast shows)
finished_shows Axioms rows pending g fits shows =
    let whole = settled_rows (leaf Axioms).rules pending rows in
    subst (λ rs. ShowsAll rs g) (sym (no_defaults (leaf Axioms).rules whole refl)) (unflagged whole g g.fail_fast refl fits.fail_fast shows)
finished_shows Graph rows pending g fits shows =
    let whole = settled_rows (leaf Graph).rules pending rows in
    subst (λ rs. ShowsAll rs g) (sym (no_defaults (leaf Graph).rules whole refl)) (unflagged whole g g.fail_fast refl fits.fail_fast shows)
finished_shows Show rows pending g fits shows =
    let whole = settled_rows (leaf Show).rules pending rows in
    subst (λ rs. ShowsAll rs g) (sym (no_defaults (leaf Show).rules whole refl)) (unflagged whole g g.fail_fast refl fits.fail_fast shows)
finished_shows Replay rows pending g fits shows =
    let whole = settled_rows (leaf Replay).rules pending rows in
    subst (λ rs. ShowsAll rs g) (sym (no_defaults (leaf Replay).rules whole refl)) (unflagged whole g g.fail_fast refl fits.fail_fast shows)
finished_shows Find rows pending g fits shows =
    let whole = settled_rows (leaf Find).rules pending rows in
    subst (λ rs. ShowsAll rs g) (sym (no_defaults (leaf Find).rules whole refl)) (unflagged whole g g.fail_fast refl fits.fail_fast shows)
finished_shows Try rows pending g fits shows =
    let whole = settled_rows (leaf Try).rules pending rows in
    subst (λ rs. ShowsAll rs g) (sym (no_defaults (leaf Try).rules whole refl)) (unflagged whole g g.fail_fast refl fits.fail_fast shows)

-- ---- what they give

abbrev value_of : Option Row → Option Text
value_of = option_and_then (λ r. slice_get r.values 0)

one_listed : (a : Rule) (is_taken : Bool) (vs : List Text) → at_most_one is_taken vs ≡ true → listed (option_and_then (λ r. slice_get r.values 0) (first_row a vs)) ≡ vs
one_listed a is_taken [] e = refl
one_listed a is_taken (v ∷ []) e = refl
one_listed a is_taken (v ∷ w ∷ vs) e = absurd (false≢true e)

abbrev value_in : Rule → List Text → List Text
value_in a vs = listed (option_and_then (λ r. slice_get r.values 0) (first_row a vs))

arguments_listed : (a b c : Rule) (vs : List Text) → length vs ≤ 3 → ((value_in a vs ++ value_in b (drop 1 vs)) ++ value_in c (drop 2 vs)) ≡ vs
arguments_listed a b c [] few = refl
arguments_listed a b c (x ∷ []) few = refl
arguments_listed a b c (x ∷ y ∷ []) few = refl
arguments_listed a b c (x ∷ y ∷ z ∷ []) few = refl
arguments_listed a b c (x ∷ y ∷ z ∷ w ∷ vs) few = absurd (omega (arith, few))

gives : (s : Subcommand) (rows : List Row) (g : Given) → Fits (row_of s) g → ShowsAll rows g → given_of rows ≡ g
gives s rows g fits shows =
    let jobs : listed (first_of (codes "jobs") rows) ≡ g.jobs =
    ap (λ o. listed (option_and_then (λ r. slice_get r.values 0) o)) shows.jobs ∙ one_listed jobs_full (row_of s).jobs g.jobs fits.jobs in
    let cancels : listed (first_of (codes "cancel") rows) ≡ g.cancels =
    ap (λ o. listed (option_and_then (λ r. slice_get r.values 0) o)) shows.cancels ∙ one_listed cancel_full (row_of s).cancel g.cancels fits.cancels in
    let few : length g.arguments ≤ 3 = omega (arith, fits.arguments, (table_of s).most) in
    let arguments : (given_of rows).arguments ≡ g.arguments =
    (λ i. (listed (value_of (shows.first i)) ++ listed (value_of (shows.second i))) ++ listed (value_of (shows.third i)))
    ∙ arguments_listed (argument_full 1 (codes "first")) (argument_full 2 (codes "second")) (argument_full 3 (codes "third")) g.arguments few in
    λ i. record { jobs = jobs i; cancels = cancels i; fail_fast = shows.fail_fast i; arguments = arguments i }

-- ---- one level

nothing_yet : (s : Subcommand) → IsAt (leaf s) [] None no_given
nothing_yet s = record {
  settles = refl;
  shows = record { jobs = refl; cancels = refl; fail_fast = refl; flags = refl; first = refl; second = refl; third = refl };
}

leaf_reads : (s : Subcommand) (items : List Item) → list_all is_well_formed items ≡ true → Fits (row_of s) (given_by no_given items)
    → Reaches (leaf s) (walk_from nothing_held) (words_of items) (given_by no_given items)
leaf_reads s items well fits = all_read (leaf s) (row_of s) (table_of s) items no_given [] None (nothing_yet s) well fits

-- an argument that must be there is there
argument_given : (a : Rule) (rows : List Row) (vs : List Text) → found a.id rows ≡ first_row a vs → 1 ≤ length vs → is_given a.id rows ≡ true
argument_given a rows [] there some = absurd (omega (arith, some))
argument_given a rows (v ∷ vs) there some = rw there refl

behind : (n : ℕ) (vs : List Text) → 1 + n ≤ length vs → 1 ≤ length (drop n vs)
behind zero vs e = e
behind (suc n) [] e = absurd (omega (arith, e))
behind (suc n) (v ∷ vs) e = behind n vs (omega (arith, e))

leaf_valid : (s : Subcommand) (rows : List Row) (g : Given) → length g.arguments ≡ (row_of s).arguments → ShowsAll rows g → is_valid (leaf s) rows false ≡ true
leaf_valid Check rows g whole shows = refl
leaf_valid Generate rows g whole shows =
    let first = argument_given (argument_full 1 (codes "first")) rows g.arguments shows.first (omega (arith, whole)) in
    let second = argument_given (argument_full 2 (codes "second")) rows (drop 1 g.arguments) shows.second (behind 1 g.arguments (omega (arith, whole))) in
    let third = argument_given (argument_full 3 (codes "third")) rows (drop 2 g.arguments) shows.third (behind 2 g.arguments (omega (arith, whole))) in
    rw (first, second, third) refl
leaf_valid Places rows g whole shows = refl
leaf_valid Axioms rows g whole shows =
    let first = argument_given (argument_full 1 (codes "first")) rows g.arguments shows.first (omega (arith, whole)) in
    rw first refl
leaf_valid Graph rows g whole shows = refl
leaf_valid Show rows g whole shows =
    let first = argument_given (argument_full 1 (codes "first")) rows g.arguments shows.first (omega (arith, whole)) in
    rw first refl
leaf_valid Replay rows g whole shows =
    let first = argument_given (argument_full 1 (codes "first")) rows g.arguments shows.first (omega (arith, whole)) in
    rw first refl
leaf_valid Find rows g whole shows =
    let first = argument_given (argument_full 1 (codes "first")) rows g.arguments shows.first (omega (arith, whole)) in
    rw first refl
leaf_valid Try rows g whole shows =
    let first = argument_given (argument_full 1 (codes "first")) rows g.arguments shows.first (omega (arith, whole)) in
    rw first refl

defaults_pass : (s : Subcommand) → list_all default_passes (leaf s).rules ≡ true
defaults_pass Check = refl
defaults_pass Generate = refl
defaults_pass Places = refl
defaults_pass Axioms = refl
defaults_pass Graph = refl
defaults_pass Show = refl
defaults_pass Replay = refl
defaults_pass Find = refl
defaults_pass Try = refl

-- a subcommand takes its words
leaf_takes : (s : Subcommand) (items : List Item) → list_all is_well_formed items ≡ true → Fits (row_of s) (given_by no_given items)
    → length (given_by no_given items).arguments ≡ (row_of s).arguments → level_passes (leaf s) [] nothing_held (words_of items) false ≡ true
leaf_takes s items well fits whole =
    let r = leaf_reads s items well fits in
    let valid = leaf_valid s _ (given_by no_given items) whole (finished_shows s r.rows r.pending (given_by no_given items) fits r.shows) in
    rw (r.reads.passes, r.reads.leads, r.settles, defaults_pass s) valid

-- and its rows give what the words give
leaf_gives : (s : Subcommand) (items : List Item) → list_all is_well_formed items ≡ true → Fits (row_of s) (given_by no_given items)
    → given_of (rows_after (leaf s).rules [] (words_of items)) ≡ given_by no_given items
leaf_gives s items well fits =
    let r = leaf_reads s items well fits in
    ap (λ (w : Walk). given_of (finished (leaf s).rules w.held)) r.reads.leads
    ∙ gives s _ (given_by no_given items) fits (finished_shows s r.rows r.pending (given_by no_given items) fits r.shows)

-- ---- the whole line

abbrev whole_line : App
whole_line = built line_app

abbrev stopped_at : Text → List Text → Walk
stopped_at name words = record (walk_from nothing_held) { stopped = Some (name, words) }

stops : (s : Subcommand) (words : List Text) → fold (walked whole_line.top.rules (names_of whole_line)) (walk_from nothing_held) (name_of s ∷ words) ≡ stopped_at (name_of s) words
unfolding walked
stops Check words = sym (walk_stopped whole_line.top.rules (names_of whole_line) (walk_from nothing_held) (codes "check") [] words)
stops Generate words = sym (walk_stopped whole_line.top.rules (names_of whole_line) (walk_from nothing_held) (codes "generate") [] words)
stops Places words = sym (walk_stopped whole_line.top.rules (names_of whole_line) (walk_from nothing_held) (codes "places") [] words)
stops Axioms words = sym (walk_stopped whole_line.top.rules (names_of whole_line) (walk_from nothing_held) (codes "axioms") [] words)
stops Graph words = sym (walk_stopped whole_line.top.rules (names_of whole_line) (walk_from nothing_held) (codes "graph") [] words)
stops Show words = sym (walk_stopped whole_line.top.rules (names_of whole_line) (walk_from nothing_held) (codes "show") [] words)
stops Replay words = sym (walk_stopped whole_line.top.rules (names_of whole_line) (walk_from nothing_held) (codes "replay") [] words)
stops Find words = sym (walk_stopped whole_line.top.rules (names_of whole_line) (walk_from nothing_held) (codes "find") [] words)
stops Try words = sym (walk_stopped whole_line.top.rules (names_of whole_line) (walk_from nothing_held) (codes "try") [] words)

left_over : (name : Text) (seen words : List Text) → walk_passes whole_line.top (names_of whole_line) (stopped_at name seen) words ≡ true
unfolding walk_passes walked
left_over name seen [] = refl
left_over name seen (word ∷ words) = left_over name (seen ++ word ∷ []) words

top_passes : (s : Subcommand) (words : List Text) → walk_passes whole_line.top (names_of whole_line) (walk_from nothing_held) (name_of s ∷ words) ≡ true
unfolding walk_passes walked
top_passes Check words = left_over (codes "check") [] words
top_passes Generate words = left_over (codes "generate") [] words
top_passes Places words = left_over (codes "places") [] words
top_passes Axioms words = left_over (codes "axioms") [] words
top_passes Graph words = left_over (codes "graph") [] words
top_passes Show words = left_over (codes "show") [] words
top_passes Replay words = left_over (codes "replay") [] words
top_passes Find words = left_over (codes "find") [] words
top_passes Try words = left_over (codes "try") [] words

entered_level : (s : Subcommand) (words : List Text) → entered_passes whole_line (Some (name_of s, words)) ≡ level_passes (leaf s) [] nothing_held words false
entered_level Check words = refl
entered_level Generate words = refl
entered_level Places words = refl
entered_level Axioms words = refl
entered_level Graph words = refl
entered_level Show words = refl
entered_level Replay words = refl
entered_level Find words = refl
entered_level Try words = refl

entered_rows : (s : Subcommand) (words : List Text) → entered whole_line (Some (name_of s, words)) ≡ Some (name_of s, rows_after (leaf s).rules [] words)
entered_rows Check words = refl
entered_rows Generate words = refl
entered_rows Places words = refl
entered_rows Axioms words = refl
entered_rows Graph words = refl
entered_rows Show words = refl
entered_rows Replay words = refl
entered_rows Find words = refl
entered_rows Try words = refl

-- A line of the grammar is taken.
pub line_taken : (s : Subcommand) (items : List Item) → list_all is_well_formed items ≡ true → Fits (row_of s) (given_by no_given items)
    → length (given_by no_given items).arguments ≡ (row_of s).arguments → takes line_app (name_of s ∷ words_of items) ≡ true
line_taken s items well fits whole =
    let words = words_of items in
    let level = entered_level s words ∙ leaf_takes s items well fits whole in
    rw (stops s words, level, top_passes s words) refl

-- The rows of the subcommand are those of its words.
pub line_entered : (s : Subcommand) (words : List Text) → subcommand_of line_app (name_of s ∷ words) ≡ Some (name_of s, rows_after (leaf s).rules [] words)
line_entered s words = ap (λ (w : Walk). entered whole_line w.stopped) (stops s words) ∙ entered_rows s words

-- They give what the line gives.
pub line_gives : (s : Subcommand) (items : List Item) → list_all is_well_formed items ≡ true → Fits (row_of s) (given_by no_given items)
    → given_of (rows_after (leaf s).rules [] (words_of items)) ≡ given_by no_given items
line_gives s items well fits = leaf_gives s items well fits
