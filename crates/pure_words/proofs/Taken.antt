-- `clap` takes the words of items that fit, and its rows show what they give.
use Rattle.std.proofs.Common.{◌≡◌, ◌∙◌, ◌≤◌, ◌<◌, ◌+◌, ℕ, ◌==◌, Bool, true, false, not, List, [], ◌∷◌, ◌++◌, length, refl, sym, ap, subst, Option, Some, None, codes, arith, drop, ◌&&◌, ◌||◌}
use Rattle.std.specs.Prelude.{nat_lt, nat_le, min, find}
use Rattle.std.specs.List.{list_all}
use Rattle.std.specs.Str.{bytes_eq}
use Rattle.std.proofs.lemmas.Bool.{false≢true, and_parts}
use Rattle.std.proofs.lemmas.List.{length-append}
use Rattle.pure_grammar.specs.Tokens.Bytes.{head_is}
use Rattle.clap.specs.Lexer.{long_of, short_of, usize_max}
use Rattle.clap.specs.Simple.{Shape, filled, with_index}
use Rattle.clap.specs.Takes.{settle_passes, use_passes}
use Rattle.clap.specs.Walk.{Row, Rule, Text, Walk, Held, after_flag, after_step, arg_by_id, arg_by_index, arg_by_long, arg_by_short, idle, most_values, option_met, pending_count, action_of, attached_value, has_row, is_append, more_values, reading_by, settled_rows, takes_several, used, used_by_id}
use Rattle.clap.specs.declared.builder.action.ArgAction.TheVariants.{Set}
use Rattle.clap.specs.declared.builder.value_parser.ValueParser.TheVariants.{String}
use Rattle.clap.specs.declared.parser.matches.ValueSource.TheVariants.{CommandLine}
use Rattle.pure_words.specs.Line.{jobs_rule, cancel_rule, fail_fast_rule, argument_rule}
use Rattle.pure_words.specs.Words.{Item, Apart, Joined, ShortApart, ShortJoined, FailFast, Argument, dash, is_well_formed, words_of, words_of_item, with_argument, with_fail_fast, with_item, with_value, given_by}
use Rattle.pure_words.specs.declared.given.Given.{Given}
use Rattle.pure_words.specs.declared.given.Key.{Key}
use Rattle.pure_words.specs.declared.given.Key.TheVariants.{Jobs, Cancel}
use Rattle.pure_words.specs.declared.table.Takes.{Takes}
use Rattle.pure_words.proofs.Fits.{Fits, fits_before, is_plain, one_flag, one_value}
use Rattle.pure_words.proofs.Rows.{found, found_new, found_other, no_row, used_at_end}
use Rattle.pure_words.proofs.Steps.{Reads, between, dashes, waits_for, long_goes, long_turn, short_goes, short_turn, value_goes, value_turn, argument_goes, argument_turn, nothing_more, one_more}

-- the rules as building leaves them
abbrev pub jobs_full : Rule
jobs_full = filled jobs_rule

abbrev pub cancel_full : Rule
cancel_full = filled cancel_rule

abbrev pub fail_fast_full : Rule
fail_fast_full = filled fail_fast_rule

abbrev pub argument_full : ℕ → Text → Rule
argument_full i id = with_index i (filled (argument_rule id))

-- the rules of a command are those of a row of the table
pub record IsTable (c : List Rule) (t : Takes) : Type 0 where
  pub jobs_long : t.jobs ≡ true → arg_by_long c (codes "jobs") ≡ Some jobs_full
  pub jobs_short : t.jobs ≡ true → arg_by_short c 106 ≡ Some jobs_full
  pub jobs : t.jobs ≡ true → arg_by_id c (codes "jobs") ≡ Some jobs_full
  pub cancel_long : t.cancel ≡ true → arg_by_long c (codes "cancel") ≡ Some cancel_full
  pub cancel : t.cancel ≡ true → arg_by_id c (codes "cancel") ≡ Some cancel_full
  pub fail_fast_long : t.fail_fast ≡ true → arg_by_long c (codes "fail-fast") ≡ Some fail_fast_full
  pub first_place : 1 ≤ t.arguments → arg_by_index c 1 ≡ Some (argument_full 1 (codes "first"))
  pub first : 1 ≤ t.arguments → arg_by_id c (codes "first") ≡ Some (argument_full 1 (codes "first"))
  pub second_place : 2 ≤ t.arguments → arg_by_index c 2 ≡ Some (argument_full 2 (codes "second"))
  pub second : 2 ≤ t.arguments → arg_by_id c (codes "second") ≡ Some (argument_full 2 (codes "second"))
  pub third_place : 3 ≤ t.arguments → arg_by_index c 3 ≡ Some (argument_full 3 (codes "third"))
  pub third : 3 ≤ t.arguments → arg_by_id c (codes "third") ≡ Some (argument_full 3 (codes "third"))
  pub most : t.arguments ≤ 3

-- ---- one use

-- an option or an argument with one value, which may be any text
record IsOption (a : Rule) : Type 0 where
  pub action : a.action ≡ Some Set
  pub range : a.range ≡ Some (record { start_inclusive = 1; end_inclusive = 1 })
  pub parser : a.parser ≡ Some String

-- the row of an argument with these values
abbrev pub row_with : Rule → List Text → Row
row_with a values = record { id = a.id; values = values; count = None; source = Some CommandLine; reading = reading_by a }

use_passes_once : (again : Bool) (a : Rule) (v : Text) (rows : List Row) → IsOption a → found a.id rows ≡ None → use_passes again a (v ∷ []) rows ≡ true
use_passes_once again a v rows is none = rw (is.range, is.action, is.parser, no_row a.id rows none) refl

used_once : (a : Rule) (v : Text) (rows : List Row) → IsOption a → found a.id rows ≡ None → used a (v ∷ []) rows ≡ rows ++ row_with a (v ∷ []) ∷ []
used_once a v rows is none = rw is.action (used_at_end a.id (more_values CommandLine (v ∷ [])) (row_with a (v ∷ [])) rows none)

-- ---- what the rows show

-- the row of the first of these values
abbrev pub first_row : Rule → List Text → Option Row
first_row a [] = None
first_row a (v ∷ vs) = Some (row_with a (v ∷ []))

abbrev pub flag_row : List Text → Option Row
flag_row [] = None
flag_row (f ∷ fs) = Some (row_with fail_fast_full (codes "true" ∷ []))

pub record Shows (rows : List Row) (g : Given) : Type 0 where
  pub jobs : found (codes "jobs") rows ≡ first_row jobs_full g.jobs
  pub cancels : found (codes "cancel") rows ≡ first_row cancel_full g.cancels
  pub fail_fast : found (codes "fail-fast") rows ≡ flag_row g.fail_fast
  pub flags : list_all (bytes_eq (codes "--fail-fast")) g.fail_fast ≡ true
  pub first : found (codes "first") rows ≡ first_row (argument_full 1 (codes "first")) g.arguments
  pub second : found (codes "second") rows ≡ first_row (argument_full 2 (codes "second")) (drop 1 g.arguments)
  pub third : found (codes "third") rows ≡ first_row (argument_full 3 (codes "third")) (drop 2 g.arguments)

with_jobs : (rows : List Row) (g : Given) (v : Text) → g.jobs ≡ [] → Shows rows g → Shows (rows ++ row_with jobs_full (v ∷ []) ∷ []) (with_value Jobs v g)
with_jobs rows g v none s =
    let r = row_with jobs_full (v ∷ []) in
    record {
      jobs = found_new (codes "jobs") rows r (s.jobs ∙ ap (first_row jobs_full) none) refl ∙ sym (ap (λ vs. first_row jobs_full (vs ++ v ∷ [])) none);
      cancels = found_other (codes "cancel") rows r refl ∙ s.cancels;
      fail_fast = found_other (codes "fail-fast") rows r refl ∙ s.fail_fast;
      flags = s.flags;
      first = found_other (codes "first") rows r refl ∙ s.first;
      second = found_other (codes "second") rows r refl ∙ s.second;
      third = found_other (codes "third") rows r refl ∙ s.third;
    }

with_cancel : (rows : List Row) (g : Given) (v : Text) → g.cancels ≡ [] → Shows rows g → Shows (rows ++ row_with cancel_full (v ∷ []) ∷ []) (with_value Cancel v g)
with_cancel rows g v none s =
    let r = row_with cancel_full (v ∷ []) in
    record {
      jobs = found_other (codes "jobs") rows r refl ∙ s.jobs;
      cancels = found_new (codes "cancel") rows r (s.cancels ∙ ap (first_row cancel_full) none) refl ∙ sym (ap (λ vs. first_row cancel_full (vs ++ v ∷ [])) none);
      fail_fast = found_other (codes "fail-fast") rows r refl ∙ s.fail_fast;
      flags = s.flags;
      first = found_other (codes "first") rows r refl ∙ s.first;
      second = found_other (codes "second") rows r refl ∙ s.second;
      third = found_other (codes "third") rows r refl ∙ s.third;
    }

with_flag : (rows : List Row) (g : Given) → g.fail_fast ≡ [] → Shows rows g
    → Shows (rows ++ row_with fail_fast_full (codes "true" ∷ []) ∷ []) (with_fail_fast (codes "--fail-fast") g)
with_flag rows g none s =
    let r = row_with fail_fast_full (codes "true" ∷ []) in
    record {
      jobs = found_other (codes "jobs") rows r refl ∙ s.jobs;
      cancels = found_other (codes "cancel") rows r refl ∙ s.cancels;
      fail_fast = found_new (codes "fail-fast") rows r (s.fail_fast ∙ ap flag_row none) refl ∙ sym (ap (λ fs. flag_row (fs ++ codes "--fail-fast" ∷ [])) none);
      flags = ap (λ fs. list_all (bytes_eq (codes "--fail-fast")) (fs ++ codes "--fail-fast" ∷ [])) none;
      first = found_other (codes "first") rows r refl ∙ s.first;
      second = found_other (codes "second") rows r refl ∙ s.second;
      third = found_other (codes "third") rows r refl ∙ s.third;
    }

with_first : (rows : List Row) (g : Given) (v : Text) → g.arguments ≡ [] → Shows rows g
    → Shows (rows ++ row_with (argument_full 1 (codes "first")) (v ∷ []) ∷ []) (with_argument v g)
with_first rows g v none s =
    let a = argument_full 1 (codes "first") in
    let r = row_with a (v ∷ []) in
    record {
      jobs = found_other (codes "jobs") rows r refl ∙ s.jobs;
      cancels = found_other (codes "cancel") rows r refl ∙ s.cancels;
      fail_fast = found_other (codes "fail-fast") rows r refl ∙ s.fail_fast;
      flags = s.flags;
      first = found_new (codes "first") rows r (s.first ∙ ap (first_row a) none) refl ∙ sym (ap (λ vs. first_row a (vs ++ v ∷ [])) none);
      second = found_other (codes "second") rows r refl ∙ s.second ∙ ap (λ vs. first_row (argument_full 2 (codes "second")) (drop 1 vs)) none
          ∙ sym (ap (λ vs. first_row (argument_full 2 (codes "second")) (drop 1 (vs ++ v ∷ []))) none);
      third = found_other (codes "third") rows r refl ∙ s.third ∙ ap (λ vs. first_row (argument_full 3 (codes "third")) (drop 2 vs)) none
          ∙ sym (ap (λ vs. first_row (argument_full 3 (codes "third")) (drop 2 (vs ++ v ∷ []))) none);
    }

with_second : (rows : List Row) (g : Given) (x v : Text) → g.arguments ≡ x ∷ [] → Shows rows g
    → Shows (rows ++ row_with (argument_full 2 (codes "second")) (v ∷ []) ∷ []) (with_argument v g)
with_second rows g x v one s =
    let a = argument_full 2 (codes "second") in
    let r = row_with a (v ∷ []) in
    record {
      jobs = found_other (codes "jobs") rows r refl ∙ s.jobs;
      cancels = found_other (codes "cancel") rows r refl ∙ s.cancels;
      fail_fast = found_other (codes "fail-fast") rows r refl ∙ s.fail_fast;
      flags = s.flags;
      first = found_other (codes "first") rows r refl ∙ s.first ∙ ap (first_row (argument_full 1 (codes "first"))) one
          ∙ sym (ap (λ vs. first_row (argument_full 1 (codes "first")) (vs ++ v ∷ [])) one);
      second = found_new (codes "second") rows r (s.second ∙ ap (λ vs. first_row a (drop 1 vs)) one) refl ∙ sym (ap (λ vs. first_row a (drop 1 (vs ++ v ∷ []))) one);
      third = found_other (codes "third") rows r refl ∙ s.third ∙ ap (λ vs. first_row (argument_full 3 (codes "third")) (drop 2 vs)) one
          ∙ sym (ap (λ vs. first_row (argument_full 3 (codes "third")) (drop 2 (vs ++ v ∷ []))) one);
    }

with_third : (rows : List Row) (g : Given) (x y v : Text) → g.arguments ≡ x ∷ y ∷ [] → Shows rows g
    → Shows (rows ++ row_with (argument_full 3 (codes "third")) (v ∷ []) ∷ []) (with_argument v g)
with_third rows g x y v two s =
    let a = argument_full 3 (codes "third") in
    let r = row_with a (v ∷ []) in
    record {
      jobs = found_other (codes "jobs") rows r refl ∙ s.jobs;
      cancels = found_other (codes "cancel") rows r refl ∙ s.cancels;
      fail_fast = found_other (codes "fail-fast") rows r refl ∙ s.fail_fast;
      flags = s.flags;
      first = found_other (codes "first") rows r refl ∙ s.first ∙ ap (first_row (argument_full 1 (codes "first"))) two
          ∙ sym (ap (λ vs. first_row (argument_full 1 (codes "first")) (vs ++ v ∷ [])) two);
      second = found_other (codes "second") rows r refl ∙ s.second ∙ ap (λ vs. first_row (argument_full 2 (codes "second")) (drop 1 vs)) two
          ∙ sym (ap (λ vs. first_row (argument_full 2 (codes "second")) (drop 1 (vs ++ v ∷ []))) two);
      third = found_new (codes "third") rows r (s.third ∙ ap (λ vs. first_row a (drop 2 vs)) two) refl ∙ sym (ap (λ vs. first_row a (drop 2 (vs ++ v ∷ []))) two);
    }

-- ---- a value, and an argument, as `clap` sees words

-- a word that doesn't begin with a dash
pub record IsNoFlag (v : Text) : Type 0 where
  pub no_dashes : bytes_eq v dashes ≡ false
  pub not_long : long_of v ≡ None
  pub not_short : short_of v ≡ None

no_flag : (v : Text) → head_is (λ b. b == dash) v ≡ false → IsNoFlag v
no_flag [] e = record { no_dashes = refl; not_long = refl; not_short = refl }
no_flag (b ∷ bs) e = record { no_dashes = rw e refl; not_long = rw e refl; not_short = rw e refl }

not_true : (b : Bool) → not b ≡ true → b ≡ false
not_true true e = absurd (false≢true e)
not_true false e = refl

plain_no_flag : (v : Text) → is_plain v ≡ true → IsNoFlag v
plain_no_flag [] e = absurd (false≢true e)
plain_no_flag (b ∷ bs) e = no_flag (b ∷ bs) (not_true (b == 45) (and_parts (not (b == 45)) (not (b == 61)) e).0)

plain_attached : (v : Text) → is_plain v ≡ true → attached_value v ≡ Some v
plain_attached [] e = absurd (false≢true e)
plain_attached (b ∷ bs) e =
    let other : (b == 61) ≡ false = not_true (b == 61) (and_parts (not (b == 45)) (not (b == 61)) e).1 in
    rw other refl

-- ---- from item to item

-- between two items: what is pending may be used, and with it the rows show what is given
pub record IsAt (s : Shape) (rows : List Row) (pending : Option (Text × List Text)) (g : Given) : Type 0 where
  pub settles : settle_passes s.rules s.args_override_self (record { rows = rows; pending = pending; skip = 0 }) ≡ true
  pub shows : Shows (settled_rows s.rules pending rows) g

-- the words of an item lead to where it is given
record Next (s : Shape) (w : Walk) (item : Item) (g : Given) : Type 0 where
  pub rows : List Row
  pub pending : Option (Text × List Text)
  pub at : IsAt s rows pending g
  pub goes : (rest : List Text) (end : Walk) → Reads s (between rows pending (length g.arguments + 1)) rest end → Reads s w (words_of_item item ++ rest) end

-- the words of all items lead to where they are given
pub record Reaches (s : Shape) (w : Walk) (words : List Text) (g : Given) : Type 0 where
  pub rows : List Row
  pub pending : Option (Text × List Text)
  pub settles : settle_passes s.rules s.args_override_self (record { rows = rows; pending = pending; skip = 0 }) ≡ true
  pub shows : Shows (settled_rows s.rules pending rows) g
  pub reads : Reads s w words (between rows pending (length g.arguments + 1))

used_at : (s : Shape) (rows : List Row) (a : Rule) (v : Text) (g : Given) → IsOption a → found a.id rows ≡ None → Shows (rows ++ row_with a (v ∷ []) ∷ []) g
    → IsAt s (used a (v ∷ []) rows) None g
used_at s rows a v g is none shows = record { settles = refl; shows = subst (λ rs. Shows rs g) (sym (used_once a v rows is none)) shows }

pending_at : (s : Shape) (rows : List Row) (a : Rule) (v : Text) (g : Given) → arg_by_id s.rules a.id ≡ Some a → IsOption a → found a.id rows ≡ None
    → Shows (rows ++ row_with a (v ∷ []) ∷ []) g → IsAt s rows (Some (a.id, v ∷ [])) g
pending_at s rows a v g named is none shows = record {
  settles = rw named (use_passes_once s.args_override_self a v rows is none);
  shows = subst (λ rs. Shows rs g) (sym (ap (λ o. used_by_id o (v ∷ []) rows) named ∙ used_once a v rows is none)) shows;
}

jobs_option : IsOption jobs_full
jobs_option = record { action = refl; range = refl; parser = refl }

cancel_option : IsOption cancel_full
cancel_option = record { action = refl; range = refl; parser = refl }

module _ (s : Shape) (t : Takes) (table : IsTable s.rules t) (g : Given) (rows : List Row) (pending : Option (Text × List Text)) (at : IsAt s rows pending g) where
  abbrev position : ℕ
  position = length g.arguments + 1

  abbrev whole : List Row
  whole = settled_rows s.rules pending rows

  -- `--jobs=V`, `--cancel=V`, `-jV`: the option is used at once
  use_passes_here : (a : Rule) (v : Text) → IsOption a → found a.id whole ≡ None
      → (settle_passes s.rules s.args_override_self (record { rows = rows; pending = pending; skip = 0 }) && use_passes s.args_override_self a (v ∷ []) whole) ≡ true
  use_passes_here a v is none = rw (at.settles, use_passes_once s.args_override_self a v whole is none) refl

  jobs_none : g.jobs ≡ [] → found (codes "jobs") whole ≡ None
  jobs_none none = at.shows.jobs ∙ ap (first_row jobs_full) none

  cancel_none : g.cancels ≡ [] → found (codes "cancel") whole ≡ None
  cancel_none none = at.shows.cancels ∙ ap (first_row cancel_full) none

  joined_jobs : (v : Text) → g.jobs ≡ [] → t.jobs ≡ true → Next s (between rows pending position) (Joined Jobs v) (with_value Jobs v g)
  joined_jobs v none taken = record {
    rows = used jobs_full (v ∷ []) whole;
    pending = None;
    at = used_at s whole jobs_full v (with_value Jobs v g) jobs_option (jobs_none none) (with_jobs whole g v none at.shows);
    goes = λ rest end after. one_more s _ _ _ rest end
        (long_goes s rows pending position (codes "--jobs=" ++ v) (codes "jobs") (Some v) jobs_full refl refl (table.jobs_long taken))
        (long_turn s rows pending position (codes "--jobs=" ++ v) (codes "jobs") (Some v) jobs_full refl refl (table.jobs_long taken)
        (use_passes_here jobs_full v jobs_option (jobs_none none)) refl) after;
  }

  joined_cancel : (v : Text) → g.cancels ≡ [] → t.cancel ≡ true → Next s (between rows pending position) (Joined Cancel v) (with_value Cancel v g)
  joined_cancel v none taken = record {
    rows = used cancel_full (v ∷ []) whole;
    pending = None;
    at = used_at s whole cancel_full v (with_value Cancel v g) cancel_option (cancel_none none) (with_cancel whole g v none at.shows);
    goes = λ rest end after. one_more s _ _ _ rest end
        (long_goes s rows pending position (codes "--cancel=" ++ v) (codes "cancel") (Some v) cancel_full refl refl (table.cancel_long taken))
        (long_turn s rows pending position (codes "--cancel=" ++ v) (codes "cancel") (Some v) cancel_full refl refl (table.cancel_long taken)
        (use_passes_here cancel_full v cancel_option (cancel_none none)) refl) after;
  }

  -- `--jobs V`, `--cancel V`, `-j V`: the option waits, and then its value is pending
  value_next : (a : Rule) (v : Text) → IsNoFlag v → arg_by_id s.rules a.id ≡ Some a → nat_lt (pending_count a (Some (a.id, v ∷ []))) (most_values a) ≡ false
      → (rest : List Text) (end : Walk) → Reads s (between whole (Some (a.id, v ∷ [])) position) rest end → Reads s (waits_for a.id whole position) (v ∷ rest) end
  value_next a v word named count rest end after = one_more s _ _ v rest end
      (value_goes s whole pending position a.id v a word.no_dashes word.not_long word.not_short named count)
      (value_turn s whole pending position a.id v a word.no_dashes word.not_long word.not_short named count) after

  apart_jobs : (v : Text) → g.jobs ≡ [] → t.jobs ≡ true → IsNoFlag v → Next s (between rows pending position) (Apart Jobs v) (with_value Jobs v g)
  apart_jobs v none taken word = record {
    rows = whole;
    pending = Some (codes "jobs", v ∷ []);
    at = pending_at s whole jobs_full v (with_value Jobs v g) (table.jobs taken) jobs_option (jobs_none none) (with_jobs whole g v none at.shows);
    goes = λ rest end after. one_more s _ (waits_for (codes "jobs") whole position) (codes "--jobs") (v ∷ rest) end
        (long_goes s rows pending position (codes "--jobs") (codes "jobs") None jobs_full refl refl (table.jobs_long taken))
        (long_turn s rows pending position (codes "--jobs") (codes "jobs") None jobs_full refl refl (table.jobs_long taken) at.settles refl)
        (value_next jobs_full v word (table.jobs taken) refl rest end after);
  }

  apart_cancel : (v : Text) → g.cancels ≡ [] → t.cancel ≡ true → IsNoFlag v → Next s (between rows pending position) (Apart Cancel v) (with_value Cancel v g)
  apart_cancel v none taken word = record {
    rows = whole;
    pending = Some (codes "cancel", v ∷ []);
    at = pending_at s whole cancel_full v (with_value Cancel v g) (table.cancel taken) cancel_option (cancel_none none) (with_cancel whole g v none at.shows);
    goes = λ rest end after. one_more s _ (waits_for (codes "cancel") whole position) (codes "--cancel") (v ∷ rest) end
        (long_goes s rows pending position (codes "--cancel") (codes "cancel") None cancel_full refl refl (table.cancel_long taken))
        (long_turn s rows pending position (codes "--cancel") (codes "cancel") None cancel_full refl refl (table.cancel_long taken) at.settles refl)
        (value_next cancel_full v word (table.cancel taken) refl rest end after);
  }

  short_apart : (v : Text) → g.jobs ≡ [] → t.jobs ≡ true → IsNoFlag v → Next s (between rows pending position) (ShortApart v) (with_value Jobs v g)
  short_apart v none taken word = record {
    rows = whole;
    pending = Some (codes "jobs", v ∷ []);
    at = pending_at s whole jobs_full v (with_value Jobs v g) (table.jobs taken) jobs_option (jobs_none none) (with_jobs whole g v none at.shows);
    goes = λ rest end after. one_more s _ (waits_for (codes "jobs") whole position) (codes "-j") (v ∷ rest) end
        (short_goes s rows pending position [] jobs_full (table.jobs_short taken) refl)
        (short_turn s rows pending position [] jobs_full (table.jobs_short taken) refl at.settles refl)
        (value_next jobs_full v word (table.jobs taken) refl rest end after);
  }

  short_joined : (v : Text) → g.jobs ≡ [] → t.jobs ≡ true → attached_value v ≡ Some v → Next s (between rows pending position) (ShortJoined v) (with_value Jobs v g)
  short_joined v none taken attached = record {
    rows = used jobs_full (v ∷ []) whole;
    pending = None;
    at = used_at s whole jobs_full v (with_value Jobs v g) jobs_option (jobs_none none) (with_jobs whole g v none at.shows);
    goes = λ rest end after. one_more s _ _ _ rest end
        (short_goes s rows pending position v jobs_full (table.jobs_short taken) refl ∙ ap (short_end v) attached)
        (short_turn s rows pending position v jobs_full (table.jobs_short taken) refl
        (rw attached (use_passes_here jobs_full v jobs_option (jobs_none none))) (rw attached refl)) after;
  }
    where
      short_end : Text → Option Text → Walk
      short_end w o =
          let met = option_met s.rules jobs_full o (record { rows = rows; pending = pending; skip = 0 }) in
          let end = after_flag s.rules idle (45 ∷ 106 ∷ w) met.0 met.1 in
          after_step s.rules (45 ∷ 106 ∷ w) (between rows pending position) end.0 end.1

  flag_next : g.fail_fast ≡ [] → t.fail_fast ≡ true → Next s (between rows pending position) FailFast (with_fail_fast (codes "--fail-fast") g)
  flag_next none taken =
      let gone : found (codes "fail-fast") whole ≡ None = at.shows.fail_fast ∙ ap flag_row none in
      let passes : use_passes s.args_override_self fail_fast_full [] whole ≡ true = rw (no_row (codes "fail-fast") whole gone) refl in
      record {
        rows = used fail_fast_full [] whole;
        pending = None;
        at = record {
          settles = refl;
          shows = subst (λ rs. Shows rs (with_fail_fast (codes "--fail-fast") g))
              (sym (used_at_end (codes "fail-fast") (more_values CommandLine (codes "true" ∷ [])) (row_with fail_fast_full (codes "true" ∷ [])) whole gone))
              (with_flag whole g none at.shows);
        };
        goes = λ rest end after. one_more s _ _ _ rest end
            (long_goes s rows pending position (codes "--fail-fast") (codes "fail-fast") None fail_fast_full refl refl (table.fail_fast_long taken))
            (long_turn s rows pending position (codes "--fail-fast") (codes "fail-fast") None fail_fast_full refl refl (table.fail_fast_long taken)
            (rw (at.settles, passes) refl) refl) after;
      }

  -- an argument, at its place
  argument_next : (a : Rule) (v : Text) → IsNoFlag v → arg_by_index s.rules position ≡ Some a → arg_by_id s.rules a.id ≡ Some a → IsOption a
      → takes_several a ≡ false → is_append (action_of a) ≡ false → a.trailing_var_arg ≡ false → found a.id whole ≡ None
      → Shows (whole ++ row_with a (v ∷ []) ∷ []) (with_argument v g) → min (position + 1) usize_max ≡ length (g.arguments ++ v ∷ []) + 1
      → Next s (between rows pending position) (Argument v) (with_argument v g)
  argument_next a v word placed named is one set trailing none shows more = record {
    rows = whole;
    pending = Some (a.id, v ∷ []);
    at = pending_at s whole a v (with_argument v g) named is none shows;
    goes = λ rest end after. one_more s _ _ v rest end
        (argument_goes s rows pending position v a word.no_dashes word.not_long word.not_short placed one set trailing ∙ ap (between whole (Some (a.id, v ∷ []))) more)
        (argument_turn s rows pending position v a word.no_dashes word.not_long word.not_short placed one set trailing at.settles) after;
  }

  argument_step : (v : Text) (args : List Text) → g.arguments ≡ args → length (g.arguments ++ v ∷ []) ≤ t.arguments → IsNoFlag v
      → Next s (between rows pending position) (Argument v) (with_argument v g)
  argument_step v [] are few word =
      let room : 1 ≤ t.arguments = omega (arith, few, length-append g.arguments (v ∷ [])) in
      argument_next (argument_full 1 (codes "first")) v word (ap (λ vs. arg_by_index s.rules (length vs + 1)) are ∙ table.first_place room) (table.first room)
      (record { action = refl; range = refl; parser = refl }) refl refl refl (at.shows.first ∙ ap (first_row (argument_full 1 (codes "first"))) are)
      (with_first whole g v are at.shows) (ap (λ vs. min (length vs + 1 + 1) usize_max) are ∙ sym (ap (λ vs. length (vs ++ v ∷ []) + 1) are))
  argument_step v (x ∷ []) are few word =
      let room : 2 ≤ t.arguments = omega (arith, few, length-append g.arguments (v ∷ []), ap length are) in
      argument_next (argument_full 2 (codes "second")) v word (ap (λ vs. arg_by_index s.rules (length vs + 1)) are ∙ table.second_place room) (table.second room)
      (record { action = refl; range = refl; parser = refl }) refl refl refl (at.shows.second ∙ ap (λ vs. first_row (argument_full 2 (codes "second")) (drop 1 vs)) are)
      (with_second whole g x v are at.shows) (ap (λ vs. min (length vs + 1 + 1) usize_max) are ∙ sym (ap (λ vs. length (vs ++ v ∷ []) + 1) are))
  argument_step v (x ∷ y ∷ []) are few word =
      let room : 3 ≤ t.arguments = omega (arith, few, length-append g.arguments (v ∷ []), ap length are) in
      argument_next (argument_full 3 (codes "third")) v word (ap (λ vs. arg_by_index s.rules (length vs + 1)) are ∙ table.third_place room) (table.third room)
      (record { action = refl; range = refl; parser = refl }) refl refl refl (at.shows.third ∙ ap (λ vs. first_row (argument_full 3 (codes "third")) (drop 2 vs)) are)
      (with_third whole g x y v are at.shows) (ap (λ vs. min (length vs + 1 + 1) usize_max) are ∙ sym (ap (λ vs. length (vs ++ v ∷ []) + 1) are))
  argument_step v (x ∷ y ∷ z ∷ rest) are few word = absurd (omega (arith, few, length-append g.arguments (v ∷ []), ap length are, table.most))

  -- one item, by how it is written
  step : (item : Item) → is_well_formed item ≡ true → Fits t (with_item item g) → Next s (between rows pending position) item (with_item item g)
  step (Apart Jobs v) e f =
      let one = one_value t.jobs g.jobs v f.jobs in
      apart_jobs v one.0 one.1 (plain_no_flag v one.2)
  step (Apart Cancel v) e f =
      let one = one_value t.cancel g.cancels v f.cancels in
      apart_cancel v one.0 one.1 (plain_no_flag v one.2)
  step (Joined Jobs v) e f =
      let one = one_value t.jobs g.jobs v f.jobs in
      joined_jobs v one.0 one.1
  step (Joined Cancel v) e f =
      let one = one_value t.cancel g.cancels v f.cancels in
      joined_cancel v one.0 one.1
  step (ShortApart v) e f =
      let one = one_value t.jobs g.jobs v f.jobs in
      short_apart v one.0 one.1 (plain_no_flag v one.2)
  step (ShortJoined v) e f =
      let one = one_value t.jobs g.jobs v f.jobs in
      short_joined v one.0 one.1 (plain_attached v one.2)
  step FailFast e f =
      let one = one_flag t.fail_fast g.fail_fast (codes "--fail-fast") f.fail_fast in
      flag_next one.0 one.1
  step (Argument v) e f = argument_step v g.arguments refl f.arguments (no_flag v (not_true (head_is (λ b. b == dash) v) e))

-- all items
pub all_read : (s : Shape) (t : Takes) → IsTable s.rules t → (items : List Item) (g : Given) (rows : List Row) (pending : Option (Text × List Text))
    → IsAt s rows pending g → list_all is_well_formed items ≡ true → Fits t (given_by g items)
    → Reaches s (between rows pending (length g.arguments + 1)) (words_of items) (given_by g items)
all_read s t table [] g rows pending at well fits =
    record { rows = rows; pending = pending; settles = at.settles; shows = at.shows; reads = nothing_more s (between rows pending (length g.arguments + 1)) }
all_read s t table (item ∷ items) g rows pending at well fits =
    let parts = and_parts (is_well_formed item) (list_all is_well_formed items) well in
    let next = step s t table g rows pending at item parts.0 (fits_before t (with_item item g) items fits) in
    let rest = all_read s t table items (with_item item g) next.rows next.pending next.at parts.1 fits in
    record { rows = rest.rows; pending = rest.pending; settles = rest.settles; shows = rest.shows; reads = next.goes (words_of items) _ rest.reads }
