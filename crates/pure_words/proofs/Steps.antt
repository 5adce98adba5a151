-- The walk over the words of one item.
use Rattle.std.proofs.Common.{◌≡◌, ◌∙◌, ◌+◌, ℕ, Bool, true, false, not, cond, List, [], ◌∷◌, ◌++◌, refl, sym, ap, ap₂, Option, Some, None, ◌||◌, ◌&&◌, ◌==◌, codes, length}
use Rattle.std.specs.Prelude.{nat_le, nat_lt, if◌then◌else◌, fold, min, slice_get}
use Rattle.std.specs.Str.{bytes_eq, chars}
use Rattle.std.specs.Char.{encode_utf8}
use Rattle.clap.specs.Lexer.{long_of, short_of, usize_max}
use Rattle.clap.specs.Simple.{Shape}
use Rattle.clap.specs.Takes.{walk_passes, turn_passes, settle_passes, use_passes, option_passes, long_passes, react_passes, flag_word_passes, step_passes, flags_pass, bundle_passes, short_passes}
use Rattle.clap.specs.Walk.{Row, Rule, Text, Held, Walk, Waiting, Step, Outcome, idle, option, arg_by_id, arg_by_index, arg_by_long, arg_by_short, walked, settled_rows, used, after_step, after_flag, long_met, option_met, attached_value, bundle_met, takes_values, takes_several, is_append, action_of, is_pending, pending_count, most_values}

-- between two words, where nothing waits
abbrev pub between : List Row → Option (Text × List Text) → ℕ → Walk
between rows pending position = record {
  held = record { rows = rows; pending = pending; skip = 0 };
  waiting = idle;
  position = position;
  is_trailing = false;
  stopped = None;
}

-- an option waits for its value
abbrev pub waits_for : Text → List Row → ℕ → Walk
waits_for id rows position = record {
  held = record { rows = rows; pending = Some (id, []); skip = 0 };
  waiting = option id;
  position = position;
  is_trailing = false;
  stopped = None;
}

abbrev pub dashes : Text
dashes = 45 ∷ 45 ∷ []

and_false : (b : Bool) → (b && false) ≡ false
and_false true = refl
and_false false = refl

-- the characters of a text that begins with an ASCII byte begin with it
first_character : (rest : Text) → slice_get (chars (106 ∷ rest)) 0 ≡ Some 106
unfolding chars
first_character [] = refl
first_character (b ∷ bs) = refl

module _ (s : Shape) (rows : List Row) (pending : Option (Text × List Text)) (position : ℕ) where
  abbrev held : Held
  held = record { rows = rows; pending = pending; skip = 0 }

  abbrev start : Walk
  start = between rows pending position

  -- the rows with what is pending
  abbrev whole : List Row
  whole = settled_rows s.rules pending rows

  -- ---- a word that is a long option or flag
  module _ (word name : Text) (v : Option Text) (a : Rule) (no_dashes : bytes_eq word dashes ≡ false) (long : long_of word ≡ Some (name, v))
      (named : arg_by_long s.rules name ≡ Some a) where
    abbrev long_step : Option Rule → Held × Step
    long_step o = after_flag s.rules idle word (long_met s.rules o v held).0 (long_met s.rules o v held).1

    pub long_goes : walked s.rules [] start word ≡ after_step s.rules word start (long_step (Some a)).0 (long_step (Some a)).1
    unfolding walked
    long_goes = rw (no_dashes, long, named) refl

    pub long_turn : long_passes s.rules s.args_override_self (Some a) v held ≡ true
        → step_passes s position (long_step (Some a)).0 (long_step (Some a)).1 ≡ true → turn_passes s [] start word ≡ true
    long_turn passes step = rw (no_dashes, long, named, passes, step) refl

  -- `-j`, and what stands behind it
  module _ (rest : Text) (a : Rule) (named : arg_by_short s.rules 106 ≡ Some a) (takes : takes_values a ≡ true) where
    abbrev short_step : Held × Step
    short_step =
        after_flag s.rules idle (45 ∷ 106 ∷ rest) (option_met s.rules a (attached_value rest) held).0 (option_met s.rules a (attached_value rest) held).1

    pub short_goes : walked s.rules [] start (45 ∷ 106 ∷ rest) ≡ after_step s.rules (45 ∷ 106 ∷ rest) start short_step.0 short_step.1
    unfolding walked bundle_met encode_utf8
    short_goes = rw (first_character rest, named, takes) refl

    pub short_turn : option_passes s.rules s.args_override_self a (attached_value rest) held ≡ true
        → step_passes s position short_step.0 short_step.1 ≡ true → turn_passes s [] start (45 ∷ 106 ∷ rest) ≡ true
    unfolding bundle_met flags_pass encode_utf8
    short_turn passes step = rw (first_character rest, named, takes, passes, step) refl

  -- the value of the option before it
  module _ (id v : Text) (a : Rule) (no_dashes : bytes_eq v dashes ≡ false) (not_long : long_of v ≡ None) (not_short : short_of v ≡ None)
      (named : arg_by_id s.rules id ≡ Some a) (whole_count : nat_lt (pending_count a (Some (id, v ∷ []))) (most_values a) ≡ false) where
    pub value_goes : walked s.rules [] (waits_for id rows position) v ≡ between rows (Some (id, v ∷ [])) position
    unfolding walked
    value_goes = rw (no_dashes, not_long, not_short, named, whole_count) refl

    pub value_turn : turn_passes s [] (waits_for id rows position) v ≡ true
    value_turn = rw (no_dashes, not_long, not_short) refl

  -- an argument
  module _ (v : Text) (a : Rule) (no_dashes : bytes_eq v dashes ≡ false) (not_long : long_of v ≡ None) (not_short : short_of v ≡ None)
      (named : arg_by_index s.rules position ≡ Some a) (one : takes_several a ≡ false) (set : is_append (action_of a) ≡ false) (trailing : a.trailing_var_arg ≡ false) where
    pub argument_goes : walked s.rules [] start v ≡ between whole (Some (a.id, v ∷ [])) (min (position + 1) usize_max)
    unfolding walked
    argument_goes = rw (no_dashes, not_long, not_short, named, one, set, trailing, and_false (is_pending a pending)) refl

    pub argument_turn : settle_passes s.rules s.args_override_self held ≡ true → turn_passes s [] start v ≡ true
    argument_turn settles = rw (no_dashes, not_long, not_short, named, one, and_false (is_pending a pending), settles) refl

-- ---- from word to word

-- the words after this one pass, and lead to the end
pub record Reads (s : Shape) (w : Walk) (words : List Text) (end : Walk) : Type 0 where
  pub leads : fold (walked s.rules []) w words ≡ end
  pub passes : walk_passes s [] w words ≡ true

pub nothing_more : (s : Shape) (w : Walk) → Reads s w [] w
unfolding walk_passes
nothing_more s w = record { leads = refl; passes = refl }

pub one_more : (s : Shape) (w next : Walk) (word : Text) (words : List Text) (end : Walk) → walked s.rules [] w word ≡ next → turn_passes s [] w word ≡ true
    → Reads s next words end → Reads s w (word ∷ words) end
unfolding walk_passes
one_more s w next word words end goes turn rest = record {
  leads = ap (λ v. fold (walked s.rules []) v words) goes ∙ rest.leads;
  passes = rw (turn, goes) rest.passes;
}
