-- What may be given so that a subcommand takes it, at each place among the items.
use Rattle.std.proofs.Common.{◌≡◌, ◌∙◌, ◌≤◌, ◌+◌, ℕ, ◌==◌, Bool, true, false, not, List, [], ◌∷◌, ◌++◌, length, refl, sym, ap, arith, le-ltb, cond}
use Rattle.std.specs.Prelude.{◌&&◌, nat_le}
use Rattle.std.proofs.lemmas.Bool.{false≢true, and_parts}
use Rattle.std.proofs.lemmas.List.{length-append}
use Rattle.pure_words.specs.Words.{Item, Apart, Joined, ShortApart, ShortJoined, FailFast, Argument, with_item, with_value, given_by}
use Rattle.pure_words.specs.declared.given.Given.{Given}
use Rattle.pure_words.specs.declared.given.Key.TheVariants.{Jobs, Cancel}
use Rattle.pure_words.specs.declared.table.Takes.{Takes}

-- the text has a first byte, which is neither a dash nor an equals sign
abbrev pub is_plain : List ℕ → Bool
is_plain [] = false
is_plain (b ∷ bs) = not (b == 45) && not (b == 61)

-- at most one value, where the option is taken
abbrev pub at_most_one : Bool → List (List ℕ) → Bool
at_most_one is_taken [] = true
at_most_one is_taken (v ∷ []) = is_taken && is_plain v
at_most_one is_taken _ = false

-- the flag at most once, where it is taken
abbrev pub at_most_once : Bool → List (List ℕ) → Bool
at_most_once is_taken [] = true
at_most_once is_taken (f ∷ []) = is_taken
at_most_once is_taken _ = false

abbrev pub fits : Takes → Given → Bool
fits t g =
    at_most_one t.jobs g.jobs && (at_most_one t.cancel g.cancels && (at_most_once t.fail_fast g.fail_fast && nat_le (length g.arguments) t.arguments))

pub record Fits (t : Takes) (g : Given) : Type 0 where
  pub jobs : at_most_one t.jobs g.jobs ≡ true
  pub cancels : at_most_one t.cancel g.cancels ≡ true
  pub fail_fast : at_most_once t.fail_fast g.fail_fast ≡ true
  pub arguments : length g.arguments ≤ t.arguments

-- what is added was the only one
pub one_value : (is_taken : Bool) (vs : List (List ℕ)) (v : List ℕ) → at_most_one is_taken (vs ++ v ∷ []) ≡ true
    → (vs ≡ []) × (is_taken ≡ true) × (is_plain v ≡ true)
one_value is_taken [] v e =
    let parts = and_parts is_taken (is_plain v) e in
    (refl, parts.0, parts.1)
one_value is_taken (w ∷ []) v e = absurd (false≢true e)
one_value is_taken (w ∷ x ∷ vs) v e = absurd (false≢true e)

pub one_flag : (is_taken : Bool) (fs : List (List ℕ)) (f : List ℕ) → at_most_once is_taken (fs ++ f ∷ []) ≡ true → (fs ≡ []) × (is_taken ≡ true)
one_flag is_taken [] f e = (refl, e)
one_flag is_taken (g ∷ []) f e = absurd (false≢true e)
one_flag is_taken (g ∷ h ∷ fs) f e = absurd (false≢true e)

fewer_values : (is_taken : Bool) (vs : List (List ℕ)) (v : List ℕ) → at_most_one is_taken (vs ++ v ∷ []) ≡ true → at_most_one is_taken vs ≡ true
fewer_values is_taken vs v e = ap (at_most_one is_taken) (one_value is_taken vs v e).0

fewer_flags : (is_taken : Bool) (fs : List (List ℕ)) (f : List ℕ) → at_most_once is_taken (fs ++ f ∷ []) ≡ true → at_most_once is_taken fs ≡ true
fewer_flags is_taken fs f e = ap (at_most_once is_taken) (one_flag is_taken fs f e).0

fewer_jobs : (t : Takes) (g : Given) (v : List ℕ) → Fits t (with_value Jobs v g) → Fits t g
fewer_jobs t g v f = record { jobs = fewer_values t.jobs g.jobs v f.jobs; cancels = f.cancels; fail_fast = f.fail_fast; arguments = f.arguments }

fewer_cancels : (t : Takes) (g : Given) (v : List ℕ) → Fits t (with_value Cancel v g) → Fits t g
fewer_cancels t g v f = record { jobs = f.jobs; cancels = fewer_values t.cancel g.cancels v f.cancels; fail_fast = f.fail_fast; arguments = f.arguments }

-- what was given before an item fits where it fits with the item
fewer : (t : Takes) (g : Given) (item : Item) → Fits t (with_item item g) → Fits t g
fewer t g (Apart Jobs v) f = fewer_jobs t g v f
fewer t g (Apart Cancel v) f = fewer_cancels t g v f
fewer t g (Joined Jobs v) f = fewer_jobs t g v f
fewer t g (Joined Cancel v) f = fewer_cancels t g v f
fewer t g (ShortApart v) f = fewer_jobs t g v f
fewer t g (ShortJoined v) f = fewer_jobs t g v f
fewer t g FailFast f = record { jobs = f.jobs; cancels = f.cancels; fail_fast = fewer_flags t.fail_fast g.fail_fast _ f.fail_fast; arguments = f.arguments }
fewer t g (Argument v) f = record {
  jobs = f.jobs;
  cancels = f.cancels;
  fail_fast = f.fail_fast;
  arguments = omega (arith, f.arguments, length-append g.arguments (v ∷ []));
}

pub fits_before : (t : Takes) (g : Given) (items : List Item) → Fits t (given_by g items) → Fits t g
fits_before t g [] f = f
fits_before t g (item ∷ items) f = fewer t g item (fits_before t (with_item item g) items f)
