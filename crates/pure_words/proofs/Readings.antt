-- The reader takes the words that the grammar spells, and no others.
use Rattle.std.proofs.Common.{◌≡◌, ◌∙◌, ℕ, ◌==◌, Bool, true, false, not, List, [], ◌∷◌, ◌++◌, length, take, drop, refl, sym, ap, Some, None, codes}
use Rattle.std.specs.Prelude.{option_and_then, unwrap_or, is_some, if◌then◌else◌}
use Rattle.std.specs.List.{list_all}
use Rattle.std.proofs.lemmas.Bool.{false≢true, and_parts}
use Rattle.std.proofs.lemmas.List.{take-append-drop}
use Rattle.std.proofs.lemmas.Slice.Eq.{bytes_eq-Decides}
use Rattle.pure_grammar.specs.Tokens.Bytes.{head_is}
use Rattle.pure_grammar.specs.Theories.Lexeme.{same}
use Rattle.pure_words.specs.Commands.{job_of}
use Rattle.pure_words.specs.Words.{Item, Apart, Joined, ShortApart, ShortJoined, FailFast, Argument, is_well_formed, words_of_item, words_of, dash, long_name, no_given, with_value, with_fail_fast, with_argument, with_item, given_by, IsCommand, IsJob, OneReading}
use Rattle.pure_words.specs.Reader.{Place, Refused, Idle, Waits, begins, met, met_joined, run, given_in, job_in}
use Rattle.pure_words.specs.declared.job.Job.{Job}
use Rattle.pure_words.specs.declared.given.Given.{Given}
use Rattle.pure_words.specs.declared.given.Key.{Key}
use Rattle.pure_words.specs.declared.given.Key.TheVariants.{Jobs, Cancel}

not_true : (b : Bool) → not b ≡ true → b ≡ false
not_true true e = absurd (false≢true e)
not_true false e = refl

-- ---- what the grammar spells is read

-- an argument doesn't begin with a dash
argument_met : (g : Given) (word : List ℕ) → head_is (λ b. b == dash) word ≡ false → met g word ≡ Idle (with_argument word g)
unfolding met met_joined
argument_met g [] e = refl
argument_met g (b ∷ bs) e = rw e refl

used : (items : List Item) (g : Given) → list_all is_well_formed items ≡ true → run (Idle g) (words_of items) ≡ Idle (given_by g items)
unfolding met met_joined
used [] g all = refl
used (Apart Jobs value ∷ items) g all = used items (with_value Jobs value g) all
used (Apart Cancel value ∷ items) g all = used items (with_value Cancel value g) all
used (Joined Jobs value ∷ items) g all = used items (with_value Jobs value g) all
used (Joined Cancel value ∷ items) g all = used items (with_value Cancel value g) all
used (ShortApart value ∷ items) g all = used items (with_value Jobs value g) all
used (ShortJoined [] ∷ items) g all = absurd (false≢true all)
used (ShortJoined (b ∷ bs) ∷ items) g all = used items (with_value Jobs (b ∷ bs) g) all
used (FailFast ∷ items) g all = used items (with_fail_fast (codes "--fail-fast") g) all
used (Argument value ∷ items) g all =
    let parts = and_parts (not (head_is (λ b. b == dash) value)) (list_all is_well_formed items) all in
    ap (λ p. run p (words_of items)) (argument_met g value (not_true (head_is (λ b. b == dash) value) parts.0)) ∙ used items (with_argument value g) parts.1

-- ---- what is read is spelled

begins_is : (front word : List ℕ) → begins front word ≡ true → word ≡ front ++ drop (length front) word
begins_is front word e =
    sym (take-append-drop (length front) word) ∙ ap (λ bs. bs ++ drop (length front) word) ((bytes_eq-Decides (take (length front) word) front).0 e)

same_is : (word text : List ℕ) → same word text ≡ true → word ≡ text
same_is word text e = (bytes_eq-Decides word text).0 e

-- the word and this value are a use of the option
record IsTwo (g : Given) (key : Key) (word value : List ℕ) : Type 0 where
  pub item : Item
  pub words : words_of_item item ≡ word ∷ value ∷ []
  pub passes : is_well_formed item ≡ true
  pub gives : with_item item g ≡ with_value key value g

-- the word is a use
record IsOne (g : Given) (word : List ℕ) (next : Given) : Type 0 where
  pub item : Item
  pub words : words_of_item item ≡ word ∷ []
  pub passes : is_well_formed item ≡ true
  pub gives : with_item item g ≡ next

-- what a word that was met is
data IsMet (g : Given) (word : List ℕ) (place : Place) : Type 0 where
  refused : place ≡ Refused → IsMet g word place
  waits : (key : Key) → place ≡ Waits key g → ((value : List ℕ) → IsTwo g key word value) → IsMet g word place
  whole : (next : Given) → place ≡ Idle next → IsOne g word next → IsMet g word place

pick : (g : Given) (word : List ℕ) (b : Bool) (p q : Place) → (b ≡ true → IsMet g word p) → (b ≡ false → IsMet g word q) → IsMet g word (if b then p else q)
pick g word true p q yes' no' = yes' refl
pick g word false p q yes' no' = no' refl

long_two : (g : Given) (key : Key) (word value : List ℕ) → word ≡ long_name key → IsTwo g key word value
long_two g key word value is = record {
  item = Apart key value;
  words = ap (λ w. w ∷ value ∷ []) (sym is);
  passes = refl;
  gives = refl;
}

short_two : (g : Given) (word value : List ℕ) → word ≡ codes "-j" → IsTwo g Jobs word value
short_two g word value is = record {
  item = ShortApart value;
  words = ap (λ w. w ∷ value ∷ []) (sym is);
  passes = refl;
  gives = refl;
}

joined_one : (g : Given) (key : Key) (word value : List ℕ) → word ≡ long_name key ++ 61 ∷ value → IsOne g word (with_value key value g)
joined_one g key word value is = record {
  item = Joined key value;
  words = ap (λ w. w ∷ []) (sym is);
  passes = refl;
  gives = refl;
}

-- behind `-j` stands something
short_one : (g : Given) (word value : List ℕ) → word ≡ codes "-j" ++ value → same word (codes "-j") ≡ false → IsOne g word (with_value Jobs value g)
short_one g word [] is other = absurd (false≢true (sym other ∙ ap (λ w. same w (codes "-j")) is))
short_one g word (b ∷ bs) is other = record {
  item = ShortJoined (b ∷ bs);
  words = ap (λ w. w ∷ []) (sym is);
  passes = refl;
  gives = refl;
}

joined_is : (g : Given) (word : List ℕ) → same word (codes "-j") ≡ false → IsMet g word (met_joined g word)
unfolding met_joined
joined_is g word other =
    pick g word (begins (codes "--jobs=") word) _ _
    (λ e. whole _ refl (joined_one g Jobs word (drop 7 word) (begins_is (codes "--jobs=") word e)))
    (λ _. pick g word (begins (codes "--cancel=") word) _ _
    (λ e. whole _ refl (joined_one g Cancel word (drop 9 word) (begins_is (codes "--cancel=") word e)))
    (λ _. pick g word (begins (codes "-j") word) _ _
    (λ e. whole _ refl (short_one g word (drop 2 word) (begins_is (codes "-j") word e) other))
    (λ _. pick g word (head_is (λ b. b == dash) word) _ _
    (λ _. refused refl)
    (λ e. whole _ refl (record { item = Argument word; words = refl; passes = ap not e; gives = refl })))))

met_is : (g : Given) (word : List ℕ) → IsMet g word (met g word)
unfolding met
met_is g word =
    pick g word (same word (codes "--jobs")) _ _
    (λ e. waits Jobs refl (λ value. long_two g Jobs word value (same_is word (codes "--jobs") e)))
    (λ _. pick g word (same word (codes "-j")) _ _
    (λ e. waits Jobs refl (λ value. short_two g word value (same_is word (codes "-j") e)))
    (λ other. pick g word (same word (codes "--cancel")) _ _
    (λ e. waits Cancel refl (λ value. long_two g Cancel word value (same_is word (codes "--cancel") e)))
    (λ _. pick g word (same word (codes "--fail-fast")) _ _
    (λ e. whole _ refl (record {
      item = FailFast;
      words = ap (λ w. w ∷ []) (sym (same_is word (codes "--fail-fast") e));
      passes = refl;
      gives = ap (λ w. with_fail_fast w g) (sym (same_is word (codes "--fail-fast") e));
    }))
    (λ _. joined_is g word other))))

-- the words are items, which lead from what was given to this
record AreItems (g : Given) (words : List (List ℕ)) (h : Given) : Type 0 where
  pub items : List Item
  pub words_are : words ≡ words_of items
  pub passes : list_all is_well_formed items ≡ true
  pub gives : given_by g items ≡ h

is_idle : Place → Bool
is_idle (Idle g) = true
is_idle _ = false

given_or : Given → Place → Given
given_or g (Idle h) = h
given_or g _ = g

refused_run : (words : List (List ℕ)) → run Refused words ≡ Refused
refused_run [] = refl
refused_run (word ∷ words) = refused_run words

refused_not : (words : List (List ℕ)) (h : Given) → run Refused words ≡ Idle h → ⊥
unfolding is_idle
refused_not words h e = false≢true (ap is_idle (sym (refused_run words) ∙ e))

waits_not : (key : Key) (g h : Given) → Waits key g ≡ Idle h → ⊥
unfolding is_idle
waits_not key g h e = false≢true (ap is_idle e)

idle_same : (g h : Given) → Idle g ≡ Idle h → g ≡ h
unfolding given_or
idle_same g h e = ap (given_or g) e

one_before : (g next h : Given) (word : List ℕ) (words : List (List ℕ)) → IsOne g word next → AreItems next words h → AreItems g (word ∷ words) h
one_before g next h word words one rest = record {
  items = one.item ∷ rest.items;
  words_are = ap (λ ws. word ∷ ws) rest.words_are ∙ ap (λ ws. ws ++ words_of rest.items) (sym one.words);
  passes = rw one.passes rest.passes;
  gives = ap (λ k. given_by k rest.items) one.gives ∙ rest.gives;
}

two_before : (g h : Given) (key : Key) (word value : List ℕ) (words : List (List ℕ)) → IsTwo g key word value → AreItems (with_value key value g) words h
    → AreItems g (word ∷ value ∷ words) h
two_before g h key word value words two rest = record {
  items = two.item ∷ rest.items;
  words_are = ap (λ ws. word ∷ value ∷ ws) rest.words_are ∙ ap (λ ws. ws ++ words_of rest.items) (sym two.words);
  passes = rw two.passes rest.passes;
  gives = ap (λ k. given_by k rest.items) two.gives ∙ rest.gives;
}

nothing_left : (g h : Given) → Idle g ≡ Idle h → AreItems g [] h
nothing_left g h e = record { items = []; words_are = refl; passes = refl; gives = idle_same g h e }

read_back : (words : List (List ℕ)) (g h : Given) → run (Idle g) words ≡ Idle h → AreItems g words h
read_back [] g h e = nothing_left g h e
read_back (word ∷ []) g h e = elim (met_is g word) [
  | refused is ↦ absurd (refused_not [] h (sym is ∙ e))
  | waits key is two ↦ absurd (waits_not key g h (sym is ∙ e))
  | whole next is one ↦ one_before g next h word [] one (nothing_left next h (sym is ∙ e))
]
read_back (word ∷ value ∷ words) g h e = elim (met_is g word) [
  | refused is ↦ absurd (refused_not (value ∷ words) h (ap (λ p. run p (value ∷ words)) (sym is) ∙ e))
  | waits key is two ↦
      two_before g h key word value words (two value) (read_back words (with_value key value g) h (ap (λ p. run p (value ∷ words)) (sym is) ∙ e))
  | whole next is one ↦ one_before g next h word (value ∷ words) one (read_back (value ∷ words) next h (ap (λ p. run p (value ∷ words)) (sym is) ∙ e))
]

-- ---- jobs

some_same : (job other : Job) → Some job ≡ Some other → job ≡ other
some_same job other e = ap (λ o. unwrap_or o job) e

none_not : {X : Type 0} (x : X) → None ≡ Some x → ⊥
none_not x e = false≢true (ap (λ o. is_some o) e)

words_read : (words : List (List ℕ)) (items : List Item) → words ≡ words_of items → list_all is_well_formed items ≡ true → run (Idle no_given) words ≡ Idle (given_by no_given items)
words_read words items is all = ap (run (Idle no_given)) is ∙ used items no_given all

-- The job of words that are a command is read.
pub job_read : (words : List (List ℕ)) (job : Job) → IsJob words job → job_in words ≡ Some job
job_read [] job c =
    let same_given = idle_same no_given (given_by no_given c.items) (words_read [] c.items c.words_are c.are_well_formed) in
    ap (job_of (codes "check")) same_given ∙ c.job_is
job_read (name ∷ words) job c = ap (λ p. option_and_then (job_of name) (given_in p)) (words_read words c.items c.words_are c.are_well_formed) ∙ c.job_is

command_from : (name : List ℕ) (words : List (List ℕ)) (job : Job) (place : Place) → run (Idle no_given) words ≡ place
    → option_and_then (job_of name) (given_in place) ≡ Some job → IsCommand name words job
command_from name words job Refused is e = absurd (none_not job e)
command_from name words job (Waits key g) is e = absurd (none_not job e)
command_from name words job (Idle g) is e =
    let back = read_back words no_given g is in
    record { items = back.items; words_are = back.words_are; are_well_formed = back.passes; job_is = ap (job_of name) back.gives ∙ e }

-- The words whose job is read are that command.
pub job_spelled : (words : List (List ℕ)) (job : Job) → job_in words ≡ Some job → IsJob words job
job_spelled [] job e = record { items = []; words_are = refl; are_well_formed = refl; job_is = e }
job_spelled (name ∷ words) job e = command_from name words job (run (Idle no_given) words) refl e

-- No words are read as none and are a command.
pub none_spelled : (words : List (List ℕ)) → job_in words ≡ None → (job : Job) → IsJob words job → ⊥
none_spelled words e job c = none_not job (sym e ∙ job_read words job c)

pub one_reading : OneReading
one_reading words job other c d = some_same job other (sym (job_read words job c) ∙ job_read words other d)
