-- Commands of a theory, as contracts see them.
use Rattle.std.proofs.Common.{◌≡◌, ◌+◌, ◌-◌, ◌<◌, ◌≤◌, ℕ, Bool, true, false, not, ◌||◌, List, [], ◌∷◌, length, map, get_or, take, take_all, refl, sym, ◌∙◌, ap, nat_lt, arith, Option, Some, None, is_some, MatchOption}
use Rattle.std.proofs.lemmas.Bool.Decides.{nat_tests}
use Rattle.std.proofs.lemmas.List.Sums.{sum_by-cons, sum_by_more, sum_by-take-le}
use Rattle.std.specs.List.{list_any, sum_by}
use Rattle.pure_grammar.specs.Theories.TheoryText as tree
use Rattle.pure_script.specs.Seen.{seen_command}
use Rattle.pure_script.specs.declared.theory.Command.{Command}
use Rattle.pure_graph.specs.Outcome.{command_parts, part_count}

pub list_any_map : {A B : Type 0} (p : B → Bool) (f : A → B) (xs : List A) → list_any p (map f xs) ≡ list_any (λ x. p (f x)) xs
list_any_map p f [] = refl
list_any_map p f (x ∷ xs) = ap (λ b. p (f x) || b) (list_any_map p f xs)

-- neither too many, nor with a proof that is too long
pub few-long : {A B : Type 0} (m n : ℕ) (many long : Bool) (p : B → Bool) (f : A → B) (xs : List A) → many ≡ nat_lt m n → many ≡ false → long ≡ list_any (λ x. p (f x)) xs → long ≡ (nat_lt m n || list_any p (map f xs))
few-long m n many long p f xs tested few is =
    let short : nat_lt m n ≡ false = sym tested ∙ few in
    rw (short, list_any_map p f xs) is

some_more : (m n : ℕ) → m < n → nat_lt m n ≡ true
some_more m n h = grind (arith, nat_tests)

no_more : (m n : ℕ) → n ≤ m → nat_lt m n ≡ false
no_more m n h = grind (arith, nat_tests)

-- ---- the parts of commands

-- the parts of commands as they are seen
abbrev pub parts_of : Command → ℕ
parts_of c = command_parts (seen_command c)

sum_by-map : {A B : Type 0} (f : B → ℕ) (g : A → B) (xs : List A) → sum_by f (map g xs) ≡ sum_by (λ x. f (g x)) xs
sum_by-map f g [] = refl
sum_by-map f g (x ∷ xs) = sum_by-cons f (g x) (map g xs) ∙ ap (λ n. f (g x) + n) (sum_by-map f g xs) ∙ sym (sum_by-cons (λ y. f (g y)) x xs)

-- the count before a command and its own parts are too many
pub too-many : (cs : List Command) (c : Command) (i count parts most : ℕ) → i < length cs → c ≡ get_or cs i c → count ≡ sum_by parts_of (take i cs) → parts ≡ parts_of c → most - count < parts → most < part_count (map seen_command cs)
too-many cs c i count parts most within read so_far own past =
    let more : sum_by parts_of (take (i + 1) cs) ≡ sum_by parts_of (take i cs) + parts_of (get_or cs i c) = sum_by_more parts_of cs i c within in
    let same : parts_of (get_or cs i c) ≡ parts = ap parts_of (sym read) ∙ sym own in
    let all = sum_by-take-le parts_of cs (i + 1) in
    let seen : part_count (map seen_command cs) ≡ sum_by parts_of cs = sum_by-map command_parts seen_command cs in
    omega (arith, so_far, past, more, same, all, seen)

-- the count behind a command
pub count-turn : (cs : List Command) (c : Command) (i count parts : ℕ) → i < length cs → c ≡ get_or cs i c → count ≡ sum_by parts_of (take i cs) → parts ≡ parts_of c → count + parts ≡ sum_by parts_of (take (i + 1) cs)
count-turn cs c i count parts within read so_far own =
    let more : sum_by parts_of (take (i + 1) cs) ≡ sum_by parts_of (take i cs) + parts_of (get_or cs i c) = sum_by_more parts_of cs i c within in
    let same : parts_of (get_or cs i c) ≡ parts = ap parts_of (sym read) ∙ sym own in
    omega (arith, so_far, more, same)

-- the count behind all
pub count-end : (cs : List Command) (i count : ℕ) → length cs ≤ i → count ≡ sum_by parts_of (take i cs) → count ≡ part_count (map seen_command cs)
count-end cs i count past so_far = so_far ∙ ap (sum_by parts_of) (take_all i cs past) ∙ sym (sum_by-map command_parts seen_command cs)

pub is-many : (found : Option ℕ) (missed : Bool) (m n : ℕ) → is_some found ≡ not missed → MatchOption found (m < n) (λ k. (k ≡ n) × (k ≤ m)) → missed ≡ nat_lt m n
is-many None true m n e h = sym (some_more m n h)
is-many None false m n e h = absurd (cc)
is-many (Some k) true m n e h = absurd (cc)
is-many (Some k) false m n e (is, few) = sym (no_more m n (omega (arith, is, few)))

-- a command is a part itself
pub commands-counted : (cs : List tree.Command) → length cs ≤ part_count cs
commands-counted [] = omega arith
commands-counted (c ∷ cs) =
    let rest = commands-counted cs in
    let all : part_count (c ∷ cs) ≡ command_parts c + part_count cs = sum_by-cons command_parts c cs in
    let own = one-part c in
    omega (arith, rest, all, own)
  where
    one-part : (d : tree.Command) → 1 ≤ command_parts d
    one-part (tree.Class name above) = omega arith
    one-part (tree.TypeDecl name params) = omega arith
    one-part (tree.Arity con doms class) = omega arith
    one-part (tree.Const name typ) = omega arith
    one-part (tree.Axiom name prop) = omega arith
    one-part (tree.Definition name typ prop) = omega arith
    one-part (tree.Lemma name prop haves script) = omega arith
