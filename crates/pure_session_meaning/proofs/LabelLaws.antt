-- The labels of the lemmas and haves of a session ascend.
use Rattle.std.proofs.Common.{◌≡◌, ◌⊎◌, ◌<◌, ◌≤◌, ℕ, ◌+◌, zero, suc, List, [], ◌∷◌, ◌++◌, length, map, refl, sym, ap, ◌∙◌, subst, inl, inr, arith}
use Rattle.std.proofs.lemmas.Bool.{cases_lt}
use Rattle.std.specs.Prelude.{Some, slice_get}
use Rattle.std.specs.declared.cmp.Ordering.TheVariants.{Less, Equal, Greater}
use Rattle.std.specs.declared.cmp.Ordering.{Ordering}
use Rattle.std.specs.Ordering.{MatchOrdering, nat_cmp, ordering_then}
use Rattle.std.specs.Cmp.{ranks}
use Rattle.std.specs.List.{flat_map, AllByRecursion}
use Rattle.std.specs.List.Sorted.{IsStrictlySortedBy}
use Rattle.pure_text.specs.Lists.{Each}
use Rattle.pure_text.proofs.ListLaws.{each-append, each_at, each_imply, each_of}
use Rattle.pure_definitions.specs.Names.{Label}
use Rattle.pure_theorem.specs.Sets.{label_cmp, IsLabelSet}
use Rattle.pure_grammar.specs.Theories.TheoryText.{Command}
use Rattle.pure_logic.specs.Content.{Content}
use Rattle.pure_graph.specs.Order.{Loaded}
use Rattle.pure_session_laws.specs.Declare.Notes.{Note, Fork, Said, Forked}
use Rattle.pure_session_laws.specs.Declare.Parts.{Part}
use Rattle.pure_session_laws.specs.Declare.Fold.{part_label, AreParts, AreDeclared}
use Rattle.pure_session_laws.specs.Theory.Refusals.{IsBefore}
use Rattle.pure_session_meaning.specs.Verdicts.{Verdict, Barred, Ran, Closes}
use Rattle.pure_session_meaning.specs.Statements.{notes_of, forks_of, IsRun, IsFork}
use Rattle.pure_session_meaning.specs.Steps.{command_label}
use Rattle.pure_session_meaning.specs.Laws.{LabelsAscend}
use Rattle.pure_session_meaning.proofs.PartLaws.{part-label}
use Rattle.pure_session_meaning.proofs.OrderlyLaws.{before-through, part-before, command-before}
use Rattle.pure_session_meaning.proofs.NoteLaws.{forks-append, fork-in, closes-run}

is-less : (x y : ℕ) (o : Ordering) → MatchOrdering o (x < y) (x ≡ y) (y < x) → x < y → o ≡ Less
is-less x y Less h less = refl
is-less x y Equal h less = absurd (omega (arith, h, less))
is-less x y Greater h less = absurd (omega (arith, h, less))

is-equal : (x y : ℕ) (o : Ordering) → MatchOrdering o (x < y) (x ≡ y) (y < x) → x ≡ y → o ≡ Equal
is-equal x y Less h same = absurd (omega (arith, h, same))
is-equal x y Equal h same = refl
is-equal x y Greater h same = absurd (omega (arith, h, same))

number-less : (x y : ℕ) → x < y → nat_cmp x y ≡ Less
number-less x y h = is-less x y (nat_cmp x y) (ranks x y) h

number-same : (x y : ℕ) → x ≡ y → nat_cmp x y ≡ Equal
number-same x y h = is-equal x y (nat_cmp x y) (ranks x y) h

-- A label that comes before another is less.
pub before-less : (l m : Label) → IsBefore l m → label_cmp l m ≡ Less
before-less l m (inl a) = ap (λ (o : Ordering). ordering_then o (ordering_then (nat_cmp l.command m.command) (nat_cmp l.part m.part))) (number-less l.theory m.theory a)
before-less l m (inr (a, inl b)) =
    ap (λ (o : Ordering). ordering_then o (ordering_then (nat_cmp l.command m.command) (nat_cmp l.part m.part))) (number-same l.theory m.theory a)
    ∙ ap (λ (o : Ordering). ordering_then o (nat_cmp l.part m.part)) (number-less l.command m.command b)
before-less l m (inr (a, inr (b, c))) =
    ap (λ (o : Ordering). ordering_then o (ordering_then (nat_cmp l.command m.command) (nat_cmp l.part m.part))) (number-same l.theory m.theory a)
    ∙ ap (λ (o : Ordering). ordering_then o (nat_cmp l.part m.part)) (number-same l.command m.command b)
    ∙ number-less l.part m.part c

-- The label comes before those of all the lemmas.
abbrev pub IsBeforeAll : Label → List Fork → Type 0
IsBeforeAll l fs = Each (λ (f : Fork). IsBefore l f.label) fs

all-less : (l : Label) (fs : List Fork) → IsBeforeAll l fs → AllByRecursion (λ m. label_cmp l m ≡ Less) (map Fork.label fs)
all-less l [] h = tt
all-less l (f ∷ fs) h = (before-less l f.label h.0, all-less l fs h.1)

none-set : IsLabelSet []
unfolding IsStrictlySortedBy
none-set = tt

set-put : (f : Fork) (fs : List Fork) → AllByRecursion (λ m. label_cmp f.label m ≡ Less) (map Fork.label fs) → IsLabelSet (map Fork.label fs) → IsLabelSet (map Fork.label (f ∷ fs))
unfolding IsStrictlySortedBy
set-put f fs h k = (h, k)

rest-set : (f : Fork) (fs : List Fork) → IsLabelSet (map Fork.label (f ∷ fs)) → IsLabelSet (map Fork.label fs)
unfolding IsStrictlySortedBy
rest-set f fs h = h.1

set-head : (f : Fork) (fs : List Fork) → IsLabelSet (map Fork.label (f ∷ fs)) → AllByRecursion (λ m. label_cmp f.label m ≡ Less) (map Fork.label fs)
unfolding IsStrictlySortedBy
set-head f fs h = h.0

all-joined : (P : Label → Type 0) (fs gs : List Fork) → AllByRecursion P (map Fork.label fs) → AllByRecursion P (map Fork.label gs) → AllByRecursion P (map Fork.label (fs ++ gs))
all-joined P [] gs h k = k
all-joined P (f ∷ fs) gs h k = (h.0, all-joined P fs gs h.1 k)

-- The first label is the second, or comes before it.
abbrev pub IsUpTo : Label → Label → Type 0
IsUpTo l m = (l ≡ m) ⊎ IsBefore l m

before-up : (l m n : Label) → IsBefore l m → IsUpTo m n → IsBefore l n
before-up l m n h (inl same) = subst (λ (k : Label). IsBefore l k) same h
before-up l m n h (inr less) = before-through l m n h less

up-through : (l m n : Label) → IsUpTo l m → IsUpTo m n → IsUpTo l n
up-through l m n (inl same) h = subst (λ (k : Label). IsUpTo k n) (sym same) h
up-through l m n (inr less) h = inr (before-up l m n less h)

parts-up : (label : Label) (m n : ℕ) → m ≤ n → IsUpTo (part_label label m) (part_label label n)
parts-up label m n h = elim (cases_lt m n) [ inl less ↦ inr (inr (refl, inr (refl, less))) | inr behind ↦ inl (ap (part_label label) (same h behind)) ]
  where
    same : m ≤ n → n ≤ m → m ≡ n
    same a b = omega (arith, a, b)

commands-up : (index m n : ℕ) → m ≤ n → IsUpTo (command_label index m) (command_label index n)
commands-up index m n h = elim (cases_lt m n) [ inl less ↦ inr (inr (refl, inl less)) | inr behind ↦ inl (ap (command_label index) (same h behind)) ]
  where
    same : m ≤ n → n ≤ m → m ≡ n
    same a b = omega (arith, a, b)

theories-up : (i j : ℕ) → i ≤ j → IsUpTo (command_label i 0) (command_label j 0)
theories-up i j h = elim (cases_lt i j) [ inl less ↦ inr (inl less) | inr behind ↦ inl (ap (λ (k : ℕ). command_label k 0) (same h behind)) ]
  where
    same : i ≤ j → j ≤ i → i ≡ j
    same a b = omega (arith, a, b)

-- Lemmas and haves whose labels ascend, from the first label on, and before the second.
pub record AreBetween (low high : Label) (fs : List Fork) : Type 0 where
  pub ascend : IsLabelSet (map Fork.label fs)
  pub from : Each (λ (f : Fork). IsUpTo low f.label) fs
  pub before : Each (λ (f : Fork). IsBefore f.label high) fs

none-between : (low high : Label) → AreBetween low high []
none-between low high = record { ascend = none-set; from = tt; before = tt }

one-between : (low high : Label) (f : Fork) → f.label ≡ low → IsBefore low high → AreBetween low high (f ∷ [])
one-between low high f is less = record { ascend = set-put f [] tt none-set; from = (inl (sym is), tt); before = (subst (λ (l : Label). IsBefore l high) (sym is) less, tt) }

further-between : (low mid high : Label) (fs : List Fork) → IsUpTo mid high → AreBetween low mid fs → AreBetween low high fs
further-between low mid high fs up h =
    record { ascend = h.ascend; from = h.from; before = each_imply (λ (f : Fork). IsBefore f.label mid) (λ (f : Fork). IsBefore f.label high) fs (λ f less. before-up f.label mid high less up) h.before }

joined-set : (mid : Label) (fs gs : List Fork) → IsLabelSet (map Fork.label fs) → IsLabelSet (map Fork.label gs) → Each (λ (f : Fork). IsBefore f.label mid) fs → Each (λ (g : Fork). IsUpTo mid g.label) gs → IsLabelSet (map Fork.label (fs ++ gs))
joined-set mid [] gs h k before from = k
joined-set mid (f ∷ fs) gs h k before from =
    let rest = joined-set mid fs gs (rest-set f fs h) k before.1 from in
    let others = all-less f.label gs (each_imply (λ (g : Fork). IsUpTo mid g.label) (λ (g : Fork). IsBefore f.label g.label) gs (λ g up. before-up f.label mid g.label before.0 up) from) in
    set-put f (fs ++ gs) (all-joined (λ m. label_cmp f.label m ≡ Less) fs gs (set-head f fs h) others) rest

-- Some up to a label, and then others from it on.
both-between : (low mid high : Label) (fs gs : List Fork) → IsUpTo low mid → IsUpTo mid high → AreBetween low mid fs → AreBetween mid high gs → AreBetween low high (fs ++ gs)
both-between low mid high fs gs a b h k = record {
  ascend = joined-set mid fs gs h.ascend k.ascend h.before k.from;
  from = each-append (λ (f : Fork). IsUpTo low f.label) fs gs h.from (each_imply (λ (f : Fork). IsUpTo mid f.label) (λ (f : Fork). IsUpTo low f.label) gs (λ f up. up-through low mid f.label a up) k.from);
  before = each-append (λ (f : Fork). IsBefore f.label high) fs gs (further-between low mid high fs b h).before k.before;
}

-- What a part leaves, and then what those behind it leave.
part-between : (label : Label) (place : ℕ) (high : Label) (note : Note) (more : List Note) → ((f : Fork) → note ≡ Forked f → f.label ≡ part_label label place) → IsUpTo (part_label label (place + 1)) high
    → AreBetween (part_label label (place + 1)) high (forks_of more) → AreBetween (part_label label place) high (forks_of (note ∷ more))
part-between label place high (Said row) more is up h =
    both-between (part_label label place) (part_label label (place + 1)) high [] (forks_of more) (inr (part-before label place)) up (none-between (part_label label place) (part_label label (place + 1))) h
part-between label place high (Forked f) more is up h =
    both-between (part_label label place) (part_label label (place + 1)) high (f ∷ []) (forks_of more) (inr (part-before label place)) up
    (one-between (part_label label place) (part_label label (place + 1)) f (is f refl) (part-before label place)) h

parts-between : (texts : List (List ℕ)) (source : List ℕ) (label : Label) (parts : List Part) (place : ℕ) (Q : Content) (notes : List Note) (last : Content) → AreParts texts source label place Q parts notes last
    → AreBetween (part_label label place) (part_label label (place + length notes)) (forks_of notes)
parts-between texts source label [] place Q notes last d =
    subst (λ (ns : List Note). AreBetween (part_label label place) (part_label label (place + length ns)) (forks_of ns)) (sym d.0) (none-between (part_label label place) (part_label label (place + 0)))
parts-between texts source label (part ∷ parts) place Q notes last d =
    let high : Label = part_label label (place + length (d.0 ∷ d.2)) in
    let count : place + 1 + length d.2 ≡ place + length (d.0 ∷ d.2) = omega arith in
    let on : AreBetween (part_label label (place + 1)) high (forks_of d.2) =
    subst (λ (n : ℕ). AreBetween (part_label label (place + 1)) (part_label label n) (forks_of d.2)) count (parts-between texts source label parts (place + 1) d.1 d.2 last d.4) in
    let up : IsUpTo (part_label label (place + 1)) high = parts-up label (place + 1) (place + length (d.0 ∷ d.2)) (omega arith) in
    subst (λ (ns : List Note). AreBetween (part_label label place) (part_label label (place + length ns)) (forks_of ns)) (sym d.5)
    (part-between label place high d.0 d.2 (part-label texts source (part_label label place) Q part d.0 d.1 d.3) up on)

-- The forks among the notes of commands.
pub commands-between : (texts : List (List ℕ)) (source : List ℕ) (index : ℕ) (cs : List Command) (place : ℕ) (Q : Content) (notes : List Note) (last : Content) → AreDeclared texts source index place Q cs notes last
    → AreBetween (command_label index place) (command_label index (place + length cs)) (forks_of notes)
commands-between texts source index [] place Q notes last d =
    subst (λ (ns : List Note). AreBetween (command_label index place) (command_label index (place + 0)) (forks_of ns)) (sym d.0) (none-between (command_label index place) (command_label index (place + 0)))
commands-between texts source index (c ∷ cs) place Q notes last d =
    let low : Label = command_label index place in
    let mid : Label = command_label index (place + 1) in
    let count : place + 1 + length cs ≡ place + length (c ∷ cs) = omega arith in
    let own : AreBetween low mid (forks_of d.0) =
    further-between low (part_label low (0 + length d.0)) mid (forks_of d.0) (inr (command-before index place (0 + length d.0))) (parts-between texts source low d.3.parts 0 Q d.0 d.1 d.3.are) in
    let on = commands-between texts source index cs (place + 1) d.1 d.2 last d.4 in
    let both = both-between low mid (command_label index (place + 1 + length cs)) (forks_of d.0) (forks_of d.2) (commands-up index place (place + 1) (omega arith)) (commands-up index (place + 1) (place + 1 + length cs) (omega arith)) own on in
    subst (λ (n : ℕ). AreBetween low (command_label index n) (forks_of notes)) count
    (subst (λ (fs : List Fork). AreBetween low (command_label index (place + 1 + length cs)) fs) (sym (ap forks_of d.5 ∙ forks-append d.0 d.2)) both)

-- Lemmas and haves of the theory with the index, whose labels ascend.
pub record AreOf (index : ℕ) (fs : List Fork) : Type 0 where
  pub ascend : IsLabelSet (map Fork.label fs)
  pub of_theory : Each (λ (f : Fork). f.label.theory ≡ index) fs

theory-is : (index n : ℕ) (l : Label) → IsUpTo (command_label index 0) l → IsBefore l (command_label index n) → l.theory ≡ index
theory-is index n l (inl same) less = ap (λ (k : Label). k.theory) (sym same)
theory-is index n l (inr (inl a)) (inl b) = absurd (omega (arith, a, b))
theory-is index n l (inr (inl a)) (inr b) = b.0
theory-is index n l (inr (inr a)) less = sym a.0

module _ (texts : List (List ℕ)) (theories : List Loaded) where
  run-between : (index : ℕ) (notes : List Note) (now : Content) (left : List Command) (run : IsRun texts theories index notes now left) → AreBetween (command_label index 0) (command_label index (0 + length run.done)) (forks_of notes)
  run-between index notes now left run = commands-between texts run.theory.source index run.done 0 run.first notes now run.declared

  -- Those of a run are its theory's, and their labels ascend.
  pub run-labels : (index : ℕ) (notes : List Note) (now : Content) (left : List Command) → IsRun texts theories index notes now left → AreOf index (forks_of notes)
  run-labels index notes now left run =
      let w = run-between index notes now left run in
      let high : Label = command_label index (0 + length run.done) in
      record {
        ascend = w.ascend;
        of_theory = each_of (λ (f : Fork). f.label.theory ≡ index) (forks_of notes) (λ f m. theory-is index (0 + length run.done) f.label
            (each_at (λ (f : Fork). IsUpTo (command_label index 0) f.label) (forks_of notes) w.from f m)
            (each_at (λ (f : Fork). IsBefore f.label high) (forks_of notes) w.before f m));
      }

  -- The label of a lemma or have names its theory.
  pub fork-theory : (index others : ℕ) (f : Fork) → IsFork texts theories index others f → f.label.theory ≡ index
  fork-theory index others f is =
      let notes : List Note = is.notes ++ Forked f ∷ is.more in
      each_at (λ (g : Fork). g.label.theory ≡ index) (forks_of notes) (run-labels index notes is.now is.left is.run).of_theory f (fork-in f is.notes is.more)

  verdict-between : (index : ℕ) (v : Verdict) → Closes texts theories index v → AreBetween (command_label index 0) (command_label (index + 1) 0) (forks_of (notes_of v))
  verdict-between index (Barred row) closes = none-between (command_label index 0) (command_label (index + 1) 0)
  verdict-between index (Ran notes last) closes =
      let run = closes-run closes notes last refl in
      further-between (command_label index 0) (command_label index (0 + length run.done)) (command_label (index + 1) 0) (forks_of notes) (inr (inl (omega arith))) (run-between index notes last [] run)

  all-between : (index : ℕ) (vs : List Verdict) → ((p : ℕ) (v : Verdict) → slice_get vs p ≡ Some v → Closes texts theories (index + p) v) → AreBetween (command_label index 0) (command_label (index + length vs) 0) (forks_of (flat_map notes_of vs))
  all-between index [] closes = none-between (command_label index 0) (command_label (index + 0) 0)
  all-between index (v ∷ vs) closes =
      let here : Closes texts theories index v = subst (λ (i : ℕ). Closes texts theories i v) (omega arith) (closes zero v refl) in
      let on = all-between (index + 1) vs (λ p w h. subst (λ (i : ℕ). Closes texts theories i w) (omega arith) (closes (suc p) w h)) in
      let count : index + 1 + length vs ≡ index + length (v ∷ vs) = omega arith in
      let both = both-between (command_label index 0) (command_label (index + 1) 0) (command_label (index + 1 + length vs) 0) (forks_of (notes_of v)) (forks_of (flat_map notes_of vs))
      (theories-up index (index + 1) (omega arith)) (theories-up (index + 1) (index + 1 + length vs) (omega arith)) (verdict-between index v here) on in
      subst (λ (n : ℕ). AreBetween (command_label index 0) (command_label n 0) (forks_of (flat_map notes_of (v ∷ vs)))) count
      (subst (λ (fs : List Fork). AreBetween (command_label index 0) (command_label (index + 1 + length vs) 0) fs) (sym (forks-append (notes_of v) (flat_map notes_of vs))) both)

pub labels_ascend : LabelsAscend
labels_ascend texts theories session notes s =
    subst (λ (ns : List Note). IsLabelSet (map Fork.label (forks_of ns))) (sym s.notes_are) (all-between texts theories 1 s.verdicts (λ p v h. subst (λ (i : ℕ). Closes texts theories i v) (omega arith) (s.are p v h))).ascend
