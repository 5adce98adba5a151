-- The policy of the words has cancelled what the words ask for.
use Rattle.std.proofs.Common.{◌≡◌, ◌∙◌, ◌<◌, ◌≤◌, ◌+◌, inl, inr, ℕ, zero, suc, Bool, true, false, cond, List, [], ◌∷◌, map, refl, sym, ap, subst, arith, Option, Some, None, slice_get, eq-eqb}
use Rattle.std.specs.Prelude.{nat_le, ◌&&◌, ◌||◌, if◌then◌else◌, IsTrue, option_map}
use Rattle.std.specs.List.{list_any, count_by, filter_map, cons_option, position_from}
use Rattle.std.specs.Cmp.Lexicographic.{same_text}
use Rattle.std.proofs.lemmas.Bool.{ne_eqb}
use Rattle.std.proofs.lemmas.List.Sums.{sum_by-cons}
use Rattle.pure_text.specs.Lists.{IsIn, Each, AreDistinct}
use Rattle.pure_grammar.specs.Theories.Lexeme.{same}
use Rattle.pure_graph.specs.Order.{Loaded}
use Rattle.pure_words.specs.declared.job.CancelWord.{CancelWord}
use Rattle.pure_machine.specs.declared.policy.Group.{Group}
use Rattle.pure_machine.specs.declared.policy.Group.TheVariants.{Session, Theory}
use Rattle.pure_machine.specs.declared.policy.Cancel.{Cancel}
use Rattle.pure_policy_laws.specs.Heeded as heed
use Rattle.pure_policy_laws.specs.Heeded.{Lot, has_theory, is_kept, kept, faults}
use Rattle.pure_policy.specs.Asked.{Asked}
use Rattle.pure_policy.specs.Heeded.{session_word, is_named, is_theory, is_of, kept_of, has_come, is_licensed}
use Rattle.pure_policy.specs.Policy.{index_of, group_of, cancel_of, policy_of}
use Rattle.pure_policy.specs.Laws.{WordsAreHeeded}

-- ---- the group with a name has the lemmas of the theories with it

-- whether there is a group, and it has the lemmas of the theory
abbrev covers : Option Group → (theory : ℕ) → Bool
covers None i = false
covers (Some g) i = has_theory g i

-- whether the first theory with the name has this index, where the first of all has that one
abbrev is_first : List Loaded → (name : List ℕ) → (first i : ℕ) → Bool
is_first theories name first i = covers (option_map Theory (position_from (λ (t : Loaded). same name t.name) first theories)) i

none_before : (theories : List Loaded) (name : List ℕ) (first i : ℕ) → i < first → is_first theories name first i ≡ false
none_before [] name first i before = refl
none_before (t ∷ theories) name first i before = by (same name t.name) (none_before theories name (first + 1) i (omega (arith, before)))
  where
    by : (b : Bool) → is_first theories name (first + 1) i ≡ false → covers (option_map Theory (cond b (Some first) (position_from (λ (t : Loaded). same name t.name) (first + 1) theories))) i ≡ false
    by true later = ne_eqb first i (λ e. absurd (omega (arith, before, e)))
    by false later = later

none_named : (theories : List Loaded) (name : List ℕ) (place : ℕ) → ¬ IsIn name (map (λ (t : Loaded). t.name) theories) → is_named (slice_get theories place) name ≡ false
none_named [] name place absent = refl
none_named (t ∷ theories) name zero absent = by (same name t.name) refl
  where
    by : (b : Bool) → same name t.name ≡ b → same name t.name ≡ false
    by true e = absurd (absent (inl (same_text name t.name (sym e))))
    by false e = e
none_named (t ∷ theories) name (suc place) absent = none_named theories name place (λ m. absent (inr m))

first_is : (theories : List Loaded) → AreDistinct (map (λ (t : Loaded). t.name) theories) → (name : List ℕ) (first place : ℕ) → is_first theories name first (first + place) ≡ is_named (slice_get theories place) name
first_is [] distinct name first place = refl
first_is (t ∷ theories) distinct name first zero = by (same name t.name)
  where
    by : (b : Bool) → covers (option_map Theory (cond b (Some first) (position_from (λ (t : Loaded). same name t.name) (first + 1) theories))) (first + 0) ≡ b
    by true = eq-eqb first (first + 0) (omega arith)
    by false = none_before theories name (first + 1) (first + 0) (omega arith)
first_is (t ∷ theories) (new, distinct) name first (suc place) = by (same name t.name) refl (first_is theories distinct name (first + 1) place)
  where
    index : (first + 1) + place ≡ first + suc place
    index = omega arith

    by : (b : Bool) → same name t.name ≡ b → is_first theories name (first + 1) ((first + 1) + place) ≡ is_named (slice_get theories place) name → covers (option_map Theory (cond b (Some first) (position_from (λ (t : Loaded). same name t.name) (first + 1) theories))) (first + suc place) ≡ is_named (slice_get theories place) name
    by true e later = ne_eqb first (first + suc place) (λ e. absurd (omega (arith, e))) ∙ sym (none_named theories name place (λ m. new (subst (λ n. IsIn n (map (λ (t : Loaded). t.name) theories)) (same_text name t.name (sym e)) m)))
    by false e later = ap (λ i. is_first theories name (first + 1) i) (sym index) ∙ later

index_is : (theories : List Loaded) → AreDistinct (map (λ (t : Loaded). t.name) theories) → (name : List ℕ) (i : ℕ) → covers (option_map Theory (index_of theories name)) i ≡ is_theory theories name i
index_is theories distinct name zero = none_before theories name 1 0 (omega arith)
index_is theories distinct name (suc place) = ap (is_first theories name 1) index ∙ first_is theories distinct name 1 place
  where
    index : suc place ≡ 1 + place
    index = omega arith

group_is : (theories : List Loaded) → AreDistinct (map (λ (t : Loaded). t.name) theories) → (name : List ℕ) (l : Lot) → covers (group_of theories name) l.theory ≡ is_of theories name l
group_is theories distinct name l = by (same name session_word)
  where
    by : (b : Bool) → covers (if b then Some Session else option_map Theory (index_of theories name)) l.theory ≡ (b || is_theory theories name l.theory)
    by true = refl
    by false = index_is theories distinct name l.theory

-- ---- what is said of the cancellations is said of the words

-- the cancellation of a group after so many
abbrev after_so_many : (count : ℕ) → Group → Cancel
after_so_many count g = record { group = g; after = count }

module _ (theories : List Loaded) (distinct : AreDistinct (map (λ (t : Loaded). t.name) theories)) where
  -- One has come for the theory of the lemma where one of the words has come for the lemma.
  come_is : (ls : List Lot) (l : Lot) (cs : List CancelWord) → list_any (heed.has_come (kept ls) l.theory) (filter_map (cancel_of theories) cs) ≡ list_any (has_come theories ls l) cs
  come_is ls l [] = refl
  come_is ls l (c ∷ cs) = by (group_of theories c.group) (group_is theories distinct c.group l) (come_is ls l cs)
    where
      by : (g : Option Group) → covers g l.theory ≡ is_of theories c.group l → list_any (heed.has_come (kept ls) l.theory) (filter_map (cancel_of theories) cs) ≡ list_any (has_come theories ls l) cs
          → list_any (heed.has_come (kept ls) l.theory) (cons_option (option_map (after_so_many c.after) g) (filter_map (cancel_of theories) cs)) ≡ (has_come theories ls l c || list_any (has_come theories ls l) cs)
      by None is rest = rest ∙ ap (λ b. (b && nat_le c.after (kept ls)) || list_any (has_come theories ls l) cs) is
      by (Some g) is rest = ap (λ b. (b && nat_le c.after (kept ls)) || list_any (heed.has_come (kept ls) l.theory) (filter_map (cancel_of theories) cs)) is ∙ ap (λ b. has_come theories ls l c || b) rest

  licensed_is : (asked : Asked) (ls : List Lot) (l : Lot) → heed.is_licensed (policy_of theories asked) ls l ≡ is_licensed theories asked ls l
  licensed_is asked ls l = ap (λ b. (asked.fail_fast && nat_le 1 (faults ls)) || b) (come_is ls l asked.cancels)

  none_counted : (ls : List Lot) → count_by (λ l. is_kept l && false) ls ≡ 0
  none_counted [] = refl
  none_counted (l ∷ ls) = sum_by-cons (λ l. cond (is_kept l && false) 1 0) l ls ∙ ap (λ b. cond b 1 0 + count_by (λ l. is_kept l && false) ls) (neither (is_kept l)) ∙ ap (λ n. 0 + n) (none_counted ls)
    where
      neither : (b : Bool) → (b && false) ≡ false
      neither true = refl
      neither false = refl

  -- What is kept of each group is as little as its cancellation says, for the cancellations and for the words.
  obeyed_all : (ls : List Lot) (cs : List CancelWord) → Each (λ (c : Cancel). heed.kept_of c.group ls ≤ c.after) (filter_map (cancel_of theories) cs) → Each (λ (c : CancelWord). kept_of theories c.group ls ≤ c.after) cs
  obeyed_all ls [] all = _
  obeyed_all ls (c ∷ cs) all = by (group_of theories c.group) (group_is theories distinct c.group) all (obeyed_all ls cs)
    where
      by : (g : Option Group) → ((l : Lot) → covers g l.theory ≡ is_of theories c.group l) → Each (λ (c : Cancel). heed.kept_of c.group ls ≤ c.after) (cons_option (option_map (after_so_many c.after) g) (filter_map (cancel_of theories) cs))
          → (Each (λ (c : Cancel). heed.kept_of c.group ls ≤ c.after) (filter_map (cancel_of theories) cs) → Each (λ (c : CancelWord). kept_of theories c.group ls ≤ c.after) cs)
          → (kept_of theories c.group ls ≤ c.after) × Each (λ (c : CancelWord). kept_of theories c.group ls ≤ c.after) cs
      by None same all rest = (subst (λ (f : Lot → Bool). count_by (λ l. is_kept l && f l) ls ≤ c.after) (λ i l. same l i) (let none = none_counted ls in omega arith), rest all)
      by (Some g) same all rest = (subst (λ (f : Lot → Bool). count_by (λ l. is_kept l && f l) ls ≤ c.after) (λ i l. same l i) all.0, rest all.1)

pub words_heeded : WordsAreHeeded
words_heeded theories distinct asked ls is = record {
  licensed = each ls is.licensed;
  one_fault = is.one_fault;
  obeyed = obeyed_all theories distinct ls asked.cancels is.obeyed;
  in_order = is.in_order;
  one_worker = λ one before after l cut. is.one_worker one before after l cut ∙ licensed_is theories distinct asked before l;
}
  where
    each : (ms : List Lot) → Each (λ l. IsTrue l.gone → IsTrue (heed.is_licensed (policy_of theories asked) ls l)) ms → Each (λ l. IsTrue l.gone → IsTrue (is_licensed theories asked ls l)) ms
    each [] all = _
    each (m ∷ ms) (one, rest) = ((λ gone. subst IsTrue (licensed_is theories distinct asked ls m) (one gone)), each ms rest)
