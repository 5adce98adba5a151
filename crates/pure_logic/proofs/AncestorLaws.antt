-- The ancestors of a theory, and how theories are told apart.
use Rattle.std.proofs.Common.{◌≡◌, ◌≢◌, ◌↔◌, ◌⊎◌, ◌<◌, List, [], ◌∷◌, Bool, true, false, cond, nat_eq, inl, inr, refl, sym, ◌∙◌, arith}
use Rattle.std.specs.Prelude.{Option, Some, None}
use Rattle.std.specs.Option.{option_to_list}
use Rattle.std.specs.List.{flat_map}
use Rattle.std.specs.Cmp.{first_so, second_so}
use Rattle.std.specs.Cmp.Derive.{both_true}
use Rattle.std.proofs.lemmas.Bool.{eq-eqb, eqb-true}
use Rattle.pure_text.specs.Lists.{IsIn, AnyOf, AreDistinct}
use Rattle.pure_text.proofs.ListLaws.{in-append_left, in-append_right, each_at, in_split}
use Rattle.pure_logic.specs.Content.{TheoryId, Content}
use Rattle.pure_logic.specs.PureContent.{pure_content}
use Rattle.pure_logic.specs.Beginning.{theory_eq, without_theory, each_once, theories_of, ancestors_of, IsBeginning, AreToldApart, IsNewOver, HasTheoriesApart}
use Rattle.pure_logic.proofs.MergeLaws.{one_merge}

pub theory_eq-same : (t u : TheoryId) → theory_eq t u ≡ true → t ≡ u
theory_eq-same t u h =
    let names = eqb-true t.name u.name (first_so (nat_eq t.name u.name) (nat_eq t.index u.index) h) in
    let indexes = eqb-true t.index u.index (second_so (nat_eq t.name u.name) (nat_eq t.index u.index) h) in
    λ l. record { name = names l; index = indexes l }

pub theory_eq-itself : (t : TheoryId) → theory_eq t t ≡ true
theory_eq-itself t = both_true (eq-eqb t.name t.name refl) (eq-eqb t.index t.index refl)

in-without : (x t : TheoryId) (ts : List TheoryId) → IsIn x (without_theory t ts) → IsIn x ts × (t ≢ x)
in-without x t [] m = absurd m
in-without x t (u ∷ us) m = by (theory_eq t u) refl (in-without x t us) m
  where
    by : (b : Bool) → theory_eq t u ≡ b → (IsIn x (without_theory t us) → IsIn x us × (t ≢ x)) → IsIn x (cond b (without_theory t us) (u ∷ without_theory t us)) → IsIn x (u ∷ us) × (t ≢ x)
    by true e later m = let n = later m in (inr n.0, n.1)
    by false e later (inl same) = (inl same, λ is. (let whole : theory_eq t u ≡ true = rw (← (is ∙ same)) (theory_eq-itself t) in absurd (cc)))
    by false e later (inr m) = let n = later m in (inr n.0, n.1)

without-in : (x t : TheoryId) (ts : List TheoryId) → (t ≢ x) → IsIn x ts → IsIn x (without_theory t ts)
without-in x t [] other m = m
without-in x t (u ∷ us) other m = by (theory_eq t u) refl (without-in x t us other) m
  where
    by : (b : Bool) → theory_eq t u ≡ b → (IsIn x us → IsIn x (without_theory t us)) → IsIn x (u ∷ us) → IsIn x (cond b (without_theory t us) (u ∷ without_theory t us))
    by true e later (inl same) = absurd (other (theory_eq-same t u e ∙ sym same))
    by true e later (inr m) = later m
    by false e later (inl same) = inl same
    by false e later (inr m) = inr (later m)

in-each_once : (x : TheoryId) (ts : List TheoryId) → IsIn x (each_once ts) → IsIn x ts
in-each_once x [] m = m
in-each_once x (t ∷ ts) (inl e) = inl e
in-each_once x (t ∷ ts) (inr m) = inr (in-each_once x ts (in-without x t (each_once ts) m).0)

each_once-in : (x : TheoryId) (ts : List TheoryId) → IsIn x ts → IsIn x (each_once ts)
each_once-in x [] m = m
each_once-in x (t ∷ ts) (inl e) = inl e
each_once-in x (t ∷ ts) (inr m) = by (theory_eq t x) refl (each_once-in x ts m)
  where
    by : (b : Bool) → theory_eq t x ≡ b → IsIn x (each_once ts) → IsIn x (t ∷ without_theory t (each_once ts))
    by true e n = inl (sym (theory_eq-same t x e))
    by false e n = inr (without-in x t (each_once ts) (λ is. (let whole : theory_eq t x ≡ true = rw (← is) (theory_eq-itself t) in absurd (cc))) n)

without-distinct : (t : TheoryId) (ts : List TheoryId) → AreDistinct ts → AreDistinct (without_theory t ts)
without-distinct t [] h = tt
without-distinct t (u ∷ us) h = by (theory_eq t u) (without-distinct t us h.1)
  where
    by : (b : Bool) → AreDistinct (without_theory t us) → AreDistinct (cond b (without_theory t us) (u ∷ without_theory t us))
    by true rest = rest
    by false rest = ((λ m. h.0 (in-without u t us m).0), rest)

each_once-distinct : (ts : List TheoryId) → AreDistinct (each_once ts)
each_once-distinct [] = tt
each_once-distinct (t ∷ ts) = ((λ m. (in-without t t (each_once ts) m).1 refl), without-distinct t (each_once ts) (each_once-distinct ts))

in-option : (t : TheoryId) (own : Option TheoryId) → IsIn t (option_to_list own) → own ≡ Some t
in-option t None m = absurd m
in-option t (Some u) (inl same) = λ l. Some (sym same l)
in-option t (Some u) (inr absent) = absurd absent

option-in : (t : TheoryId) (own : Option TheoryId) → own ≡ Some t → IsIn t (option_to_list own)
option-in t None e = absurd (cc)
option-in t (Some u) e = inl (cc)

-- A theory that a content names is its own or one of its ancestors.
abbrev pub Names : TheoryId → Content → Type 0
Names t P = (P.own ≡ Some t) ⊎ IsIn t P.ancestors

pub in-theories : (t : TheoryId) (P : Content) → IsIn t (theories_of P) → Names t P
in-theories t P m = elim (in_split t P.ancestors (option_to_list P.own) m) [ inl n ↦ inr n | inr n ↦ inl (in-option t P.own n) ]

pub theories-in : (t : TheoryId) (P : Content) → Names t P → IsIn t (theories_of P)
theories-in t P (inl own) = in-append_right t P.ancestors (option_to_list P.own) (option-in t P.own own)
theories-in t P (inr m) = in-append_left t P.ancestors (option_to_list P.own) m

in-all_theories : (t : TheoryId) (parents : List Content) → IsIn t (flat_map theories_of parents) → AnyOf (Names t) parents
in-all_theories t [] m = m
in-all_theories t (P ∷ Ps) m = elim (in_split t (theories_of P) (flat_map theories_of Ps) m) [ inl n ↦ inl (in-theories t P n) | inr n ↦ inr (in-all_theories t Ps n) ]

all_theories-in : (t : TheoryId) (parents : List Content) → AnyOf (Names t) parents → IsIn t (flat_map theories_of parents)
all_theories-in t [] m = m
all_theories-in t (P ∷ Ps) (inl n) = in-append_left t (theories_of P) (flat_map theories_of Ps) (theories-in t P n)
all_theories-in t (P ∷ Ps) (inr n) = in-append_right t (theories_of P) (flat_map theories_of Ps) (all_theories-in t Ps n)

pub ancestors_are_the_parents : (parents : List Content) (t : TheoryId) → IsIn t (ancestors_of parents) ↔ AnyOf (λ P. (P.own ≡ Some t) ⊎ IsIn t P.ancestors) parents
ancestors_are_the_parents parents t = (
  λ m. in-all_theories t parents (in-each_once t (flat_map theories_of parents) m),
  λ m. each_once-in t (flat_map theories_of parents) (all_theories-in t parents m),
)

pub ancestors_have_no_repeats : (parents : List Content) → AreDistinct (ancestors_of parents)
ancestors_have_no_repeats parents = each_once-distinct (flat_map theories_of parents)

pub one_beginning : (id : TheoryId) (parents : List Content) (Q R : Content) → IsBeginning id parents Q → IsBeginning id parents R → Q ≡ R
one_beginning id parents Q R h k =
    let declarations = one_merge parents Q.declarations R.declarations h.merge k.merge in
    let own = h.own ∙ sym k.own in
    let ancestors = h.ancestors ∙ sym k.ancestors in
    λ l. record { declarations = declarations l; own = own l; ancestors = ancestors l }

pub beginning_has_theories_apart : (id : TheoryId) (parents : List Content) (Q : Content) → AreToldApart (ancestors_of parents) → IsNewOver id (ancestors_of parents) → IsBeginning id parents Q → HasTheoriesApart Q
beginning_has_theories_apart id parents Q apart new b = record {
  ancestors = rw b.ancestors apart;
  own = λ theory e. (let is = b.own in let same : theory ≡ id = cc in rw (b.ancestors, same) new);
}

-- Where the own theory is new over the ancestors, no ancestor has its name or its index.
new-named : (theory t : TheoryId) (theories : List TheoryId) → IsNewOver theory theories → IsIn t theories → t.name ≢ theory.name
new-named theory t theories new m = each_at (λ u. u.name ≢ theory.name) theories new.name t m

new-indexed : (theory t : TheoryId) (theories : List TheoryId) → IsNewOver theory theories → IsIn t theories → t.index ≢ theory.index
new-indexed theory t theories new m e = let less = each_at (λ u. u.index < theory.index) theories new.index t m in absurd (omega arith)

pub theories_are_told_apart : (Q : Content) → HasTheoriesApart Q → AreToldApart (theories_of Q)
theories_are_told_apart Q h = record {
  by_name = λ t u m n e. named t u (in-theories t Q m) (in-theories u Q n) e;
  by_index = λ t u m n e. indexed t u (in-theories t Q m) (in-theories u Q n) e;
}
  where
    named : (t u : TheoryId) → Names t Q → Names u Q → t.name ≡ u.name → t ≡ u
    named t u (inl own) (inl also) e = cc
    named t u (inl own) (inr m) e = absurd (new-named t u Q.ancestors (h.own t own) m (sym e))
    named t u (inr m) (inl own) e = absurd (new-named u t Q.ancestors (h.own u own) m e)
    named t u (inr m) (inr n) e = h.ancestors.by_name t u m n e

    indexed : (t u : TheoryId) → Names t Q → Names u Q → t.index ≡ u.index → t ≡ u
    indexed t u (inl own) (inl also) e = cc
    indexed t u (inl own) (inr m) e = absurd (new-indexed t u Q.ancestors (h.own t own) m (sym e))
    indexed t u (inr m) (inl own) e = absurd (new-indexed u t Q.ancestors (h.own u own) m e)
    indexed t u (inr m) (inr n) e = h.ancestors.by_index t u m n e

pub pure_has_theories_apart : HasTheoriesApart pure_content
pure_has_theories_apart = record { ancestors = record { by_name = λ t u m. absurd m; by_index = λ t u m. absurd m }; own = λ theory e. absurd (cc) }
