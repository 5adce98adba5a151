-- Declarations of one name.
use Rattle.std.proofs.Common.{◌≡◌, ℕ, List, [], ◌∷◌, Bool, true, false, not, ◌&&◌, refl, sym, inl, inr, arith}
use Rattle.std.specs.Prelude.{Option, Some, None}
use Rattle.std.specs.List.{list_all}
use Rattle.std.specs.Cmp.{first_so, second_so}
use Rattle.pure_text.specs.Lists.{IsIn, Each, AreDistinct}
use Rattle.pure_text.proofs.ListLaws.{any_of, any_some}
use Rattle.pure_definitions.specs.Names.{Label}
use Rattle.pure_definitions.specs.Types.Typ.{Typ, prop}
use Rattle.pure_definitions.specs.Types.Order.{Class}
use Rattle.pure_definitions.specs.Terms.Term.{Term, Bound}
use Rattle.pure_definitions.specs.Declarations.Decl.{Decl, ClassDecl, ConDecl, ConstDecl, AxiomDecl, PromiseDecl, classes_of}
use Rattle.pure_term_laws.proofs.DeclLaws.{declared_classes}
use Rattle.pure_order.specs.OrderTables.Classes.{IsDeclared}
use Rattle.pure_logic.specs.Content.{AreNamedAlike, AreLabelledAlike}
use Rattle.pure_logic.proofs.ContentLaws.{named_alike, named_alike-so}
use Rattle.pure_theory_tables.specs.Facts.{Stated, fact_decl}
use Rattle.pure_theory_tables.proofs.FactLaws.{named}
use Rattle.pure_theory.specs.Refusals.{HasNamesake, IsBefore, IsLabelAbove}

pub named_back : (d e : Decl) → AreNamedAlike d e → AreNamedAlike e d
named_back (ClassDecl c) (ClassDecl d) h = sym h
named_back (ConDecl k m) (ConDecl l n) h = sym h
named_back (ConstDecl c T) (ConstDecl d U) h = sym h
named_back (AxiomDecl x A) (AxiomDecl y B) h = sym h
named_back (AxiomDecl x A) (PromiseDecl y l B) h = sym h
named_back (PromiseDecl x l A) (AxiomDecl y B) h = sym h
named_back (PromiseDecl x l A) (PromiseDecl y m B) h = sym h
named_back _ _ h = absurd h

pub labelled_back : (d e : Decl) → AreLabelledAlike d e → AreLabelledAlike e d
labelled_back (PromiseDecl x l A) (PromiseDecl y m B) h = sym h
labelled_back _ _ h = absurd h

-- Where no declaration of a kind has the name, there is no namesake.
typ_alone : (ds : List Decl) (k m : ℕ) → ((n : ℕ) → ¬ IsIn (ConDecl k n) ds) → (e : Decl) → IsIn e ds → ¬ AreNamedAlike (ConDecl k m) e
typ_alone ds k m none (ConDecl l n) i alike = none n (rw alike i)
typ_alone ds k m none _ i alike = absurd alike

pub new_typ : (ds : List Decl) (k m : ℕ) → ((n : ℕ) → ¬ IsIn (ConDecl k n) ds) → ¬ HasNamesake ds (ConDecl k m)
new_typ ds k m none h = typ_alone ds k m none h.0 h.1 h.2

const_alone : (ds : List Decl) (c : ℕ) (T : Typ) → ((U : Typ) → ¬ IsIn (ConstDecl c U) ds) → (e : Decl) → IsIn e ds → ¬ AreNamedAlike (ConstDecl c T) e
const_alone ds c T none (ConstDecl d U) i alike = none U (rw alike i)
const_alone ds c T none _ i alike = absurd alike

pub new_const : (ds : List Decl) (c : ℕ) (T : Typ) → ((U : Typ) → ¬ IsIn (ConstDecl c U) ds) → ¬ HasNamesake ds (ConstDecl c T)
new_const ds c T none h = const_alone ds c T none h.0 h.1 h.2

axiom_alone : (ds : List Decl) (x : ℕ) (A : Term) → ((s : Stated) → ¬ IsIn (fact_decl x s) ds) → (e : Decl) → IsIn e ds → ¬ AreNamedAlike (AxiomDecl x A) e
axiom_alone ds x A none (AxiomDecl y B) i alike = none (record { label = None; prop = B }) (rw alike i)
axiom_alone ds x A none (PromiseDecl y l B) i alike = none (record { label = Some l; prop = B }) (rw alike i)
axiom_alone ds x A none _ i alike = absurd alike

pub new_axiom : (ds : List Decl) (x : ℕ) (A : Term) → ((s : Stated) → ¬ IsIn (fact_decl x s) ds) → ¬ HasNamesake ds (AxiomDecl x A)
new_axiom ds x A none h = axiom_alone ds x A none h.0 h.1 h.2

promise_alone : (ds : List Decl) (x : ℕ) (l : Label) (A : Term) → ((s : Stated) → ¬ IsIn (fact_decl x s) ds) → (e : Decl) → IsIn e ds → ¬ AreNamedAlike (PromiseDecl x l A) e
promise_alone ds x l A none (AxiomDecl y B) i alike = none (record { label = None; prop = B }) (rw alike i)
promise_alone ds x l A none (PromiseDecl y m B) i alike = none (record { label = Some m; prop = B }) (rw alike i)
promise_alone ds x l A none _ i alike = absurd alike

pub new_promise : (ds : List Decl) (x : ℕ) (l : Label) (A : Term) → ((s : Stated) → ¬ IsIn (fact_decl x s) ds) → ¬ HasNamesake ds (PromiseDecl x l A)
new_promise ds x l A none h = promise_alone ds x l A none h.0 h.1 h.2

class_alone : (ds : List Decl) (k : Class) → ¬ IsDeclared (classes_of ds) k.name → (e : Decl) → IsIn e ds → ¬ AreNamedAlike (ClassDecl k) e
class_alone ds k none (ClassDecl c) i alike = none (any_of (λ j. j.name ≡ k.name) c (classes_of ds) ((declared_classes ds c).1 i) (sym alike))
class_alone ds k none _ i alike = absurd alike

pub new_class : (ds : List Decl) (k : Class) → ¬ IsDeclared (classes_of ds) k.name → ¬ HasNamesake ds (ClassDecl k)
new_class ds k none h = class_alone ds k none h.0 h.1 h.2

-- Where one has, there is.
pub old_class : (ds : List Decl) (k : Class) → IsDeclared (classes_of ds) k.name → HasNamesake ds (ClassDecl k)
old_class ds k h = let some = any_some (λ j. j.name ≡ k.name) (classes_of ds) h in (ClassDecl some.0, (declared_classes ds some.0).0 some.1, sym some.2)

pub old_typ : (ds : List Decl) (k m n : ℕ) → IsIn (ConDecl k n) ds → HasNamesake ds (ConDecl k m)
old_typ ds k m n i = (ConDecl k n, i, refl)

pub old_const : (ds : List Decl) (c : ℕ) (T U : Typ) → IsIn (ConstDecl c U) ds → HasNamesake ds (ConstDecl c T)
old_const ds c T U i = (ConstDecl c U, i, refl)

old_fact : (ds : List Decl) (x : ℕ) (l : Option Label) (A B : Term) → IsIn (fact_decl x (record { label = l; prop = B })) ds → HasNamesake ds (AxiomDecl x A)
old_fact ds x None A B m = (AxiomDecl x B, m, refl)
old_fact ds x (Some l) A B m = (PromiseDecl x l B, m, refl)

pub old_axiom : (ds : List Decl) (x : ℕ) (A : Term) (s : Stated) → IsIn (fact_decl x s) ds → HasNamesake ds (AxiomDecl x A)
old_axiom ds x A s m = old_fact ds x s.label A s.prop m

axiom_as_promise : (x : ℕ) (l : Label) (A : Term) (e : Decl) → AreNamedAlike (AxiomDecl x A) e → AreNamedAlike (PromiseDecl x l A) e
axiom_as_promise x l A (AxiomDecl y B) h = h
axiom_as_promise x l A (PromiseDecl y m B) h = h
axiom_as_promise x l A _ h = absurd h

pub old_promise : (ds : List Decl) (x : ℕ) (l : Label) (A : Term) (s : Stated) → IsIn (fact_decl x s) ds → HasNamesake ds (PromiseDecl x l A)
old_promise ds x l A s m = let h = old_axiom ds x A s m in (h.0, h.1, axiom_as_promise x l A h.0 h.2)

-- A label doesn't come before itself, so one above all others is new.
not_before_itself : (l : Label) → ¬ IsBefore l l
not_before_itself l (inl t) = absurd (omega (arith, t))
not_before_itself l (inr (e, inl c)) = absurd (omega (arith, c))
not_before_itself l (inr (e, inr p)) = let q = p.1 in absurd (omega (arith, q))

label_alone : (ds : List Decl) (x : ℕ) (l : Label) (A : Term) → IsLabelAbove ds l → (e : Decl) → IsIn e ds → ¬ AreLabelledAlike (PromiseDecl x l A) e
label_alone ds x l A above (PromiseDecl y m B) i alike = not_before_itself m (rw alike at (above y m B i))
label_alone ds x l A above _ i alike = absurd alike

pub new_label : (ds : List Decl) (x : ℕ) (l : Label) (A : Term) → IsLabelAbove ds l → (e : Decl) → IsIn e ds → ¬ AreLabelledAlike (PromiseDecl x l A) e
new_label = label_alone

-- whether nothing in the list is named like the declaration
abbrev pub is_new : List Decl → Decl → Bool
is_new ds d = list_all (λ e. not (named_alike d e)) ds

-- Where the test says so, nothing of the list is named like it.
pub not_named : (ds : List Decl) (d : Decl) → is_new ds d ≡ true → (e : Decl) → IsIn e ds → ¬ AreNamedAlike d e
not_named [] d h e m alike = absurd m
not_named (x ∷ xs) d h e m alike = elim m [
  | inl same ↦ by (named_alike d x) (first_so (not (named_alike d x)) (is_new xs d) h) (named_alike-so d x (rw (← same) alike))
  | inr n ↦ not_named xs d (second_so (not (named_alike d x)) (is_new xs d) h) e n alike
]
  where
    by : (b : Bool) → not b ≡ true → b ≡ true → ⊥
    by true h t = absurd (cc)
    by false h t = absurd (cc)

pub typ_fresh : (ds : List Decl) (k : ℕ) → is_new ds (ConDecl k 0) ≡ true → (n : ℕ) → ¬ IsIn (ConDecl k n) ds
typ_fresh ds k new n m = not_named ds (ConDecl k 0) new (ConDecl k n) m refl

pub const_fresh : (ds : List Decl) (c : ℕ) → is_new ds (ConstDecl c prop) ≡ true → (T : Typ) → ¬ IsIn (ConstDecl c T) ds
const_fresh ds c new T m = not_named ds (ConstDecl c prop) new (ConstDecl c T) m refl

pub fact_fresh : (ds : List Decl) (x : ℕ) → is_new ds (AxiomDecl x (Bound 0)) ≡ true → (s : Stated) → ¬ IsIn (fact_decl x s) ds
fact_fresh ds x new s m = not_named ds (AxiomDecl x (Bound 0)) new (fact_decl x s) m (named x s.label (Bound 0) s.prop)

-- whether nothing in the list is named like an earlier element
abbrev pub are_new : List Decl → Bool
are_new [] = true
are_new (d ∷ ds) = is_new ds d && are_new ds

-- Then no element stands in it twice, if each has a name.
pub named_apart : (ds : List Decl) → are_new ds ≡ true → Each (λ d. AreNamedAlike d d) ds → AreDistinct ds
named_apart [] h named = tt
named_apart (d ∷ ds) h named = (λ m. not_named ds d (first_so (is_new ds d) (are_new ds) h) d m named.0, named_apart ds (second_so (is_new ds d) (are_new ds) h) named.1)
