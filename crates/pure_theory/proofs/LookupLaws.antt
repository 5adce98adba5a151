-- What look-ups find.
use Rattle.std.proofs.Common.{◌≡◌, ◌↔◌, ◌<◌, ◌+◌, ℕ, List, length, get_or, take, inl, inr, refl, ap, sym, ◌∙◌, Bool, IsTrue}
use Rattle.std.proofs.lemmas.Option.{same_Some, none-some}
use Rattle.std.specs.Prelude.{Option, Some, None, MatchOption}
use Rattle.std.specs.Option.{option_to_list}
use Rattle.pure_text.specs.Lists.{IsIn}
use Rattle.pure_text.proofs.ListLaws.{any_of, in_split, in-append_left, in-append_right}
use Rattle.pure_text.proofs.LoopLaws.{in_turn}
use Rattle.pure_definitions.specs.Names.{Label}
use Rattle.pure_definitions.specs.Types.Order.{Algebra}
use Rattle.pure_definitions.specs.Terms.Term.{Term}
use Rattle.pure_definitions.specs.Declarations.Decl.{Decl, classes_of, algebra_of, IsDeclaredClass}
use Rattle.pure_term_laws.proofs.DeclLaws.{declared_classes}
use Rattle.pure_order.specs.OrderTables.Classes.{IsDeclared}
use Rattle.pure_logic.specs.Content.{TheoryId, Content}
use Rattle.pure_theory_tables.specs.Facts.{Stated, fact, fact_decl}
use Rattle.pure_lookup.specs.Meaning.{Space, facts, IsDeclaredIn, Meaning, Declared, Built, IsVisible, IsMeant}
use Rattle.pure_lookup.specs.LookUps.{IsFoundName}
use Rattle.pure_lookup.specs.Places.{IsIndexOf}
use Rattle.pure_lookup.proofs.MeaningLaws.{found_is_declared}
use Rattle.pure_certify.proofs.PartLemmas.{declared_class}

-- What is built is a fact.
built_visible : (texts : List (List ℕ)) (Q : Content) (space : Space) (place : ℕ) (theory base : List ℕ) (k : ℕ) → IsVisible texts Q space place theory base (Built k) → space ≡ facts
built_visible texts Q space place theory base k h = elim h [ inl pure ↦ pure.2.0 | inr other ↦ absurd other.4 ]

built_fact : (texts : List (List ℕ)) (Q : Content) (space : Space) (written : List ℕ) (k : ℕ) → IsMeant texts Q space written (Built k) → space ≡ facts
built_fact texts Q space written k h = elim h [
  | inl full ↦ built_visible texts Q space full.1.place full.1.theory full.1.base k full.1.visible
  | inr base ↦ built_visible texts Q space base.1.place base.1.theory written k base.1.visible
]

not_meant : (texts : List (List ℕ)) (Q : Content) (space : Space) (written : List ℕ) → ¬ (space ≡ facts) → ((n : ℕ) → ¬ IsMeant texts Q space written (Declared n)) → (m : Meaning) → ¬ IsMeant texts Q space written m
not_meant texts Q space written other none (Declared n) h = none n h
not_meant texts Q space written other none (Built k) h = other (built_fact texts Q space written k h)

pub found_name : (texts : List (List ℕ)) (Q : Content) (space : Space) (written : List ℕ) (o : Option ℕ) → ¬ (space ≡ facts)
    → MatchOption o ((n : ℕ) → ¬ IsMeant texts Q space written (Declared n)) (λ n. IsMeant texts Q space written (Declared n)) → IsFoundName texts Q space written o
found_name texts Q space written None other h = not_meant texts Q space written other h
found_name texts Q space written (Some n) other h = h

-- A fact is declared exactly where an axiom or a promise is.
fact-declared : (ds : List Decl) (x : ℕ) (l : Option Label) (A : Term) → IsIn (fact x l A) ds → IsDeclaredIn facts ds x
fact-declared ds x None A m = inl (A, m)
fact-declared ds x (Some l) A m = inr (l, A, m)

pub declared_fact : (ds : List Decl) (x : ℕ) (s : Stated) → IsIn (fact_decl x s) ds → IsDeclaredIn facts ds x
declared_fact ds x s m = fact-declared ds x s.label s.prop m

pub undeclared_fact : (ds : List Decl) (x : ℕ) → ((s : Stated) → ¬ IsIn (fact_decl x s) ds) → ¬ IsDeclaredIn facts ds x
undeclared_fact ds x none h = elim h [ inl a ↦ none (record { label = None; prop = a.0 }) a.1 | inr p ↦ none (record { label = Some p.0; prop = p.1 }) p.2 ]

-- Nothing that is declared under a name is meant where no fact has the name.
pub fact_is_declared : (texts : List (List ℕ)) (Q : Content) (written : List ℕ) (x : ℕ) → IsMeant texts Q facts written (Declared x) → ((s : Stated) → ¬ IsIn (fact_decl x s) Q.declarations) → ⊥
fact_is_declared texts Q written x h none = undeclared_fact Q.declarations x none (found_is_declared texts Q facts written x h)

-- A class is declared where an order says so that has the list's classes.
pub class_declared : (ds : List Decl) (A : Algebra) (c : ℕ) (b : Bool) → A ≡ algebra_of ds → IsTrue b ↔ IsDeclared A.classes c → IsTrue b ↔ IsDeclaredClass ds c
class_declared ds A c b same h = (forth, back)
  where
    told : IsTrue b ↔ IsDeclared (classes_of ds) c
    told = rw same at h

    forth : IsTrue b → IsDeclaredClass ds c
    forth t = declared_class ds c (told.0 t)

    back : IsDeclaredClass ds c → IsTrue b
    back d = told.1 (any_of (λ k. k.name ≡ c) d.0 (classes_of ds) ((declared_classes ds d.0).1 d.1) d.2)

-- The theory's own name.
pub own_none : (o : Option TheoryId) (x : ℕ) → o ≡ None → (t : TheoryId) → o ≡ Some t → ¬ (t.name ≡ x)
own_none o x e t f n = none-some t (sym e ∙ f)

pub own_other : (o : Option TheoryId) (own : TheoryId) (x : ℕ) → o ≡ Some own → ¬ (own.name ≡ x) → (t : TheoryId) → o ≡ Some t → ¬ (t.name ≡ x)
own_other o own x e n t f p = n (ap (λ (v : TheoryId). v.name) (same_Some own t (sym e ∙ f)) ∙ p)

in_own : (o : Option TheoryId) (t : TheoryId) → IsIn t (option_to_list o) → o ≡ Some t
in_own None t m = absurd m
in_own (Some u) t m = elim m [ inl e ↦ ap Some (sym e) | inr n ↦ absurd n ]

-- The index of a theory by its name: its own, or an ancestor's.
module _ (Q : Content) (x : ℕ) where
  pub index_own : (index : ℕ) → ((t : TheoryId) × (Q.own ≡ Some t) × (t.name ≡ x) × (t.index ≡ index)) → IsIndexOf Q x (Some index)
  index_own index h = (h.0, in-append_right h.0 Q.ancestors (option_to_list Q.own) (rw h.1 (inl refl)), h.2, h.3)

  pub index_ancestor : (index : ℕ) → ((t : TheoryId) × IsIn t Q.ancestors × (t.name ≡ x) × (t.index ≡ index)) → IsIndexOf Q x (Some index)
  index_ancestor index h = (h.0, in-append_left h.0 Q.ancestors (option_to_list Q.own) h.1, h.2, h.3)

  pub index_none : ((t : TheoryId) → Q.own ≡ Some t → ¬ (t.name ≡ x)) → ((t : TheoryId) → IsIn t Q.ancestors → ¬ (t.name ≡ x)) → IsIndexOf Q x None
  index_none own ancestors t m n = elim (in_split t Q.ancestors (option_to_list Q.own) m) [ inl a ↦ ancestors t a n | inr b ↦ own t (in_own Q.own t b) n ]

-- No theory so far has the name.
pub name_next : (ts : List TheoryId) (x i : ℕ) (u : TheoryId) → i < length ts → u ≡ get_or ts i u → ((t : TheoryId) → IsIn t (take i ts) → ¬ (t.name ≡ x)) → ¬ (u.name ≡ x) → (t : TheoryId) → IsIn t (take (i + 1) ts) → ¬ (t.name ≡ x)
name_next ts x i u short is before here t m n = elim ((in_turn t ts i u short is).0 m) [ inl old ↦ before t old n | inr e ↦ here (ap (λ (v : TheoryId). v.name) (sym e) ∙ n) ]
