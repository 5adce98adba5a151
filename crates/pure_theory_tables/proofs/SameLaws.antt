-- What the tests of declarations for being the same say.
use Rattle.std.proofs.Common.{◌≡◌, ◌↔◌, ℕ, List, [], ◌∷◌, Bool, true, ◌&&◌, nat_eq, IsTrue, refl, ap, sym, ◌∙◌}
use Rattle.std.proofs.lemmas.Bool.{eq-eqb, eqb-true}
use Rattle.std.proofs.lemmas.Option.{same_Some}
use Rattle.std.specs.Prelude.{Option, Some}
use Rattle.std.specs.Cmp.{first_so, second_so}
use Rattle.std.specs.Cmp.Derive.{both_true}
use Rattle.std.specs.Cmp.Lexicographic.{pointwise}
use Rattle.pure_text.specs.Lists.{IsIn}
use Rattle.pure_definitions.specs.Names.{Label}
use Rattle.pure_definitions.specs.Types.Typ.{sort_eq, Typ, typ_eq}
use Rattle.pure_definitions.specs.Terms.Term.{Term, term_eq}
use Rattle.pure_definitions.specs.Models.Equality.{sort_eq-same, sort_eq-itself, typ_eq-same, typ_eq-itself, term_eq-same, term_eq-itself}
use Rattle.pure_definitions.specs.Declarations.Decl.{Decl, ClassDecl, ConDecl, ArityDecl, ConstDecl, AxiomDecl, PromiseDecl}
use Rattle.pure_theory_tables.specs.Same.{label_eq, decl_eq}

pub label_same : (l m : Label) → label_eq l m ≡ true → l ≡ m
label_same l m h =
    let rest = second_so (nat_eq l.theory m.theory) (nat_eq l.command m.command && nat_eq l.part m.part) h in
    let p = eqb-true l.theory m.theory (first_so (nat_eq l.theory m.theory) (nat_eq l.command m.command && nat_eq l.part m.part) h) in
    let q = eqb-true l.command m.command (first_so (nat_eq l.command m.command) (nat_eq l.part m.part) rest) in
    let r = eqb-true l.part m.part (second_so (nat_eq l.command m.command) (nat_eq l.part m.part) rest) in
    λ i. record { theory = p i; command = q i; part = r i }

pub label_itself : (l : Label) → label_eq l l ≡ true
label_itself l = both_true (eq-eqb l.theory l.theory refl) (both_true (eq-eqb l.command l.command refl) (eq-eqb l.part l.part refl))

sorts_same : (ss rs : List (List ℕ)) → pointwise sort_eq ss rs ≡ true → ss ≡ rs
sorts_same [] [] h = refl
sorts_same (s ∷ ss) (r ∷ rs) h =
    let p = sort_eq-same s r (first_so (sort_eq s r) (pointwise sort_eq ss rs) h) in
    let q = sorts_same ss rs (second_so (sort_eq s r) (pointwise sort_eq ss rs) h) in
    λ i. p i ∷ q i
sorts_same [] (r ∷ rs) h = absurd (cc)
sorts_same (s ∷ ss) [] h = absurd (cc)

sorts_itself : (ss : List (List ℕ)) → pointwise sort_eq ss ss ≡ true
sorts_itself [] = refl
sorts_itself (s ∷ ss) = both_true (sort_eq-itself s) (sorts_itself ss)

decl_same : (d e : Decl) → decl_eq d e ≡ true → d ≡ e
decl_same (ClassDecl c) (ClassDecl d) h =
    let p = eqb-true c.name d.name (first_so (nat_eq c.name d.name) (sort_eq c.above d.above) h) in
    let q = sort_eq-same c.above d.above (second_so (nat_eq c.name d.name) (sort_eq c.above d.above) h) in
    λ i. ClassDecl (record { name = p i; above = q i })
decl_same (ConDecl k m) (ConDecl l n) h =
    let p = eqb-true k l (first_so (nat_eq k l) (nat_eq m n) h) in
    let q = eqb-true m n (second_so (nat_eq k l) (nat_eq m n) h) in
    λ i. ConDecl (p i) (q i)
decl_same (ArityDecl a) (ArityDecl b) h =
    let p = eqb-true a.con b.con (first_so (nat_eq a.con b.con) (nat_eq a.class b.class && pointwise sort_eq a.domains b.domains) h) in
    let rest = second_so (nat_eq a.con b.con) (nat_eq a.class b.class && pointwise sort_eq a.domains b.domains) h in
    let q = eqb-true a.class b.class (first_so (nat_eq a.class b.class) (pointwise sort_eq a.domains b.domains) rest) in
    let r = sorts_same a.domains b.domains (second_so (nat_eq a.class b.class) (pointwise sort_eq a.domains b.domains) rest) in
    λ i. ArityDecl (record { con = p i; domains = r i; class = q i })
decl_same (ConstDecl c T) (ConstDecl d U) h =
    let p = eqb-true c d (first_so (nat_eq c d) (typ_eq T U) h) in
    let q = typ_eq-same T U (second_so (nat_eq c d) (typ_eq T U) h) in
    λ i. ConstDecl (p i) (q i)
decl_same (AxiomDecl x A) (AxiomDecl y B) h =
    let p = eqb-true x y (first_so (nat_eq x y) (term_eq A B) h) in
    let q = term_eq-same A B (second_so (nat_eq x y) (term_eq A B) h) in
    λ i. AxiomDecl (p i) (q i)
decl_same (PromiseDecl x l A) (PromiseDecl y m B) h =
    let p = eqb-true x y (first_so (nat_eq x y) (label_eq l m && term_eq A B) h) in
    let rest = second_so (nat_eq x y) (label_eq l m && term_eq A B) h in
    let q = label_same l m (first_so (label_eq l m) (term_eq A B) rest) in
    let r = term_eq-same A B (second_so (label_eq l m) (term_eq A B) rest) in
    λ i. PromiseDecl (p i) (q i) (r i)
decl_same _ _ h = absurd (cc)

decl_itself : (d : Decl) → decl_eq d d ≡ true
decl_itself (ClassDecl c) = both_true (eq-eqb c.name c.name refl) (sort_eq-itself c.above)
decl_itself (ConDecl k m) = both_true (eq-eqb k k refl) (eq-eqb m m refl)
decl_itself (ArityDecl a) = both_true (eq-eqb a.con a.con refl) (both_true (eq-eqb a.class a.class refl) (sorts_itself a.domains))
decl_itself (ConstDecl c T) = both_true (eq-eqb c c refl) (typ_eq-itself T)
decl_itself (AxiomDecl x A) = both_true (eq-eqb x x refl) (term_eq-itself A)
decl_itself (PromiseDecl x l A) = both_true (eq-eqb x x refl) (both_true (label_itself l) (term_eq-itself A))

-- A place holds the declaration exactly where the test of what it holds says so.
pub told_at : (held : Option Decl) (d e : Decl) (b : Bool) → held ≡ Some d → b ≡ decl_eq d e → IsTrue b ↔ (held ≡ Some e)
told_at held d e b is test = (λ t. is ∙ ap Some (decl_same d e (sym test ∙ t)), λ h. test ∙ ap (decl_eq d) (same_Some e d (sym h ∙ is)) ∙ decl_itself d)

-- Entries that pass the test hold the same declaration.
pub told_same : (d e : Decl) (b : Bool) → b ≡ decl_eq d e → IsTrue b → d ≡ e
told_same d e b test t = decl_same d e (sym test ∙ t)

-- What the list has of a kind and a name is one value, which a test compares.
module _ {V : Type 0} (decl : V → Decl) (ds : List Decl) (v w : V) (b : Bool) (is : (u : V) → IsIn (decl u) ds ↔ (u ≡ v)) where
  has_by : (b ≡ true → v ≡ w) → (v ≡ w → b ≡ true) → IsTrue b ↔ IsIn (decl w) ds
  has_by there back = (λ t. (is w).1 (sym (there t)), λ m. back (sym ((is w).0 m)))

pub has_number : (decl : ℕ → Decl) (ds : List Decl) (v w : ℕ) (b : Bool) → ((u : ℕ) → IsIn (decl u) ds ↔ (u ≡ v)) → b ≡ nat_eq v w → IsTrue b ↔ IsIn (decl w) ds
has_number decl ds v w b is test = has_by decl ds v w b is (λ t. eqb-true v w (sym test ∙ t)) (λ e. test ∙ eq-eqb v w e)

pub has_typ : (decl : Typ → Decl) (ds : List Decl) (T U : Typ) (b : Bool) → ((V : Typ) → IsIn (decl V) ds ↔ (V ≡ T)) → b ≡ typ_eq T U → IsTrue b ↔ IsIn (decl U) ds
has_typ decl ds T U b is test = has_by decl ds T U b is (λ t. typ_eq-same T U (sym test ∙ t)) (λ e. test ∙ ap (typ_eq T) (sym e) ∙ typ_eq-itself T)

pub has_term : (decl : Term → Decl) (ds : List Decl) (A B : Term) (b : Bool) → ((C : Term) → IsIn (decl C) ds ↔ (C ≡ A)) → b ≡ term_eq A B → IsTrue b ↔ IsIn (decl B) ds
has_term decl ds A B b is test = has_by decl ds A B b is (λ t. term_eq-same A B (sym test ∙ t)) (λ e. test ∙ ap (term_eq A) (sym e) ∙ term_eq-itself A)
