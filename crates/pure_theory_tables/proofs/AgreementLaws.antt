-- Declarations that are alike: what the tables tell of them.
use Rattle.std.proofs.Common.{◌≡◌, ◌⊎◌, ◌↔◌, ℕ, ◌+◌, List, [], ◌∷◌, ◌++◌, Bool, IsTrue, refl, sym, subst, inl, inr, take, add-one}
use Rattle.std.specs.Prelude.{Option, Some, None, slice_get}
use Rattle.pure_text.specs.Lists.{IsIn}
use Rattle.pure_text.proofs.ListLaws.{in_split}
use Rattle.pure_definitions.specs.Names.{Label}
use Rattle.pure_definitions.specs.Types.Typ.{Typ}
use Rattle.pure_definitions.specs.Types.Order.{Class, Arity}
use Rattle.pure_definitions.specs.Terms.Term.{Term}
use Rattle.pure_definitions.specs.Declarations.Decl.{Decl, ClassDecl, ConDecl, ArityDecl, ConstDecl, AxiomDecl, PromiseDecl, IsDeclaredClass}
use Rattle.pure_theory_tables.specs.Facts.{Stated, fact, fact_decl}
use Rattle.pure_theory_tables.specs.Agreement.{AreAlike, HasAlike, IsOfClass, AreOnce, Fits}
use Rattle.pure_theory_tables.proofs.GetLaws.{get_in, take_next}

-- Of each kind: what is declared alike.
class_of : (ds : List Decl) (k : Class) (e : Decl) → IsIn e ds → AreAlike (ClassDecl k) e → IsDeclaredClass ds k.name
class_of ds k (ClassDecl c) m h = elim h [ inl a ↦ (c, m, sym a) | inr l ↦ absurd l ]
class_of ds k _ m h = elim h [ inl a ↦ absurd a | inr l ↦ absurd l ]

pub alike_class : (ds : List Decl) (k : Class) (b : Bool) → (IsTrue b ↔ IsDeclaredClass ds k.name) → IsTrue b ↔ HasAlike ds (ClassDecl k)
alike_class ds k b h = (λ t. let c = h.0 t in (ClassDecl c.0, c.1, inl (sym c.2)), λ a. h.1 (class_of ds k a.0 a.1 a.2))

typ_of : (ds : List Decl) (k n : ℕ) (e : Decl) → IsIn e ds → AreAlike (ConDecl k n) e → (count : ℕ) × IsIn (ConDecl k count) ds
typ_of ds k n (ConDecl l c) m h = elim h [ inl a ↦ (c, rw a m) | inr l ↦ absurd l ]
typ_of ds k n _ m h = elim h [ inl a ↦ absurd a | inr l ↦ absurd l ]

pub alike_typ : (ds : List Decl) (k n : ℕ) (b : Bool) → (IsTrue b ↔ ((count : ℕ) × IsIn (ConDecl k count) ds)) → IsTrue b ↔ HasAlike ds (ConDecl k n)
alike_typ ds k n b h = (λ t. let c = h.0 t in (ConDecl k c.0, c.1, inl refl), λ a. h.1 (typ_of ds k n a.0 a.1 a.2))

const_of : (ds : List Decl) (c : ℕ) (T : Typ) (e : Decl) → IsIn e ds → AreAlike (ConstDecl c T) e → (U : Typ) × IsIn (ConstDecl c U) ds
const_of ds c T (ConstDecl d U) m h = elim h [ inl a ↦ (U, rw a m) | inr l ↦ absurd l ]
const_of ds c T _ m h = elim h [ inl a ↦ absurd a | inr l ↦ absurd l ]

pub alike_const : (ds : List Decl) (c : ℕ) (T : Typ) (b : Bool) → (IsTrue b ↔ ((U : Typ) × IsIn (ConstDecl c U) ds)) → IsTrue b ↔ HasAlike ds (ConstDecl c T)
alike_const ds c T b h = (λ t. let d = h.0 t in (ConstDecl c d.0, d.1, inl refl), λ a. h.1 (const_of ds c T a.0 a.1 a.2))

-- A fact of the list with this name.
abbrev HasFact : List Decl → ℕ → Type 0
HasFact ds x = (s : Stated) × IsIn (fact_decl x s) ds

axiom_of : (ds : List Decl) (x : ℕ) (A : Term) (e : Decl) → IsIn e ds → AreAlike (AxiomDecl x A) e → HasFact ds x
axiom_of ds x A (AxiomDecl y B) m h = elim h [ inl a ↦ (record { label = None; prop = B }, rw a m) | inr l ↦ absurd l ]
axiom_of ds x A (PromiseDecl y l B) m h = elim h [ inl a ↦ (record { label = Some l; prop = B }, rw a m) | inr l ↦ absurd l ]
axiom_of ds x A _ m h = elim h [ inl a ↦ absurd a | inr l ↦ absurd l ]

fact_alike : (x : ℕ) (l : Option Label) (A B : Term) → AreAlike (AxiomDecl x A) (fact x l B)
fact_alike x None A B = inl refl
fact_alike x (Some l) A B = inl refl

pub alike_axiom : (ds : List Decl) (x : ℕ) (A : Term) (b : Bool) → (IsTrue b ↔ ((s : Stated) × IsIn (fact_decl x s) ds)) → IsTrue b ↔ HasAlike ds (AxiomDecl x A)
alike_axiom ds x A b h = (λ t. let f = h.0 t in (fact_decl x f.0, f.1, fact_alike x f.0.label A f.0.prop), λ a. h.1 (axiom_of ds x A a.0 a.1 a.2))

-- A promise of the list with this label.
abbrev HasLabel : List Decl → Label → Type 0
HasLabel ds l = (x : ℕ) × (A : Term) × IsIn (PromiseDecl x l A) ds

promise_of : (ds : List Decl) (x : ℕ) (l : Label) (A : Term) (e : Decl) → IsIn e ds → AreAlike (PromiseDecl x l A) e → HasFact ds x ⊎ HasLabel ds l
promise_of ds x l A (AxiomDecl y B) m h = elim h [ inl a ↦ inl (record { label = None; prop = B }, rw a m) | inr n ↦ absurd n ]
promise_of ds x l A (PromiseDecl y k B) m h = elim h [ inl a ↦ inl (record { label = Some k; prop = B }, rw a m) | inr n ↦ inr (y, B, rw n m) ]
promise_of ds x l A _ m h = elim h [ inl a ↦ absurd a | inr n ↦ absurd n ]

named_promise : (x : ℕ) (l : Label) (k : Option Label) (A B : Term) → AreAlike (PromiseDecl x l A) (fact x k B)
named_promise x l None A B = inl refl
named_promise x l (Some k) A B = inl refl

pub alike_promise : (ds : List Decl) (x : ℕ) (l : Label) (A : Term) (b : Bool) → (IsTrue b ↔ (((s : Stated) × IsIn (fact_decl x s) ds) ⊎ ((y : ℕ) × (B : Term) × IsIn (PromiseDecl y l B) ds))) → IsTrue b ↔ HasAlike ds (PromiseDecl x l A)
alike_promise ds x l A b h = (
  λ t. elim (h.0 t) [
    | inl f ↦ (fact_decl x f.0, f.1, named_promise x l f.0.label A f.0.prop)
    | inr p ↦ (PromiseDecl p.0 l p.1, p.2, inr refl)
  ],
  λ a. h.1 (promise_of ds x l A a.0 a.1 a.2),
)

arity_of : (a : Arity) (e : Decl) → ¬ AreAlike (ArityDecl a) e
arity_of a e h = elim h [ inl n ↦ n | inr l ↦ l ]

-- Arities have no name.
pub arity_alone : (ds : List Decl) (a : Arity) → ¬ HasAlike ds (ArityDecl a)
arity_alone ds a h = arity_of a h.0 h.2

-- A class in the list.
pub class_here : (ds : List Decl) (i : ℕ) (d : Decl) (n : ℕ) → slice_get ds i ≡ Some d → IsOfClass d n → IsDeclaredClass ds n
class_here ds i (ClassDecl k) n held h = (k, get_in ds i (ClassDecl k) held, h)
class_here ds i _ n held h = absurd h

-- One turn of a look for a class.
pub class_absent : (ds : List Decl) (i : ℕ) (d : Decl) (n : ℕ) → slice_get ds i ≡ Some d → ¬ IsDeclaredClass (take i ds) n → ¬ IsOfClass d n → ¬ IsDeclaredClass (take (i + 1) ds) n
class_absent ds i d n held before other h =
    let longer : take (i + 1) ds ≡ take i ds ++ d ∷ [] = rw add-one (take_next ds i d held) in
    elim (in_split (ClassDecl h.0) (take i ds) (d ∷ []) (rw longer at h.1)) [
      | inl a ↦ before (h.0, a, h.2)
      | inr one ↦ elim one [ inl same ↦ other (subst (λ (x : Decl). IsOfClass x n) same h.2) | inr none ↦ absurd none ]
    ]

-- What fits: it is there, or nothing is like it.
pub fits_there : (ds : List Decl) (d : Decl) → AreOnce ds → IsIn d ds → Fits ds d
fits_there ds d once m e n alike = once d e m n alike

pub fits_alone : (ds : List Decl) (d : Decl) → ¬ HasAlike ds d → Fits ds d
fits_alone ds d none e n alike = absurd (none (e, n, alike))

pub misfit : (ds : List Decl) (d : Decl) → ¬ IsIn d ds → HasAlike ds d → ¬ Fits ds d
misfit ds d absent h fits = absent (rw (fits h.0 h.1 h.2) h.1)
