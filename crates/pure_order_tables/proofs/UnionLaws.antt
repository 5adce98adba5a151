-- One turn of a union of classes.
use Rattle.std.proofs.Common.{◌≡◌, ℕ, ◌+◌, ◌<◌, List, [], ◌∷◌, ◌++◌, length, get_or, take, refl, sym, ap, inl, inr, ◌∙◌, append_assoc, append-nil, drop}
use Rattle.std.proofs.lemmas.List.{map-append}
use Rattle.pure_text.specs.Lists.{IsIn, Each}
use Rattle.pure_definitions.specs.Types.Order.{Class, Arity, Algebra}
use Rattle.pure_text.proofs.ListLaws.{each_of, any_some, each_at, split_at}
use Rattle.pure_text.proofs.LoopLaws.{longer_by}
use Rattle.pure_order_tables.specs.declared.classes.ClassEntry.{ClassEntry}
use Rattle.pure_order_tables.specs.ClassView.{class_of, classes_of}
use Rattle.pure_order_tables.specs.Others.{AreWithOthers}
use Rattle.pure_order_tables.proofs.OtherLaws.{others_kept, others_put, with_others}
use Rattle.pure_order_tables.proofs.AgreeLaws.{class_in}
use Rattle.pure_order_tables.specs.Classes.{IsDeclared, Follows, Agree}
use Rattle.pure_order_tables.specs.Arities.{IsKnown, IsUnion, IsUnionInOrder}
use Rattle.pure_order_tables.proofs.BelowLaws.{declared}

-- What an ordered list says of one of its classes.
follows_at : (done front : List Class) (k : Class) (rest : List Class) → Follows done (front ++ k ∷ rest) → (¬ IsDeclared (done ++ front) k.name) × Each (IsDeclared (done ++ front)) k.above
follows_at done [] k rest f = rw append-nil (f.0, f.1)
follows_at done (x ∷ front) k rest f = rw (sym (append_assoc done (x ∷ []) front)) (follows_at (done ++ x ∷ []) front k rest f.2)

-- the classes read so far, and the next one
pub one_more_class : (es : List ClassEntry) (i : ℕ) (e : ClassEntry) → i < length es → e ≡ get_or es i e → classes_of (take (i + 1) es) ≡ classes_of (take i es) ++ class_of e ∷ []
one_more_class es i e within read = ap classes_of (longer_by es i e within read) ∙ map-append class_of (take i es) (e ∷ [])

entry_follows : (es : List ClassEntry) (i : ℕ) (e : ClassEntry) → i < length es → e ≡ get_or es i e → Follows [] (classes_of es) → (¬ IsDeclared (classes_of (take i es)) e.name) × Each (IsDeclared (classes_of (take i es))) e.above.items
entry_follows es i e within read f =
    let whole = ap classes_of (split_at es i e within read) ∙ map-append class_of (take i es) (e ∷ drop (i + 1) es) in
    follows_at [] (classes_of (take i es)) (class_of e) (classes_of (drop (i + 1) es)) (rw whole at f)

-- What is in one list is declared in a list that has it.
declared_more : (cs ks : List Class) → ((k : Class) → IsIn k cs → IsIn k ks) → (c : ℕ) → IsDeclared cs c → IsDeclared ks c
declared_more cs ks more c m = let w = any_some (λ k. k.name ≡ c) cs m in declared ks w.0 c (more w.0 w.1) w.2

-- The classes above the next one are declared by now.
pub above_known : (table old : List Class) (es : List ClassEntry) (i : ℕ) (e : ClassEntry) → i < length es → e ≡ get_or es i e → Follows [] (classes_of es) → AreWithOthers old (classes_of (take i es)) table → Each (IsDeclared table) e.above.items
above_known table old es i e within read f w = each_of (IsDeclared table) e.above.items (λ c m. declared_more (classes_of (take i es)) table (λ k n. (with_others old (classes_of (take i es)) table w k).1 (inr n)) c (each_at (IsDeclared (classes_of (take i es))) e.above.items (entry_follows es i e within read f).1 c m))

-- A class that is declared by now was there already.
pub union_kept : (table old : List Class) (es : List ClassEntry) (i : ℕ) (e : ClassEntry) → i < length es → e ≡ get_or es i e → Follows [] (classes_of es) → Agree old (classes_of es) → IsDeclared table e.name → AreWithOthers old (classes_of (take i es)) table
    → AreWithOthers old (classes_of (take (i + 1) es)) table
union_kept table old es i e within read f agree m w = others_kept old (classes_of (take i es)) (classes_of (take (i + 1) es)) table (class_of e) (one_more_class es i e within read) there w
  where
    there : IsIn (class_of e) old
    there =
        let k = any_some (λ k. k.name ≡ e.name) table m in
        elim ((with_others old (classes_of (take i es)) table w k.0).0 k.1) [
          | inl before ↦ rw (← agree k.0 (class_of e) before (class_in es i e within read) k.2) before
          | inr earlier ↦ absurd ((entry_follows es i e within read f).0 (declared (classes_of (take i es)) k.0 e.name earlier k.2))
        ]

pub union_put : (table table' old : List Class) (es : List ClassEntry) (i : ℕ) (e : ClassEntry) → i < length es → e ≡ get_or es i e → table' ≡ table ++ class_of e ∷ [] → ¬ IsDeclared table e.name → AreWithOthers old (classes_of (take i es)) table
    → AreWithOthers old (classes_of (take (i + 1) es)) table'
union_put table table' old es i e within read longer not w = others_put old (classes_of (take i es)) (classes_of (take (i + 1) es)) table table' (class_of e) (one_more_class es i e within read) longer
    (λ m. not (declared table (class_of e) e.name ((with_others old (classes_of (take i es)) table w (class_of e)).1 (inl m)) refl)) w

-- a union in order is a union
pub union_of : (A B U : Algebra) → IsUnionInOrder A B U → IsUnion A B U
union_of A B U u = record { classes = with_others A.classes B.classes U.classes u.classes; arities = with_others A.arities B.arities U.arities u.arities }

-- the union by steps: a copy, the classes, the arities
pub union_in_order : (A B C D U : Algebra) (ks : List Class) (bs : List Arity) → C ≡ A → ks ≡ B.classes → bs ≡ B.arities → AreWithOthers C.classes ks D.classes → U.classes ≡ D.classes → AreWithOthers A.arities bs U.arities → IsUnionInOrder A B U
union_in_order A B C D U ks bs same ek eb first kept second = record { classes = rw kept (rw (same, ek) at first); arities = rw eb at second }

-- Arities that name declared classes do so with more classes declared.
pub known_more : (cs ks : List Class) → ((k : Class) → IsIn k cs → IsIn k ks) → (bs : List Arity) → Each (IsKnown cs) bs → Each (IsKnown ks) bs
known_more cs ks more bs known = each_of (IsKnown ks) bs (λ a m. (let old = each_at (IsKnown cs) bs known a m in record {
  domains = each_of (Each (IsDeclared ks)) a.domains (λ s n. each_of (IsDeclared ks) s (λ c o. declared_more cs ks more c (each_at (IsDeclared cs) s (each_at (Each (IsDeclared cs)) a.domains old.domains s n) c o)));
  class = declared_more cs ks more a.class old.class;
}))
