-- The algebra of declarations.
use Rattle.std.proofs.Common.{List, [], ◌∷◌, inl, inr, ap, ◌↔◌}
use Rattle.pure_text.specs.Lists.{IsIn}
use Rattle.pure_definitions.specs.Types.Order.{Class, Arity}
use Rattle.pure_definitions.specs.Declarations.Decl.{Decl, ClassDecl, ArityDecl, classes_of, arities_of}

class-declared : (ds : List Decl) (k : Class) → IsIn k (classes_of ds) → IsIn (ClassDecl k) ds
class-declared [] k m = m
class-declared (ClassDecl c ∷ ds) k m = elim m [ inl e ↦ inl (ap ClassDecl e) | inr n ↦ inr (class-declared ds k n) ]
class-declared (_ ∷ ds) k m = inr (class-declared ds k m)

declared-class : (ds : List Decl) (k : Class) → IsIn (ClassDecl k) ds → IsIn k (classes_of ds)
declared-class [] k m = m
declared-class (ClassDecl c ∷ ds) k m = elim m [ inl e ↦ inl (cc) | inr n ↦ inr (declared-class ds k n) ]
declared-class (_ ∷ ds) k m = elim m [ inl e ↦ absurd (cc) | inr n ↦ declared-class ds k n ]

arity-declared : (ds : List Decl) (a : Arity) → IsIn a (arities_of ds) → IsIn (ArityDecl a) ds
arity-declared [] a m = m
arity-declared (ArityDecl b ∷ ds) a m = elim m [ inl e ↦ inl (ap ArityDecl e) | inr n ↦ inr (arity-declared ds a n) ]
arity-declared (_ ∷ ds) a m = inr (arity-declared ds a m)

declared-arity : (ds : List Decl) (a : Arity) → IsIn (ArityDecl a) ds → IsIn a (arities_of ds)
declared-arity [] a m = m
declared-arity (ArityDecl b ∷ ds) a m = elim m [ inl e ↦ inl (cc) | inr n ↦ inr (declared-arity ds a n) ]
declared-arity (_ ∷ ds) a m = elim m [ inl e ↦ absurd (cc) | inr n ↦ declared-arity ds a n ]

pub declared_classes : (ds : List Decl) (k : Class) → IsIn k (classes_of ds) ↔ IsIn (ClassDecl k) ds
declared_classes ds k = (class-declared ds k, declared-class ds k)

pub declared_arities : (ds : List Decl) (a : Arity) → IsIn a (arities_of ds) ↔ IsIn (ArityDecl a) ds
declared_arities ds a = (arity-declared ds a, declared-arity ds a)
