-- The algebra of a list of declarations, and of longer ones.
use Rattle.std.proofs.Common.{◌≡◌, List, [], ◌∷◌, ◌++◌, refl, ap, ◌∙◌, append-nil}
use Rattle.pure_definitions.specs.Types.Order.{Class, Arity, Algebra}
use Rattle.pure_definitions.specs.Declarations.Decl.{Decl, ClassDecl, ConDecl, ArityDecl, ConstDecl, AxiomDecl, PromiseDecl, classes_of, arities_of, algebra_of}
use Rattle.pure_term_laws.proofs.DeclLaws.{declared_classes, declared_arities}
use Rattle.pure_order_tables.specs.Arities.{with_class, with_arity, IsUnionInOrder}
use Rattle.pure_order_tables.specs.Others.{AreOthers, none, there, new, AreWithOthers}
use Rattle.pure_theory_tables.proofs.OtherLaws.{one_with_others}

pub classes-append : (ds es : List Decl) → classes_of (ds ++ es) ≡ classes_of ds ++ classes_of es
classes-append [] es = refl
classes-append (ClassDecl k ∷ ds) es = ap (λ ks. k ∷ ks) (classes-append ds es)
classes-append (_ ∷ ds) es = classes-append ds es

pub arities-append : (ds es : List Decl) → arities_of (ds ++ es) ≡ arities_of ds ++ arities_of es
arities-append [] es = refl
arities-append (ArityDecl a ∷ ds) es = ap (λ bs. a ∷ bs) (arities-append ds es)
arities-append (_ ∷ ds) es = arities-append ds es

-- The declaration is neither a class nor an arity.
abbrev pub IsPlain : Decl → Type 0
IsPlain (ClassDecl k) = ⊥
IsPlain (ArityDecl a) = ⊥
IsPlain _ = Unit {0}

no_classes : (d : Decl) → IsPlain d → classes_of (d ∷ []) ≡ []
no_classes (ClassDecl k) h = absurd h
no_classes (ArityDecl a) h = absurd h
no_classes _ h = refl

no_arities : (d : Decl) → IsPlain d → arities_of (d ∷ []) ≡ []
no_arities (ClassDecl k) h = absurd h
no_arities (ArityDecl a) h = absurd h
no_arities _ h = refl

pub plain_algebra : (ds : List Decl) (d : Decl) → IsPlain d → algebra_of (ds ++ d ∷ []) ≡ algebra_of ds
plain_algebra ds d plain =
    let cs : classes_of (ds ++ d ∷ []) ≡ classes_of ds = classes-append ds (d ∷ []) ∙ ap (λ (ks : List Class). classes_of ds ++ ks) (no_classes d plain) ∙ append-nil (classes_of ds) in
    let bs : arities_of (ds ++ d ∷ []) ≡ arities_of ds = arities-append ds (d ∷ []) ∙ ap (λ (bs : List Arity). arities_of ds ++ bs) (no_arities d plain) ∙ append-nil (arities_of ds) in
    λ i. record { classes = cs i; arities = bs i }

pub class_algebra : (ds : List Decl) (k : Class) → algebra_of (ds ++ ClassDecl k ∷ []) ≡ with_class (algebra_of ds) k
class_algebra ds k =
    let cs : classes_of (ds ++ ClassDecl k ∷ []) ≡ classes_of ds ++ k ∷ [] = classes-append ds (ClassDecl k ∷ []) in
    let bs : arities_of (ds ++ ClassDecl k ∷ []) ≡ arities_of ds = arities-append ds (ClassDecl k ∷ []) ∙ append-nil (arities_of ds) in
    λ i. record { classes = cs i; arities = bs i }

pub arity_algebra : (ds : List Decl) (a : Arity) → algebra_of (ds ++ ArityDecl a ∷ []) ≡ with_arity (algebra_of ds) a
arity_algebra ds a =
    let cs : classes_of (ds ++ ArityDecl a ∷ []) ≡ classes_of ds = classes-append ds (ArityDecl a ∷ []) ∙ append-nil (classes_of ds) in
    let bs : arities_of (ds ++ ArityDecl a ∷ []) ≡ arities_of ds ++ a ∷ [] = arities-append ds (ArityDecl a ∷ []) in
    λ i. record { classes = cs i; arities = bs i }

-- What a list of declarations has beside another, of classes and of arities.
other_classes : {xs ys zs : List Decl} → AreOthers xs ys zs → AreOthers (classes_of xs) (classes_of ys) (classes_of zs)
other_classes none = none
other_classes {xs = xs} (there {y = ClassDecl k} m h) = there ((declared_classes xs k).1 m) (other_classes h)
other_classes (there {y = ConDecl k n} m h) = other_classes h
other_classes (there {y = ArityDecl a} m h) = other_classes h
other_classes (there {y = ConstDecl c T} m h) = other_classes h
other_classes (there {y = AxiomDecl x A} m h) = other_classes h
other_classes (there {y = PromiseDecl x l A} m h) = other_classes h
other_classes {xs = xs} (new {y = ClassDecl k} m h) = new (λ i. m ((declared_classes xs k).0 i)) (other_classes h)
other_classes (new {y = ConDecl k n} m h) = other_classes h
other_classes (new {y = ArityDecl a} m h) = other_classes h
other_classes (new {y = ConstDecl c T} m h) = other_classes h
other_classes (new {y = AxiomDecl x A} m h) = other_classes h
other_classes (new {y = PromiseDecl x l A} m h) = other_classes h

other_arities : {xs ys zs : List Decl} → AreOthers xs ys zs → AreOthers (arities_of xs) (arities_of ys) (arities_of zs)
other_arities none = none
other_arities {xs = xs} (there {y = ArityDecl a} m h) = there ((declared_arities xs a).1 m) (other_arities h)
other_arities (there {y = ConDecl k n} m h) = other_arities h
other_arities (there {y = ClassDecl k} m h) = other_arities h
other_arities (there {y = ConstDecl c T} m h) = other_arities h
other_arities (there {y = AxiomDecl x A} m h) = other_arities h
other_arities (there {y = PromiseDecl x l A} m h) = other_arities h
other_arities {xs = xs} (new {y = ArityDecl a} m h) = new (λ i. m ((declared_arities xs a).0 i)) (other_arities h)
other_arities (new {y = ConDecl k n} m h) = other_arities h
other_arities (new {y = ClassDecl k} m h) = other_arities h
other_arities (new {y = ConstDecl c T} m h) = other_arities h
other_arities (new {y = AxiomDecl x A} m h) = other_arities h
other_arities (new {y = PromiseDecl x l A} m h) = other_arities h

-- The union of the algebras of two lists is that of the first with what the second has beside it.
pub united_algebra : (xs ys all : List Decl) (U : Algebra) → AreWithOthers xs ys all → IsUnionInOrder (algebra_of xs) (algebra_of ys) U → U ≡ algebra_of all
united_algebra xs ys all U w u =
    let cs : U.classes ≡ classes_of all = one_with_others (classes_of xs) (classes_of ys) U.classes (classes_of all) u.classes
    (record { others = classes_of w.others; are = other_classes w.are; joined = ap classes_of w.joined ∙ classes-append xs w.others }) in
    let bs : U.arities ≡ arities_of all = one_with_others (arities_of xs) (arities_of ys) U.arities (arities_of all) u.arities
    (record { others = arities_of w.others; are = other_arities w.are; joined = ap arities_of w.joined ∙ arities-append xs w.others }) in
    λ i. record { classes = cs i; arities = bs i }
