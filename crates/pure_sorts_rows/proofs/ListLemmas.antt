-- What the declarations from lists declare.
use Rattle.std.proofs.Common.{◌≡◌, ◌≢◌, ◌↔◌, ℕ, zero, suc, ◌+◌, ◌<◌, ◌≤◌, List, [], ◌∷◌, ◌++◌, length, get_or, refl, ap, sym, ◌∙◌, subst, inl, inr, arith}
use Rattle.std.proofs.lemmas.List.{append-nil, get_or_default}
use Rattle.std.specs.Prelude.{Some, None}
use Rattle.pure_text.specs.Lists.{IsIn}
use Rattle.pure_definitions.specs.Types.Typ.{Typ}
use Rattle.pure_definitions.specs.Types.Order.{Class, Arity, Algebra}
use Rattle.pure_definitions.specs.Declarations.Decl.{Decl, ClassDecl, ConDecl, ArityDecl, ConstDecl, classes_of, arities_of, algebra_of}
use Rattle.pure_certify.specs.Tables.{IsParams, IsConstOf, IsUnknownConst}
use Rattle.pure_sorts_rows.specs.Lists.{class_decls, arity_decls, named_decls, decls}

-- The classes and arities are those of the algebra.
classes-of_cons : (name : ℕ) (ns : List ℕ) (ds : List Decl) → classes_of (named_decls ConDecl name ns ds) ≡ classes_of ds
classes-of_cons name [] ds = refl
classes-of_cons name (n ∷ ns) ds = classes-of_cons (suc name) ns ds

classes-of_consts : (name : ℕ) (ts : List Typ) (ds : List Decl) → classes_of (named_decls ConstDecl name ts ds) ≡ classes_of ds
classes-of_consts name [] ds = refl
classes-of_consts name (t ∷ ts) ds = classes-of_consts (suc name) ts ds

classes-of_arities : (arities : List Arity) (ds : List Decl) → classes_of (arity_decls arities ds) ≡ classes_of ds
classes-of_arities [] ds = refl
classes-of_arities (a ∷ rest) ds = classes-of_arities rest ds

classes-of_classes : (ks : List Class) (ds : List Decl) → classes_of (class_decls ks ds) ≡ ks ++ classes_of ds
classes-of_classes [] ds = refl
classes-of_classes (k ∷ ks) ds = ap (λ l. k ∷ l) (classes-of_classes ks ds)

arities-of_cons : (name : ℕ) (ns : List ℕ) (ds : List Decl) → arities_of (named_decls ConDecl name ns ds) ≡ arities_of ds
arities-of_cons name [] ds = refl
arities-of_cons name (n ∷ ns) ds = arities-of_cons (suc name) ns ds

arities-of_consts : (name : ℕ) (ts : List Typ) (ds : List Decl) → arities_of (named_decls ConstDecl name ts ds) ≡ arities_of ds
arities-of_consts name [] ds = refl
arities-of_consts name (t ∷ ts) ds = arities-of_consts (suc name) ts ds

arities-of_arities : (arities : List Arity) (ds : List Decl) → arities_of (arity_decls arities ds) ≡ arities ++ arities_of ds
arities-of_arities [] ds = refl
arities-of_arities (a ∷ rest) ds = ap (λ l. a ∷ l) (arities-of_arities rest ds)

arities-of_classes : (ks : List Class) (ds : List Decl) → arities_of (class_decls ks ds) ≡ arities_of ds
arities-of_classes [] ds = refl
arities-of_classes (k ∷ ks) ds = arities-of_classes ks ds

pub algebra-listed : (A : Algebra) (counts : List ℕ) (typs : List Typ) → A ≡ algebra_of (decls A counts typs)
algebra-listed A counts typs =
    let consts = named_decls ConstDecl 0 typs [] in
    let cons = named_decls ConDecl 0 counts consts in
    let rest = arity_decls A.arities cons in
    let classes : classes_of (class_decls A.classes rest) ≡ A.classes
    = classes-of_classes A.classes rest ∙ ap (λ l. A.classes ++ l) (classes-of_arities A.arities cons ∙ classes-of_cons 0 counts consts ∙ classes-of_consts 0 typs []) ∙ append-nil A.classes in
    let arities : arities_of (class_decls A.classes rest) ≡ A.arities
    = arities-of_classes A.classes rest ∙ arities-of_arities A.arities cons ∙ ap (λ l. A.arities ++ l) (arities-of_cons 0 counts consts ∙ arities-of_consts 0 typs []) ∙ append-nil A.arities in
    λ l. record { classes = sym classes l; arities = sym arities l }

-- Behind declarations of another kind a declaration stands among the rest.
past-classes : (d : Decl) (ks : List Class) (ds : List Decl) → ((k : Class) → d ≢ ClassDecl k) → IsIn d (class_decls ks ds) ↔ IsIn d ds
past-classes d [] ds other = (λ m. m, λ m. m)
past-classes d (k ∷ ks) ds other =
    let rest = past-classes d ks ds other in
    (λ m. elim m [ inl e ↦ absurd (other k e) | inr n ↦ rest.0 n ], λ m. inr (rest.1 m))

past-arities : (d : Decl) (arities : List Arity) (ds : List Decl) → ((a : Arity) → d ≢ ArityDecl a) → IsIn d (arity_decls arities ds) ↔ IsIn d ds
past-arities d [] ds other = (λ m. m, λ m. m)
past-arities d (a ∷ more) ds other =
    let rest = past-arities d more ds other in
    (λ m. elim m [ inl e ↦ absurd (other a e) | inr n ↦ rest.0 n ], λ m. inr (rest.1 m))

past-cons : (d : Decl) (name : ℕ) (ns : List ℕ) (ds : List Decl) → ((k n : ℕ) → d ≢ ConDecl k n) → IsIn d (named_decls ConDecl name ns ds) ↔ IsIn d ds
past-cons d name [] ds other = (λ m. m, λ m. m)
past-cons d name (n ∷ ns) ds other =
    let rest = past-cons d (suc name) ns ds other in
    (λ m. elim m [ inl e ↦ absurd (other name n e) | inr i ↦ rest.0 i ], λ m. inr (rest.1 m))

-- A declaration's name and content can be read off.
con-read : (k l m n : ℕ) → ConDecl k m ≡ ConDecl l n → (k ≡ l) × (m ≡ n)
con-read k l m n e = (cc, cc)

const-read : (k l : ℕ) (T U : Typ) → ConstDecl k T ≡ ConstDecl l U → (k ≡ l) × (T ≡ U)
const-read k l T U e = (cc, cc)

-- Where names count up from a number, none below it is declared, and each above it with what stands at its place.
module _ (X : Type 0) (declares : ℕ → X → Decl) (read : (k l : ℕ) (x y : X) → declares k x ≡ declares l y → (k ≡ l) × (x ≡ y)) (ds : List Decl) (others : (k : ℕ) (x : X) → ¬ IsIn (declares k x) ds) where
  named-from : (k name : ℕ) (x : X) (xs : List X) → IsIn (declares k x) (named_decls declares name xs ds) → name ≤ k
  named-from k name x [] m = absurd (others k x m)
  named-from k name x (y ∷ ys) m = elim m [
    | inl e ↦ (let same = (read k name x y e).0 in omega arith)
    | inr n ↦ (let above = named-from k (suc name) x ys n in omega arith)
  ]

  named-at : (name i : ℕ) (x : X) (xs : List X) → IsIn (declares (name + i) x) (named_decls declares name xs ds) ↔ ((i < length xs) × (x ≡ get_or xs i x))
  named-at name i x [] = (λ m. absurd (others (name + i) x m), λ h. absurd (let below = h.0 in omega arith))
  named-at name zero x (y ∷ ys) =
      let here : name + zero ≡ name = omega arith in (
        λ m. elim m [
          | inl e ↦ (omega arith, (read (name + zero) name x y e).1)
          | inr n ↦ absurd (let above = named-from (name + zero) (suc name) x ys n in omega arith)
        ],
        λ h. inl (λ l. declares (here l) (h.1 l)),
      )
  named-at name (suc i) x (y ∷ ys) =
      let next : name + suc i ≡ suc name + i = omega arith in
      let rest = named-at (suc name) i x ys in (
        λ m. elim m [
          | inl e ↦ absurd (let same = (read (name + suc i) name x y e).0 in omega arith)
          | inr n ↦ (let inside = rest.0 (subst (λ k. IsIn (declares k x) (named_decls declares (suc name) ys ds)) next n) in let below = inside.0 in (omega arith, inside.1))
        ],
        λ h. (let below = h.0 in inr (subst (λ k. IsIn (declares k x) (named_decls declares (suc name) ys ds)) (sym next) (rest.1 (omega arith, h.1)))),
      )

no-con : (name : ℕ) (ts : List Typ) (k n : ℕ) → ¬ IsIn (ConDecl k n) (named_decls ConstDecl name ts [])
no-con name [] k n m = m
no-con name (t ∷ ts) k n m = elim m [ inl e ↦ (cc) | inr i ↦ no-con (suc name) ts k n i ]

no-const : (k : ℕ) (T : Typ) → ¬ IsIn (ConstDecl k T) []
no-const k T m = m

cons-at : (A : Algebra) (counts : List ℕ) (typs : List Typ) (k n : ℕ) → IsIn (ConDecl k n) (decls A counts typs) ↔ ((k < length counts) × (n ≡ get_or counts k n))
cons-at A counts typs k n =
    let consts = named_decls ConstDecl 0 typs [] in
    let cons = named_decls ConDecl 0 counts consts in
    let classes = past-classes (ConDecl k n) A.classes (arity_decls A.arities cons) (λ c e. cc) in
    let arities = past-arities (ConDecl k n) A.arities cons (λ a e. cc) in
    let same : 0 + k ≡ k = omega arith in
    let here = named-at ℕ ConDecl con-read consts (no-con 0 typs) 0 k n counts in (
      λ m. here.0 (subst (λ i. IsIn (ConDecl i n) cons) (sym same) (arities.0 (classes.0 m))),
      λ h. classes.1 (arities.1 (subst (λ i. IsIn (ConDecl i n) cons) same (here.1 h))),
    )

consts-at : (A : Algebra) (counts : List ℕ) (typs : List Typ) (k : ℕ) (T : Typ) → IsIn (ConstDecl k T) (decls A counts typs) ↔ ((k < length typs) × (T ≡ get_or typs k T))
consts-at A counts typs k T =
    let consts = named_decls ConstDecl 0 typs [] in
    let cons = named_decls ConDecl 0 counts consts in
    let classes = past-classes (ConstDecl k T) A.classes (arity_decls A.arities cons) (λ c e. cc) in
    let arities = past-arities (ConstDecl k T) A.arities cons (λ a e. cc) in
    let counted = past-cons (ConstDecl k T) 0 counts consts (λ l n e. cc) in
    let same : 0 + k ≡ k = omega arith in
    let here = named-at Typ ConstDecl const-read [] no-const 0 k T typs in (
      λ m. here.0 (subst (λ i. IsIn (ConstDecl i T) consts) (sym same) (counted.0 (arities.0 (classes.0 m)))),
      λ h. classes.1 (arities.1 (counted.1 (subst (λ i. IsIn (ConstDecl i T) consts) same (here.1 h)))),
    )

-- The answers of the tables.
pub params-none : (A : Algebra) (counts found : List ℕ) (typs : List Typ) (k : ℕ) → found ≡ counts → length found ≤ k → IsParams (decls A counts typs) k None
params-none A counts found typs k e h n m = let below = ((cons-at A counts typs k n).0 m).0 in let long : length found ≡ length counts = ap length e in absurd (omega arith)

pub params-some : (A : Algebra) (counts found : List ℕ) (typs : List Typ) (k r : ℕ) → found ≡ counts → k < length found → r ≡ get_or found k 0 → IsParams (decls A counts typs) k (Some r)
params-some A counts found typs k r e h is n =
    let long : length found ≡ length counts = ap length e in
    let inside : k < length counts = omega arith in
    let here : r ≡ get_or counts k n = is ∙ ap (λ l. get_or l k 0) e ∙ get_or_default counts k 0 n inside in
    let at = cons-at A counts typs k n in
    (λ m. (at.0 m).1 ∙ sym here, λ s. at.1 (inside, s ∙ here))

pub const-none : (A : Algebra) (counts : List ℕ) (typs found : List Typ) (k : ℕ) → found ≡ typs → length found ≤ k → IsUnknownConst (decls A counts typs) k
const-none A counts typs found k e h T m = let below = ((consts-at A counts typs k T).0 m).0 in let long : length found ≡ length typs = ap length e in absurd (omega arith)

pub const-some : (A : Algebra) (counts : List ℕ) (typs found : List Typ) (k : ℕ) (D : Typ) → found ≡ typs → k < length found → D ≡ get_or found k D → IsConstOf (decls A counts typs) k D
const-some A counts typs found k D e h is T =
    let long : length found ≡ length typs = ap length e in
    let inside : k < length typs = omega arith in
    let here : D ≡ get_or typs k T = is ∙ ap (λ l. get_or l k D) e ∙ get_or_default typs k D T inside in
    let at = consts-at A counts typs k T in
    (λ m. (at.0 m).1 ∙ sym here, λ s. at.1 (inside, s ∙ here))
