-- The images of the children of a node have their variable's type, and certified parts.
use Rattle.std.proofs.Common.{◌≡◌, ℕ, zero, suc, ◌+◌, ◌-◌, List, [], ◌∷◌, ◌++◌, length, Bool, true, false, refl, ap, sym, subst, ◌∙◌, arith, slice_get, Some, append_assoc}
use Rattle.std.specs.Prelude.{if◌then◌else◌}
use Rattle.std.proofs.lemmas.List.{length-append}
use Rattle.pure_text.specs.Lists.{Each, EachTwo}
use Rattle.pure_text.proofs.ListLaws.{each-append}
use Rattle.pure_definitions.specs.Types.Typ.{Typ, Con, none, also, arrow, typ_eq}
use Rattle.pure_definitions.specs.Terms.Term.{Term, Const, Free, Var, Bound, Abs, App, term_eq}
use Rattle.pure_definitions.specs.Terms.Subst.{TermBind, term_variable}
use Rattle.pure_definitions.specs.Models.Equality.{typ_eq-same}
use Rattle.pure_definitions.specs.Declarations.Decl.{algebra_of}
use Rattle.pure_definitions.specs.Declarations.Certified.{IsCertifiedTyp, HasCertifiedParts}
use Rattle.pure_term_laws.proofs.SubstLaws.{identity-respects_sorts, entries-respect_types}
use Rattle.pure_logic.specs.Content.{Content, IsBelow}
use Rattle.pure_logic.specs.PureContent.{pure_content}
use Rattle.pure_logic.proofs.ConnectiveLaws.{arrow-certified}
use Rattle.pure_equation_laws.specs.Equated.{IsTypedUnder}
use Rattle.pure_equation_laws.proofs.SidesLaws.{typed-abstraction, typed-application, typed-function, typed-body}
use Rattle.pure_unify_definitions.specs.Fronts.{front, head, below, domains, range, function_typ, applied, bounds}
use Rattle.pure_unify_definitions.specs.Node.{Single}
use Rattle.pure_unify_definitions.specs.Children.{new_arguments, image_of, imitations, projections, images}
use Rattle.pure_unify_laws.specs.Reached.{IsRespecting}
use Rattle.pure_unify_laws.proofs.SplitLaws.{under}

-- A setting of a variable respects the content where its image is certified and has the variable's type.
image-parts : (Q : Content) (b : TermBind) (v : Term) (test : Bool) → HasCertifiedParts Q.declarations b.image → HasCertifiedParts Q.declarations v → HasCertifiedParts Q.declarations (if test then b.image else v)
image-parts Q b v true h k = h
image-parts Q b v false h k = k

pub single-respects : (Q : Content) (b : TermBind) → IsTypedUnder Q.declarations [] b.image b.typ → IsRespecting Q (Single b)
single-respects Q b h = record {
  sorts = identity-respects_sorts (algebra_of Q.declarations);
  types = entries-respect_types (b ∷ []) (h.typed, tt);
  certified = record {
    fixed_typ = λ x s c. c;
    schematic_typ = λ x i s c. c;
    fixed = λ x T c. c;
    schematic = λ x i T c. image-parts Q b (Var x i T) (term_eq (term_variable b) (Var x i T)) h.parts c;
  };
}

function-of : (T : Typ) → T ≡ function_typ (domains T) (range T)
function-of (Con zero (also A (also B none))) = ap (arrow A) (function-of B)
function-of T = refl

-- A place behind the binders of abstractions.
behind-binders : (Ts cs : List Typ) (n k : ℕ) → n ≡ length Ts + k → slice_get (under Ts cs) n ≡ slice_get cs k
behind-binders [] cs n k e = let same : n ≡ k = omega arith in ap (slice_get cs) same
behind-binders (T ∷ Ts) cs n k e = behind-binders Ts (T ∷ cs) n (suc k) (omega arith)

under-append : (Ts Us cs : List Typ) → under (Ts ++ Us) cs ≡ under Us (under Ts cs)
under-append [] Us cs = refl
under-append (T ∷ Ts) Us cs = under-append Ts Us (T ∷ cs)

module _ (Q : Content) (above : IsBelow pure_content Q) where
  domains-certified : (T : Typ) → IsCertifiedTyp Q.declarations T → Each (IsCertifiedTyp Q.declarations) (domains T)
  domains-certified (Con zero (also A (also B none))) c = (c.1.0, domains-certified B c.1.1.0)
  domains-certified T c = tt

  function-certified : (Ts : List Typ) (U : Typ) → Each (IsCertifiedTyp Q.declarations) Ts → IsCertifiedTyp Q.declarations U → IsCertifiedTyp Q.declarations (function_typ Ts U)
  function-certified [] U h c = c
  function-certified (T ∷ Ts) U h c = arrow-certified Q above T (function_typ Ts U) h.0 (function-certified Ts U h.1 c)

  below-typed : (Ts bs : List Typ) (t : Term) (R : Typ) → Each (IsCertifiedTyp Q.declarations) Ts → IsTypedUnder Q.declarations (under Ts bs) t R → IsTypedUnder Q.declarations bs (below Ts t) (function_typ Ts R)
  below-typed [] bs t R c h = h
  below-typed (T ∷ Ts) bs t R c h = typed-abstraction Q.declarations bs T (function_typ Ts R) (below Ts t) c.0 (below-typed Ts (T ∷ bs) t R c.1 h)

  applied-typed : (bs Us : List Typ) (f : Term) (ts : List Term) (R : Typ) → IsTypedUnder Q.declarations bs f (function_typ Us R) → EachTwo (IsTypedUnder Q.declarations bs) ts Us → IsTypedUnder Q.declarations bs (applied f ts) R
  applied-typed bs [] f [] R h k = h
  applied-typed bs [] f (t ∷ ts) R h k = absurd k
  applied-typed bs (U ∷ Us) f [] R h k = absurd k
  applied-typed bs (U ∷ Us) f (t ∷ ts) R h k = applied-typed bs Us (App f t) ts R (typed-application Q.declarations bs U (function_typ Us R) f t h k.0) k.1

  bounds-typed : (Ts cs : List Typ) (n : ℕ) → n ≡ length Ts → EachTwo (IsTypedUnder Q.declarations (under Ts cs)) (bounds n) Ts
  bounds-typed [] cs zero e = tt
  bounds-typed [] cs (suc n) e = absurd (omega arith)
  bounds-typed (T ∷ Ts) cs zero e = absurd (omega arith)
  bounds-typed (T ∷ Ts) cs (suc n) e = (record { parts = tt; typed = behind-binders Ts (T ∷ cs) n 0 (omega arith) }, bounds-typed Ts (T ∷ cs) n (omega arith))

  new-typed : (index : ℕ) (Ts : List Typ) (name : ℕ) (Us : List Typ) → Each (IsCertifiedTyp Q.declarations) Ts → Each (IsCertifiedTyp Q.declarations) Us → EachTwo (IsTypedUnder Q.declarations (under Ts [])) (new_arguments index Ts name Us) Us
  new-typed index Ts name [] c d = tt
  new-typed index Ts name (U ∷ Us) c d = (
    applied-typed (under Ts []) Ts (Var name index (function_typ Ts U)) (bounds (length Ts)) U (record { parts = function-certified Ts U c d.0; typed = refl }) (bounds-typed Ts [] (length Ts) refl),
    new-typed index Ts (name + 1) Us c d.1,
  )

  image-typed : (index : ℕ) (T : Typ) (h : Term) (H : Typ) → IsCertifiedTyp Q.declarations T → IsCertifiedTyp Q.declarations H → IsTypedUnder Q.declarations (under (domains T) []) h H → range H ≡ range T
      → IsTypedUnder Q.declarations [] (image_of index (domains T) h (domains H)) T
  image-typed index T h H c d k e =
      let Ts = domains T in
      let as_function : IsTypedUnder Q.declarations (under Ts []) h (function_typ (domains H) (range H)) = subst (λ (U : Typ). IsTypedUnder Q.declarations (under Ts []) h U) (function-of H) k in
      let inner = applied-typed (under Ts []) (domains H) h (new_arguments index Ts 0 (domains H)) (range H) as_function (new-typed index Ts 0 (domains H) (domains-certified T c) (domains-certified H d)) in
      let whole = below-typed Ts [] (applied h (new_arguments index Ts 0 (domains H))) (range H) (domains-certified T c) inner in
      subst (λ (U : Typ). IsTypedUnder Q.declarations [] (image_of index Ts h (domains H)) U) (ap (function_typ Ts) e ∙ sym (function-of T)) whole

  placed-binder : (T : Typ) (front : List Typ) (U : Typ) (Us : List Typ) (from : ℕ) → domains T ≡ front ++ U ∷ Us → length front ≡ from → slice_get (under (domains T) []) (length (domains T) - (from + 1)) ≡ Some U
  placed-binder T front U Us from e n =
      let many : length (front ++ U ∷ Us) ≡ length front + length (U ∷ Us) = length-append front (U ∷ Us) in
      let whole : length (domains T) ≡ length (front ++ U ∷ Us) = ap length e in
      let place : length (domains T) - (from + 1) ≡ length Us + 0 = omega arith in
      let scope : under (domains T) [] ≡ under Us (U ∷ under front []) = ap (λ Ts. under Ts []) e ∙ under-append front (U ∷ Us) [] in
      subst (λ (cs : List Typ). slice_get cs (length (domains T) - (from + 1)) ≡ Some U) (sym scope) (behind-binders Us (U ∷ under front []) (length (domains T) - (from + 1)) 0 place)

  first-projection : (index : ℕ) (T U : Typ) (Us : List Typ) (from : ℕ) → IsCertifiedTyp Q.declarations T → IsCertifiedTyp Q.declarations U → slice_get (under (domains T) []) (length (domains T) - (from + 1)) ≡ Some U
      → (b : Bool) → typ_eq (range U) (range T) ≡ b → Each (λ u. IsTypedUnder Q.declarations [] u T) (projections index (domains T) (range T) (from + 1) Us)
      → Each (λ u. IsTypedUnder Q.declarations [] u T) (if b then (image_of index (domains T) (Bound (length (domains T) - (from + 1))) (domains U) ∷ projections index (domains T) (range T) (from + 1) Us) else projections index (domains T) (range T) (from + 1) Us)
  first-projection index T U Us from c d there true e more = (image-typed index T (Bound (length (domains T) - (from + 1))) U c d (record { parts = tt; typed = there }) (typ_eq-same (range U) (range T) e), more)
  first-projection index T U Us from c d there false e more = more

  -- the projections, from one place on
  projections-typed : (index : ℕ) (T : Typ) (front Us : List Typ) (from : ℕ) → IsCertifiedTyp Q.declarations T → Each (IsCertifiedTyp Q.declarations) Us → domains T ≡ front ++ Us → length front ≡ from
      → Each (λ u. IsTypedUnder Q.declarations [] u T) (projections index (domains T) (range T) from Us)
  projections-typed index T front [] from c d e n = tt
  projections-typed index T front (U ∷ Us) from c d e n =
      let there : slice_get (under (domains T) []) (length (domains T) - (from + 1)) ≡ Some U = placed-binder T front U Us from e n in
      first-projection index T U Us from c d.0 there (typ_eq (range U) (range T)) refl
      (projections-typed index T (front ++ U ∷ []) Us (from + 1) c d.1 (e ∙ sym (append_assoc front (U ∷ []) Us)) (length-append front (U ∷ []) ∙ ap (λ m. m + 1) n))

  -- The head of a term ends in the type in which the term's ends.
  front-typed : (bs : List Typ) (t : Term) (X : Typ) → IsTypedUnder Q.declarations bs t X → (F : Typ) × IsTypedUnder Q.declarations bs (front t) F × (range F ≡ range X)
  front-typed bs (App f a) X h = front-typed bs f (arrow h.typed.0 X) (typed-function Q.declarations bs X f a h)
  front-typed bs (Const c T) X h = (X, h, refl)
  front-typed bs (Free x T) X h = (X, h, refl)
  front-typed bs (Var x i T) X h = (X, h, refl)
  front-typed bs (Bound n) X h = (X, h, refl)
  front-typed bs (Abs T b) X h = (X, h, refl)

  pub head-typed : (bs : List Typ) (t : Term) (X : Typ) → IsTypedUnder Q.declarations bs t X → (cs : List Typ) × (F : Typ) × IsTypedUnder Q.declarations cs (head t) F × (range F ≡ range X)
  head-typed bs (Abs V b) X h =
      let inner = head-typed (V ∷ bs) b h.typed.0 (typed-body Q.declarations bs X V b h) in
      (inner.0, inner.1, inner.2, inner.3 ∙ ap range h.typed.2)
  head-typed bs (App f a) X h = let inner = front-typed bs (App f a) X h in (bs, inner.0, inner.1, inner.2)
  head-typed bs (Const c T) X h = (bs, X, h, refl)
  head-typed bs (Free x T) X h = (bs, X, h, refl)
  head-typed bs (Var x i T) X h = (bs, X, h, refl)
  head-typed bs (Bound n) X h = (bs, X, h, refl)

  imitations-typed : (index : ℕ) (T : Typ) (h : Term) (cs : List Typ) (H : Typ) → IsCertifiedTyp Q.declarations T → IsTypedUnder Q.declarations cs h H → range H ≡ range T → Each (λ u. IsTypedUnder Q.declarations [] u T) (imitations index (domains T) h)
  imitations-typed index T (Const c U) cs H d k e = (image-typed index T (Const c U) U d k.parts.0 (record { parts = k.parts; typed = refl }) (ap range k.typed ∙ e), tt)
  imitations-typed index T (Free x U) cs H d k e = (image-typed index T (Free x U) U d k.parts (record { parts = k.parts; typed = refl }) (ap range k.typed ∙ e), tt)
  imitations-typed index T (Var x i U) cs H d k e = tt
  imitations-typed index T (Bound p) cs H d k e = tt
  imitations-typed index T (Abs U b) cs H d k e = tt
  imitations-typed index T (App f a) cs H d k e = tt

  pub images-typed : (index : ℕ) (T : Typ) (h : Term) (cs : List Typ) (H : Typ) → IsCertifiedTyp Q.declarations T → IsTypedUnder Q.declarations cs h H → range H ≡ range T → Each (λ u. IsTypedUnder Q.declarations [] u T) (images index T h)
  images-typed index T h cs H d k e =
      each-append (λ u. IsTypedUnder Q.declarations [] u T) (imitations index (domains T) h) (projections index (domains T) (range T) 0 (domains T))
      (imitations-typed index T h cs H d k e) (projections-typed index T [] (domains T) 0 d (domains-certified T d) refl refl)
