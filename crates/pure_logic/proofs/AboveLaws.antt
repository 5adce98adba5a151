-- What is certified over a content is certified over each content above it.
use Rattle.std.proofs.Common.{ℕ, List, [], ◌∷◌}
use Rattle.pure_text.specs.Lists.{IsIn}
use Rattle.pure_text.proofs.ListLaws.{each_imply, any_imply}
use Rattle.pure_definitions.specs.Types.Typ.{Typ, TFree, TVar, Con, Typs, none, also, typs_count}
use Rattle.pure_definitions.specs.Terms.Term.{Term, Const, Free, Var, Bound, Abs, App}
use Rattle.pure_definitions.specs.Types.Order.{IsInclusion, IsClassBelow, itself, along, HasClassBelow, IsSortBelow, IsOfClass, AreOfSorts, IsOfSort}
use Rattle.pure_definitions.specs.Terms.Subst.{IsSortRespecting}
use Rattle.pure_definitions.specs.Declarations.Decl.{Decl, ClassDecl, ConDecl, ArityDecl, ConstDecl, algebra_of, IsDeclaredClass}
use Rattle.pure_definitions.specs.Declarations.Certified.{IsCertifiedSort, IsCertifiedTyp, AreCertifiedTyps, IsInstance, HasCertifiedParts}
use Rattle.pure_term_laws.proofs.DeclLaws.{declared_classes, declared_arities}
use Rattle.pure_logic.specs.Content.{Content, IsBelow, IsCertifiedOf}

module _ (ds es : List Decl) (above : (d : Decl) → IsIn d ds → IsIn d es) where
  inclusion-above : (c d : ℕ) → IsInclusion (algebra_of ds) c d → IsInclusion (algebra_of es) c d
  inclusion-above c d h = (h.0, (declared_classes es h.0).1 (above (ClassDecl h.0) ((declared_classes ds h.0).0 h.1)), h.2, h.3)

  pub class_below-above : {c d : ℕ} → IsClassBelow (algebra_of ds) c d → IsClassBelow (algebra_of es) c d
  class_below-above itself = itself
  class_below-above (along {c = c} {b = b} i h) = along (inclusion-above c b i) (class_below-above h)

  has_class-above : (s : List ℕ) (c : ℕ) → HasClassBelow (algebra_of ds) s c → HasClassBelow (algebra_of es) s c
  has_class-above s c h = any_imply (λ b. IsClassBelow (algebra_of ds) b c) (λ b. IsClassBelow (algebra_of es) b c) s (λ b k. class_below-above k) h

  pub sort_below-above : (s r : List ℕ) → IsSortBelow (algebra_of ds) s r → IsSortBelow (algebra_of es) s r
  sort_below-above s r h = each_imply (HasClassBelow (algebra_of ds) s) (HasClassBelow (algebra_of es) s) r (has_class-above s) h

  mutual
    of_class-above : (T : Typ) (c : ℕ) → IsOfClass (algebra_of ds) T c → IsOfClass (algebra_of es) T c
    of_class-above (TFree x s) c h = has_class-above s c h
    of_class-above (TVar x i s) c h = has_class-above s c h
    of_class-above (Con k ts) c h =
        (h.0, (declared_arities es h.0).1 (above (ArityDecl h.0) ((declared_arities ds h.0).0 h.1)), h.2, class_below-above h.3, of_sorts-above ts h.0.domains h.4)

    of_sorts-above : (ts : Typs) (ss : List (List ℕ)) → AreOfSorts (algebra_of ds) ts ss → AreOfSorts (algebra_of es) ts ss
    of_sorts-above none [] h = tt
    of_sorts-above (also t ts) (s ∷ ss) h = (each_imply (IsOfClass (algebra_of ds) t) (IsOfClass (algebra_of es) t) s (of_class-above t) h.0, of_sorts-above ts ss h.1)
    of_sorts-above none (s ∷ ss) h = h
    of_sorts-above (also t ts) [] h = h

  pub of_sort-above : (T : Typ) (s : List ℕ) → IsOfSort (algebra_of ds) T s → IsOfSort (algebra_of es) T s
  of_sort-above T s h = each_imply (IsOfClass (algebra_of ds) T) (IsOfClass (algebra_of es) T) s (of_class-above T) h

  pub respecting-above : (typs : Typ → Typ) → IsSortRespecting (algebra_of ds) typs → IsSortRespecting (algebra_of es) typs
  respecting-above typs h = record {
    fixed = λ x s. of_sort-above (typs (TFree x s)) s (h.fixed x s);
    schematic = λ x i s. of_sort-above (typs (TVar x i s)) s (h.schematic x i s);
  }

  pub sort-above : (s : List ℕ) → IsCertifiedSort ds s → IsCertifiedSort es s
  sort-above s h = (h.0, each_imply (IsDeclaredClass ds) (IsDeclaredClass es) s (λ c k. (k.0, above (ClassDecl k.0) k.1, k.2)) h.1)

  mutual
    pub typ-above : (T : Typ) → IsCertifiedTyp ds T → IsCertifiedTyp es T
    typ-above (TFree x s) h = sort-above s h
    typ-above (TVar x i s) h = sort-above s h
    typ-above (Con k ts) h = (above (ConDecl k (typs_count ts)) h.0, typs-above ts h.1)

    typs-above : (ts : Typs) → AreCertifiedTyps ds ts → AreCertifiedTyps es ts
    typs-above none h = tt
    typs-above (also t ts) h = (typ-above t h.0, typs-above ts h.1)

  instance-above : (T U : Typ) → IsInstance ds T U → IsInstance es T U
  instance-above T U h = record { typs = h.typs; matches = h.matches; respecting = respecting-above h.typs h.respecting }

  pub parts-above : (t : Term) → HasCertifiedParts ds t → HasCertifiedParts es t
  parts-above (Const c T) h = (typ-above T h.0, (h.1.0, above (ConstDecl c h.1.0) h.1.1, instance-above h.1.0 T h.1.2))
  parts-above (Free x T) h = typ-above T h
  parts-above (Var x i T) h = typ-above T h
  parts-above (Bound n) h = tt
  parts-above (Abs T b) h = (typ-above T h.0, parts-above b h.1)
  parts-above (App f a) h = (parts-above f h.0, parts-above a h.1)

pub certified_of-above : (Q R : Content) → IsBelow Q R → (t : Term) (T : Typ) → IsCertifiedOf Q t T → IsCertifiedOf R t T
certified_of-above Q R below t T h = record {
  certified = record { parts = parts-above Q.declarations R.declarations below t h.certified.parts; typ = h.certified.typ; typed = h.certified.typed };
  typed = h.typed;
}
