-- Weakening: what a tree concludes over a content, a tree concludes over each content above it.
use Rattle.std.proofs.Common.{◌≡◌, ℕ, List, [], ◌++◌, ap, refl}
use Rattle.pure_definitions.specs.Types.Typ.{Typ, TFree, TVar, Con, Typs, none, also, arrow, prop}
use Rattle.pure_definitions.specs.Terms.Term.{Term, Free, Var}
use Rattle.pure_definitions.specs.Terms.Typing.{HasType}
use Rattle.pure_definitions.specs.Types.Order.{IsOfSort}
use Rattle.pure_definitions.specs.Terms.Subst.{typ_instance, typs_instance, IsSortRespecting, IsTypeRespecting}
use Rattle.pure_definitions.specs.Declarations.Decl.{Decl, AxiomDecl, PromiseDecl, algebra_of}
use Rattle.pure_definitions.specs.Declarations.Certified.{IsCertifiedSort, IsCertifiedTyp, AreCertifiedTyps, HasCertifiedParts, AreImagesCertified}
use Rattle.pure_definitions.proofs.OrderLaws.{sort_below-itself}
use Rattle.pure_term_laws.proofs.MapLaws.{typs_count-instance}
use Rattle.pure_logic.specs.Connectives.{all, imp}
use Rattle.pure_logic.specs.Content.{Content, IsContent, IsBelow, IsWellFormed}
use Rattle.pure_logic.specs.Tree.{Tree, Axiom, Promise, Assume, AllIntro, AllElim, ImpliesIntro, ImpliesElim, Beta, Refl, Subst, Ext, Iff, without, hyps_of, rests_of}
use Rattle.pure_logic.specs.Concludes.{AreRespecting, Concludes}
use Rattle.pure_logic.specs.Derivable.{Theorem, IsDerivable}
use Rattle.pure_logic.proofs.AboveLaws.{respecting-above, typ-above, parts-above, certified_of-above}
use Rattle.pure_logic.proofs.KnownLaws.{chosen-has, decided_sort, decided_typ, known-certified, restricted_typs, restricted_terms, typ_instance-restricted, term_instance-restricted}
use Rattle.pure_text.proofs.ListLaws.{each_at}

-- A type map with certified images makes certified types of certified ones.
mutual
  pub typ_instance-certified : (ds : List Decl) (typs : Typ → Typ) → ((x : ℕ) (s : List ℕ) → IsCertifiedSort ds s → IsCertifiedTyp ds (typs (TFree x s)))
      → ((x i : ℕ) (s : List ℕ) → IsCertifiedSort ds s → IsCertifiedTyp ds (typs (TVar x i s))) → (T : Typ) → IsCertifiedTyp ds T → IsCertifiedTyp ds (typ_instance typs T)
  typ_instance-certified ds typs f g (TFree x s) h = f x s h
  typ_instance-certified ds typs f g (TVar x i s) h = g x i s h
  typ_instance-certified ds typs f g (Con k ts) h = (rw (typs_count-instance typs ts) h.0, typs_instance-certified ds typs f g ts h.1)

  typs_instance-certified : (ds : List Decl) (typs : Typ → Typ) → ((x : ℕ) (s : List ℕ) → IsCertifiedSort ds s → IsCertifiedTyp ds (typs (TFree x s)))
      → ((x i : ℕ) (s : List ℕ) → IsCertifiedSort ds s → IsCertifiedTyp ds (typs (TVar x i s))) → (ts : Typs) → AreCertifiedTyps ds ts → AreCertifiedTyps ds (typs_instance typs ts)
  typs_instance-certified ds typs f g none h = tt
  typs_instance-certified ds typs f g (also t ts) h = (typ_instance-certified ds typs f g t h.0, typs_instance-certified ds typs f g ts h.1)

-- The maps that respect Q, read at what Q knows alone, respect each content above Q.
module _ (Q R : Content) (below : IsBelow Q R) (typs : Typ → Typ) (terms : Term → Term) (h : AreRespecting Q typs terms) where
  restricted-sorts : IsSortRespecting (algebra_of R.declarations) (restricted_typs Q.declarations typs)
  restricted-sorts =
      let above = respecting-above Q.declarations R.declarations below typs h.sorts in
      record {
        fixed = λ x s. chosen-has (λ T. IsOfSort (algebra_of R.declarations) T s) (decided_sort Q.declarations s) (typs (TFree x s)) (TFree x s) (λ k. above.fixed x s) (sort_below-itself (algebra_of R.declarations) s);
        schematic = λ x i s. chosen-has (λ T. IsOfSort (algebra_of R.declarations) T s) (decided_sort Q.declarations s) (typs (TVar x i s)) (TVar x i s) (λ k. above.schematic x i s) (sort_below-itself (algebra_of R.declarations) s);
      }

  restricted-types : IsTypeRespecting (restricted_typs Q.declarations typs) (restricted_terms Q.declarations typs terms)
  restricted-types = record {
    fixed = λ x T. chosen-has (λ t. HasType [] t (typ_instance (restricted_typs Q.declarations typs) T)) (decided_typ Q.declarations T) (terms (Free x T)) (Free x (typ_instance (restricted_typs Q.declarations typs) T))
        (λ k. rw (typ_instance-restricted Q.declarations typs T k) (h.types.fixed x T)) refl;
    schematic = λ x i T. chosen-has (λ t. HasType [] t (typ_instance (restricted_typs Q.declarations typs) T)) (decided_typ Q.declarations T) (terms (Var x i T)) (Var x i (typ_instance (restricted_typs Q.declarations typs) T))
        (λ k. rw (typ_instance-restricted Q.declarations typs T k) (h.types.schematic x i T)) refl;
  }

  fixed_typ-certified : (x : ℕ) (s : List ℕ) → IsCertifiedSort R.declarations s → IsCertifiedTyp R.declarations (restricted_typs Q.declarations typs (TFree x s))
  fixed_typ-certified x s c = chosen-has (IsCertifiedTyp R.declarations) (decided_sort Q.declarations s) (typs (TFree x s)) (TFree x s)
      (λ k. typ-above Q.declarations R.declarations below (typs (TFree x s)) (h.certified.fixed_typ x s (c.0, k))) c

  schematic_typ-certified : (x i : ℕ) (s : List ℕ) → IsCertifiedSort R.declarations s → IsCertifiedTyp R.declarations (restricted_typs Q.declarations typs (TVar x i s))
  schematic_typ-certified x i s c = chosen-has (IsCertifiedTyp R.declarations) (decided_sort Q.declarations s) (typs (TVar x i s)) (TVar x i s)
      (λ k. typ-above Q.declarations R.declarations below (typs (TVar x i s)) (h.certified.schematic_typ x i s (c.0, k))) c

  restricted-certified : AreImagesCertified R.declarations (restricted_typs Q.declarations typs) (restricted_terms Q.declarations typs terms)
  restricted-certified =
      let instance = typ_instance-certified R.declarations (restricted_typs Q.declarations typs) fixed_typ-certified schematic_typ-certified in
      record {
        fixed_typ = fixed_typ-certified;
        schematic_typ = schematic_typ-certified;
        fixed = λ x T c. chosen-has (HasCertifiedParts R.declarations) (decided_typ Q.declarations T) (terms (Free x T)) (Free x (typ_instance (restricted_typs Q.declarations typs) T))
            (λ k. parts-above Q.declarations R.declarations below (terms (Free x T)) (h.certified.fixed x T (known-certified Q.declarations R.declarations T k c))) (instance T c);
        schematic = λ x i T c. chosen-has (HasCertifiedParts R.declarations) (decided_typ Q.declarations T) (terms (Var x i T)) (Var x i (typ_instance (restricted_typs Q.declarations typs) T))
            (λ k. parts-above Q.declarations R.declarations below (terms (Var x i T)) (h.certified.schematic x i T (known-certified Q.declarations R.declarations T k c))) (instance T c);
      }

  restricted-respecting : AreRespecting R (restricted_typs Q.declarations typs) (restricted_terms Q.declarations typs terms)
  restricted-respecting = record { sorts = restricted-sorts; types = restricted-types; certified = restricted-certified }

-- the tree with each map of an axiom or a promise read at what the declarations know alone
abbrev pub restricted : List Decl → Tree → Tree
restricted ds (Axiom n typs terms) = Axiom n (restricted_typs ds typs) (restricted_terms ds typs terms)
restricted ds (Promise l typs terms) = Promise l (restricted_typs ds typs) (restricted_terms ds typs terms)
restricted ds (Assume A) = Assume A
restricted ds (AllIntro x d) = AllIntro x (restricted ds d)
restricted ds (AllElim t d) = AllElim t (restricted ds d)
restricted ds (ImpliesIntro A d) = ImpliesIntro A (restricted ds d)
restricted ds (ImpliesElim d e) = ImpliesElim (restricted ds d) (restricted ds e)
restricted ds (Beta t) = Beta t
restricted ds (Refl t) = Refl t
restricted ds (Subst f x y) = Subst f x y
restricted ds (Ext f g) = Ext f g
restricted ds (Iff A B) = Iff A B

hyps-restricted : (ds : List Decl) (d : Tree) → hyps_of (restricted ds d) ≡ hyps_of d
hyps-restricted ds (Axiom n typs terms) = refl
hyps-restricted ds (Promise l typs terms) = refl
hyps-restricted ds (Assume A) = refl
hyps-restricted ds (AllIntro x d) = hyps-restricted ds d
hyps-restricted ds (AllElim t d) = hyps-restricted ds d
hyps-restricted ds (ImpliesIntro A d) = ap (without A) (hyps-restricted ds d)
hyps-restricted ds (ImpliesElim d e) = λ l. hyps-restricted ds d l ++ hyps-restricted ds e l
hyps-restricted ds (Beta t) = refl
hyps-restricted ds (Refl t) = refl
hyps-restricted ds (Subst f x y) = refl
hyps-restricted ds (Ext f g) = refl
hyps-restricted ds (Iff A B) = refl

rests-restricted : (ds : List Decl) (d : Tree) → rests_of (restricted ds d) ≡ rests_of d
rests-restricted ds (Axiom n typs terms) = refl
rests-restricted ds (Promise l typs terms) = refl
rests-restricted ds (Assume A) = refl
rests-restricted ds (AllIntro x d) = rests-restricted ds d
rests-restricted ds (AllElim t d) = rests-restricted ds d
rests-restricted ds (ImpliesIntro A d) = rests-restricted ds d
rests-restricted ds (ImpliesElim d e) = λ l. rests-restricted ds d l ++ rests-restricted ds e l
rests-restricted ds (Beta t) = refl
rests-restricted ds (Refl t) = refl
rests-restricted ds (Subst f x y) = refl
rests-restricted ds (Ext f g) = refl
rests-restricted ds (Iff A B) = refl

module _ (Q R : Content) (q : IsContent Q) (below : IsBelow Q R) where
  restricted-concludes : (d : Tree) (C : Term) → Concludes Q d C → Concludes R (restricted Q.declarations d) C
  restricted-concludes (Axiom n typs terms) C h =
      let statement = each_at (IsWellFormed Q) Q.declarations q.well_formed (AxiomDecl n h.0) h.1 in
      (h.0, below (AxiomDecl n h.0) h.1, restricted-respecting Q R below typs terms h.2, rw (term_instance-restricted Q.declarations typs terms h.0 statement.proposition.certified.parts) h.3)
  restricted-concludes (Promise l typs terms) C h =
      let statement = each_at (IsWellFormed Q) Q.declarations q.well_formed (PromiseDecl h.0 l h.1) h.2 in
      (h.0, h.1, below (PromiseDecl h.0 l h.1) h.2, restricted-respecting Q R below typs terms h.3, rw (term_instance-restricted Q.declarations typs terms h.1 statement.proposition.certified.parts) h.4)
  restricted-concludes (Assume A) C h = (certified_of-above Q R below A prop h.0, h.1)
  restricted-concludes (AllIntro x d) C h =
      (h.0, h.1, restricted-concludes d h.1 h.2, h.3, certified_of-above Q R below x h.0 h.4, rw (hyps-restricted Q.declarations d) h.5, h.6)
  restricted-concludes (AllElim t d) C h = (h.0, h.1, restricted-concludes d (all h.0 h.1) h.2, certified_of-above Q R below t h.0 h.3, h.4)
  restricted-concludes (ImpliesIntro A d) C h = (h.0, restricted-concludes d h.0 h.1, certified_of-above Q R below A prop h.2, h.3)
  restricted-concludes (ImpliesElim d e) C h = (h.0, restricted-concludes d (imp h.0 C) h.1, restricted-concludes e h.0 h.2)
  restricted-concludes (Beta t) C h = (h.0, h.1, h.2, h.3, h.4, certified_of-above Q R below t h.1 h.5, h.6)
  restricted-concludes (Refl t) C h = (h.0, certified_of-above Q R below t h.0 h.1, h.2)
  restricted-concludes (Subst f x y) C h =
      (h.0, h.1, h.2, certified_of-above Q R below f (arrow h.0 prop) h.3, certified_of-above Q R below x h.0 h.4, certified_of-above Q R below y h.0 h.5, h.6)
  restricted-concludes (Ext f g) C h = (h.0, h.1, certified_of-above Q R below f (arrow h.0 h.1) h.2, certified_of-above Q R below g (arrow h.0 h.1) h.3, h.4)
  restricted-concludes (Iff A B) C h = (certified_of-above Q R below A prop h.0, certified_of-above Q R below B prop h.1, h.2)

pub weakening_of_trees : (Q R : Content) → IsContent Q → IsBelow Q R → (d : Tree) (A : Term) → Concludes Q d A
    → (e : Tree) × Concludes R e A × (hyps_of e ≡ hyps_of d) × (rests_of e ≡ rests_of d)
weakening_of_trees Q R q below d A h =
    (restricted Q.declarations d, restricted-concludes Q R q below d A h, hyps-restricted Q.declarations d, rests-restricted Q.declarations d)

pub weakening_of_derivable : (Q R : Content) → IsContent Q → IsBelow Q R → (th : Theorem) → IsDerivable Q th → IsDerivable R th
weakening_of_derivable Q R q below th h = record {
  tree = restricted Q.declarations h.tree;
  conclusion = h.conclusion;
  concludes = restricted-concludes Q R q below h.tree h.conclusion h.concludes;
  under_pairs = h.under_pairs;
  hyps = rw (hyps-restricted Q.declarations h.tree) h.hyps;
  rests = rw (rests-restricted Q.declarations h.tree) h.rests;
}
