-- What stays over the content without some axioms: types and terms are certified as before, and it is a content on which terms are unified.
use Rattle.std.proofs.Common.{◌≡◌, ◌⊎◌, ◌∙◌, ℕ, List, [], ◌∷◌, Bool, true, false, ◌||◌, if◌then◌else◌, inl, inr, refl, ap, sym, subst, nat_eq}
use Rattle.std.proofs.lemmas.Bool.{eq-eqb, eqb-true}
use Rattle.pure_text.specs.Lists.{IsIn, Each}
use Rattle.pure_text.proofs.ListLaws.{each_at, each_of, each_imply}
use Rattle.pure_definitions.specs.Names.{protect_name}
use Rattle.pure_definitions.specs.Types.Typ.{Typ, TFree, TVar, Con, Typs, none, also, typs_count}
use Rattle.pure_definitions.specs.Types.Order.{Algebra, IsCoregular}
use Rattle.pure_definitions.specs.Terms.Term.{Term, Const, Free, Var, Bound, Abs, App}
use Rattle.pure_definitions.specs.Terms.Subst.{IsSortRespecting}
use Rattle.pure_definitions.specs.Declarations.Decl.{Decl, ClassDecl, ConDecl, ArityDecl, ConstDecl, AxiomDecl, PromiseDecl, classes_of, arities_of, algebra_of, IsDeclaredClass}
use Rattle.pure_definitions.specs.Declarations.Certified.{IsCertifiedSort, IsCertifiedTyp, AreCertifiedTyps, IsCertifiedConst, HasCertifiedParts}
use Rattle.pure_logic.specs.Content.{Content, IsContent, IsProposition, IsStatement, IsWellFormed, IsBelow}
use Rattle.pure_logic.specs.PureContent.{pure_declarations}
use Rattle.pure_tunify.specs.Closed.{AreClassesDeclared}
use Rattle.pure_unify_laws.specs.Condition.{IsUnifyContent}
use Rattle.pure_citations.specs.Without.{is_one_of, kept, with_axioms, Stays}
use Rattle.pure_citations.specs.Laws.{StaysExactly}

-- A name is one of these where the test says so.
one-of : (names : List ℕ) (n : ℕ) → IsIn n names → is_one_of names n ≡ true
one-of [] n m = absurd m
one-of (x ∷ xs) n (inl e) = rw (eq-eqb n x e) refl
one-of (x ∷ xs) n (inr m) = rw (one-of xs n m) (or_true (nat_eq n x))
  where
    or_true : (b : Bool) → (b || true) ≡ true
    or_true true = refl
    or_true false = refl

module _ (names : List ℕ) where
  -- an element of a list stays one of each that it becomes by an element more or none
  behind_if : (b : Bool) (d e : Decl) (ds : List Decl) → IsIn d ds → IsIn d (if b then e ∷ ds else ds)
  behind_if true d e ds m = inr m
  behind_if false d e ds m = m

  first_if : (b : Bool) (d : Decl) (ds : List Decl) → b ≡ true → IsIn d (if b then d ∷ ds else ds)
  first_if b d ds e = rw e (inl refl)

  pub in-kept : (d : Decl) (ds : List Decl) → Stays names d → IsIn d ds → IsIn d (kept names ds)
  in-kept d [] s m = m
  in-kept d (ClassDecl k ∷ ds) s m = elim m [ inl e ↦ inl e | inr n ↦ inr (in-kept d ds s n) ]
  in-kept d (ConDecl k c ∷ ds) s m = elim m [ inl e ↦ inl e | inr n ↦ inr (in-kept d ds s n) ]
  in-kept d (ArityDecl a ∷ ds) s m = elim m [ inl e ↦ inl e | inr n ↦ inr (in-kept d ds s n) ]
  in-kept d (ConstDecl c T ∷ ds) s m = elim m [ inl e ↦ inl e | inr n ↦ inr (in-kept d ds s n) ]
  in-kept d (PromiseDecl x l A ∷ ds) s m = elim m [ inl e ↦ inl e | inr n ↦ inr (in-kept d ds s n) ]
  in-kept d (AxiomDecl x A ∷ ds) s m = elim m [
    | inl e ↦ subst (λ c. IsIn c (kept names (AxiomDecl x A ∷ ds))) (sym e)
        (first_if (is_one_of (protect_name ∷ names) x) (AxiomDecl x A) (kept names ds) (one-of (protect_name ∷ names) x (subst (Stays names) e s)))
    | inr n ↦ behind_if (is_one_of (protect_name ∷ names) x) d (AxiomDecl x A) (kept names ds) (in-kept d ds s n)
  ]

  out_if : (b : Bool) (d e : Decl) (ds : List Decl) → IsIn d (if b then e ∷ ds else ds) → IsIn d (e ∷ ds)
  out_if true d e ds m = m
  out_if false d e ds m = inr m

  -- what stays was declared
  pub kept-in : (d : Decl) (ds : List Decl) → IsIn d (kept names ds) → IsIn d ds
  kept-in d [] m = m
  kept-in d (ClassDecl k ∷ ds) m = elim m [ inl e ↦ inl e | inr n ↦ inr (kept-in d ds n) ]
  kept-in d (ConDecl k c ∷ ds) m = elim m [ inl e ↦ inl e | inr n ↦ inr (kept-in d ds n) ]
  kept-in d (ArityDecl a ∷ ds) m = elim m [ inl e ↦ inl e | inr n ↦ inr (kept-in d ds n) ]
  kept-in d (ConstDecl c T ∷ ds) m = elim m [ inl e ↦ inl e | inr n ↦ inr (kept-in d ds n) ]
  kept-in d (PromiseDecl x l A ∷ ds) m = elim m [ inl e ↦ inl e | inr n ↦ inr (kept-in d ds n) ]
  kept-in d (AxiomDecl x A ∷ ds) m = elim (out_if (is_one_of (protect_name ∷ names) x) d (AxiomDecl x A) (kept names ds) m) [ inl e ↦ inl e | inr n ↦ inr (kept-in d ds n) ]

  in_if : (b : Bool) (n : ℕ) (ms : List ℕ) (e : Decl) (ds : List Decl) → (b ≡ true → IsIn n ms) → (d : Decl) → IsIn d (if b then e ∷ ds else ds) → ((d ≡ e) × IsIn n ms) ⊎ IsIn d ds
  in_if true n ms e ds f d (inl same) = inl (same, f refl)
  in_if true n ms e ds f d (inr m) = inr m
  in_if false n ms e ds f d m = inr m

  is_one-in : (ms : List ℕ) (n : ℕ) → is_one_of ms n ≡ true → IsIn n ms
  is_one-in [] n h = absurd (cc)
  is_one-in (m ∷ ms) n h = by (nat_eq n m) refl (is_one-in ms n) h
    where
      by : (b : Bool) → nat_eq n m ≡ b → (is_one_of ms n ≡ true → IsIn n ms) → (b || is_one_of ms n) ≡ true → IsIn n (m ∷ ms)
      by true e later k = inl (eqb-true n m e)
      by false e later k = inr (later k)

  -- and stays
  pub kept-stays : (d : Decl) (ds : List Decl) → IsIn d (kept names ds) → Stays names d
  kept-stays d [] m = absurd m
  kept-stays d (ClassDecl k ∷ ds) m = elim m [ inl e ↦ subst (Stays names) (sym e) tt | inr n ↦ kept-stays d ds n ]
  kept-stays d (ConDecl k c ∷ ds) m = elim m [ inl e ↦ subst (Stays names) (sym e) tt | inr n ↦ kept-stays d ds n ]
  kept-stays d (ArityDecl a ∷ ds) m = elim m [ inl e ↦ subst (Stays names) (sym e) tt | inr n ↦ kept-stays d ds n ]
  kept-stays d (ConstDecl c T ∷ ds) m = elim m [ inl e ↦ subst (Stays names) (sym e) tt | inr n ↦ kept-stays d ds n ]
  kept-stays d (PromiseDecl x l A ∷ ds) m = elim m [ inl e ↦ subst (Stays names) (sym e) tt | inr n ↦ kept-stays d ds n ]
  kept-stays d (AxiomDecl x A ∷ ds) m = elim (in_if (is_one_of (protect_name ∷ names) x) x (protect_name ∷ names) (AxiomDecl x A) (kept names ds) (is_one-in (protect_name ∷ names) x) d m) [
    | inl w ↦ subst (Stays names) (sym w.0) w.1
    | inr n ↦ kept-stays d ds n
  ]

  classes_if : (b : Bool) (x : ℕ) (A : Term) (ds : List Decl) → classes_of (if b then AxiomDecl x A ∷ ds else ds) ≡ classes_of ds
  classes_if true x A ds = refl
  classes_if false x A ds = refl

  arities_if : (b : Bool) (x : ℕ) (A : Term) (ds : List Decl) → arities_of (if b then AxiomDecl x A ∷ ds else ds) ≡ arities_of ds
  arities_if true x A ds = refl
  arities_if false x A ds = refl

  classes-kept : (ds : List Decl) → classes_of (kept names ds) ≡ classes_of ds
  classes-kept [] = refl
  classes-kept (ClassDecl k ∷ ds) = ap (λ ks. k ∷ ks) (classes-kept ds)
  classes-kept (ConDecl k c ∷ ds) = classes-kept ds
  classes-kept (ArityDecl a ∷ ds) = classes-kept ds
  classes-kept (ConstDecl c T ∷ ds) = classes-kept ds
  classes-kept (PromiseDecl x l A ∷ ds) = classes-kept ds
  classes-kept (AxiomDecl x A ∷ ds) = classes_if (is_one_of (protect_name ∷ names) x) x A (kept names ds) ∙ classes-kept ds

  arities-kept : (ds : List Decl) → arities_of (kept names ds) ≡ arities_of ds
  arities-kept [] = refl
  arities-kept (ClassDecl k ∷ ds) = arities-kept ds
  arities-kept (ConDecl k c ∷ ds) = arities-kept ds
  arities-kept (ArityDecl a ∷ ds) = ap (λ as'. a ∷ as') (arities-kept ds)
  arities-kept (ConstDecl c T ∷ ds) = arities-kept ds
  arities-kept (PromiseDecl x l A ∷ ds) = arities-kept ds
  arities-kept (AxiomDecl x A ∷ ds) = arities_if (is_one_of (protect_name ∷ names) x) x A (kept names ds) ∙ arities-kept ds

  pub algebra-kept : (ds : List Decl) → algebra_of (kept names ds) ≡ algebra_of ds
  algebra-kept ds =
      let classes = classes-kept ds in
      let arities = arities-kept ds in
      λ i. record { classes = classes i; arities = arities i }

  class-kept : (ds : List Decl) (c : ℕ) → IsDeclaredClass ds c → IsDeclaredClass (kept names ds) c
  class-kept ds c h = (h.0, in-kept (ClassDecl h.0) ds tt h.1, h.2)

  sort-kept : (ds : List Decl) (s : List ℕ) → IsCertifiedSort ds s → IsCertifiedSort (kept names ds) s
  sort-kept ds s h = (h.0, each_imply (IsDeclaredClass ds) (IsDeclaredClass (kept names ds)) s (class-kept ds) h.1)

  mutual
    typ-kept : (ds : List Decl) (T : Typ) → IsCertifiedTyp ds T → IsCertifiedTyp (kept names ds) T
    typ-kept ds (TFree x s) h = sort-kept ds s h
    typ-kept ds (TVar x i s) h = sort-kept ds s h
    typ-kept ds (Con k ts) h = (in-kept (ConDecl k (typs_count ts)) ds tt h.0, typs-kept ds ts h.1)

    typs-kept : (ds : List Decl) (ts : Typs) → AreCertifiedTyps ds ts → AreCertifiedTyps (kept names ds) ts
    typs-kept ds none h = tt
    typs-kept ds (also t ts) h = (typ-kept ds t h.0, typs-kept ds ts h.1)

  const-kept : (ds : List Decl) (c : ℕ) (T : Typ) → IsCertifiedConst ds c T → IsCertifiedConst (kept names ds) c T
  const-kept ds c T h = (
    h.0,
    in-kept (ConstDecl c h.0) ds tt h.1,
    record { typs = h.2.typs; matches = h.2.matches; respecting = subst (λ (A : Algebra). IsSortRespecting A h.2.typs) (sym (algebra-kept ds)) h.2.respecting },
  )

  parts-kept : (ds : List Decl) (t : Term) → HasCertifiedParts ds t → HasCertifiedParts (kept names ds) t
  parts-kept ds (Const c T) h = (typ-kept ds T h.0, const-kept ds c T h.1)
  parts-kept ds (Free x T) h = typ-kept ds T h
  parts-kept ds (Var x i T) h = typ-kept ds T h
  parts-kept ds (Bound n) h = tt
  parts-kept ds (Abs T b) h = (typ-kept ds T h.0, parts-kept ds b h.1)
  parts-kept ds (App f a) h = (parts-kept ds f h.0, parts-kept ds a h.1)

  module _ (Q : Content) where
    pub proposition-kept : (A : Term) → IsProposition Q A → IsProposition (with_axioms names Q) A
    proposition-kept A h = record { certified = record { parts = parts-kept Q.declarations A h.certified.parts; typ = h.certified.typ; typed = h.certified.typed }; typed = h.typed }

    statement-kept : (A : Term) → IsStatement Q A → IsStatement (with_axioms names Q) A
    statement-kept A h = record { proposition = proposition-kept A h.proposition; schematic = h.schematic }

    well-kept : (d : Decl) → IsWellFormed Q d → IsWellFormed (with_axioms names Q) d
    well-kept (ClassDecl k) h = tt
    well-kept (ConDecl k c) h = tt
    well-kept (ArityDecl a) h = tt
    well-kept (ConstDecl c T) h = h
    well-kept (AxiomDecl x A) h = statement-kept A h
    well-kept (PromiseDecl x l A) h = statement-kept A h

    pub content-kept : IsContent Q → IsContent (with_axioms names Q)
    content-kept q = record {
      named_once = λ d e m n. q.named_once d e (kept-in d Q.declarations m) (kept-in e Q.declarations n);
      labelled_once = λ d e m n. q.labelled_once d e (kept-in d Q.declarations m) (kept-in e Q.declarations n);
      well_formed = each_of (IsWellFormed (with_axioms names Q)) (kept names Q.declarations) (λ d m. well-kept d (each_at (IsWellFormed Q) Q.declarations q.well_formed d (kept-in d Q.declarations m)));
      coregular = subst IsCoregular (sym (algebra-kept Q.declarations)) q.coregular;
    }

    pure-stays : (d : Decl) → IsIn d pure_declarations → Stays names d
    pure-stays d (inl e) = subst (Stays names) (sym e) tt
    pure-stays d (inr (inl e)) = subst (Stays names) (sym e) tt
    pure-stays d (inr (inr (inl e))) = subst (Stays names) (sym e) tt
    pure-stays d (inr (inr (inr (inl e)))) = subst (Stays names) (sym e) tt
    pure-stays d (inr (inr (inr (inr (inl e))))) = subst (Stays names) (sym e) tt
    pure-stays d (inr (inr (inr (inr (inr (inl e)))))) = subst (Stays names) (sym e) tt
    pure-stays d (inr (inr (inr (inr (inr (inr (inl e))))))) = subst (Stays names) (sym e) (inl refl)
    pure-stays d (inr (inr (inr (inr (inr (inr (inr m))))))) = absurd m

    classes_declared-kept : AreClassesDeclared Q.declarations → AreClassesDeclared (kept names Q.declarations)
    classes_declared-kept h = record {
      inclusions = λ k m. each_imply (IsDeclaredClass Q.declarations) (IsDeclaredClass (kept names Q.declarations)) k.above (class-kept Q.declarations) (h.inclusions k (kept-in (ClassDecl k) Q.declarations m));
      classes = λ a m. class-kept Q.declarations a.class (h.classes a (kept-in (ArityDecl a) Q.declarations m));
      domains = λ a m. each_imply (Each (IsDeclaredClass Q.declarations)) (Each (IsDeclaredClass (kept names Q.declarations))) a.domains
          (λ s. each_imply (IsDeclaredClass Q.declarations) (IsDeclaredClass (kept names Q.declarations)) s (class-kept Q.declarations)) (h.domains a (kept-in (ArityDecl a) Q.declarations m));
    }

    pub unify-kept : IsUnifyContent Q → IsUnifyContent (with_axioms names Q)
    unify-kept u = record {
      content = content-kept u.content;
      above = λ d m. in-kept d Q.declarations (pure-stays d m) (u.above d m);
      declared = classes_declared-kept u.declared;
    }

  -- Without the same axioms a content is below each above it.
  pub below-kept : (Q R : Content) → IsBelow Q R → IsBelow (with_axioms names Q) (with_axioms names R)
  below-kept Q R below d m = in-kept d R.declarations (kept-stays d Q.declarations m) (below d (kept-in d Q.declarations m))

pub stays_exactly : StaysExactly
stays_exactly names Q d = (λ m. (kept-in names d Q.declarations m, kept-stays names d Q.declarations m), λ w. in-kept names d Q.declarations w.1 w.0)
